-- How a call is recorded: a header of 32 bytes and a payload. Numbers are little-endian; bytes that are not there are read as 0.
--   0        operation
--   1        whose answer is recorded: 0 the Rust's, 1 the runner's (what the Rust lacks, such as 1, 2 and 7), else the model's
--   2 to 13  six lengths of two bytes: the payload in bytes; rows, segments, scratch, output and ahead-list lent, in words (at most 2,048, 512,
--            256, 1,280 and 768: the program has no more)
--   14, 15   a side (0 buy, 1 sell; another is none, and answered by 4); of a write the memory: 0 the state, 1 the rows, else the segments
--   16, 24   two arguments of eight bytes
-- The program keeps one book, and lends each call the first words of its memory. Operations, their arguments and payloads:
--   0  create                the rows' seed; the first six words of the state (the others become 0, as the segments do; the rows become what the seed gives)
--   1  write                 the place of the first word; the words
--   2  bootstrap             a snapshot piece
--   3  apply                 a message piece, which is read and then applied
--   4  handshake
--   5  step                  the handshake's four words, then a message piece
--   6  last_sequence, 7 best, 8 audit
--   9  level_queue           the price
--   10 priority_profile, 11 l2, 12 stale_l2
--   13 queue_estimate        the price
--   14 queue_estimate_own    the id's high and low word
--   15 volume_ahead          the estimate's eight words, then the words of its list
--   16 invalidation
--   17 segment               its place in the list
-- Any other is answered by a line without a number. A list ends where fewer bytes are left than a call has.
use Rattle.std.specs.Prelude.{ℕ, zero, suc, ◌+◌, ◌-◌, ◌*◌, List, [], ◌∷◌, cond, ltb, length, get_or, set, drop}
use Rattle.recorded.specs.declared.Header.{Header}
use Rattle.recorded.specs.declared.Operation.{Operation}
use Rattle.recorded.specs.declared.Operation.TheVariants.{Create, Write, Bootstrap, Apply, Handshake, Step, LastSequence, Best, Audit, LevelQueue, PriorityProfile, L2, StaleL2, QueueEstimate, QueueEstimateOwn, VolumeAhead, Invalidation, Segment, Unknown}
use Rattle.recorded.specs.declared.Voice.{Voice}
use Rattle.recorded.specs.declared.Voice.TheVariants.{Rust, Runner, Model}

abbrev pub half_at : List ℕ → ℕ → ℕ
half_at bytes at = get_or bytes at 0 + 256 * get_or bytes (at + 1) 0

abbrev pub word_at : List ℕ → ℕ → ℕ
word_at bytes at =
    half_at bytes at + 65536 * half_at bytes (at + 2) + 4294967296 * half_at bytes (at + 4) + 281474976710656 * half_at bytes (at + 6)

-- the calls by their numbers
abbrev pub operations : List Operation
operations =
    Create ∷ Write ∷ Bootstrap ∷ Apply ∷ Handshake ∷ Step ∷ LastSequence ∷ Best ∷ Audit ∷ LevelQueue ∷ PriorityProfile ∷ L2 ∷ StaleL2 ∷ QueueEstimate
    ∷ QueueEstimateOwn ∷ VolumeAhead ∷ Invalidation ∷ Segment ∷ []

abbrev pub operation_of : ℕ → Operation
operation_of number = get_or operations number (Unknown number)

abbrev pub voice_of : ℕ → Voice
voice_of number = get_or (Rust ∷ Runner ∷ []) number (Model number)

unfoldable pub header_of : List ℕ → Header
header_of bytes =
    record {
      operation = operation_of (get_or bytes 0 0);
      voice = voice_of (get_or bytes 1 0);
      payload = half_at bytes 2;
      rows = half_at bytes 4;
      segments = half_at bytes 6;
      scratch = half_at bytes 8;
      output = half_at bytes 10;
      ahead = half_at bytes 12;
      which = half_at bytes 14;
      first = word_at bytes 16;
      second = word_at bytes 24;
    }

-- words from the place i on, k at most, that whole words of the bytes replace
unfoldable pub loaded_by : ℕ → List ℕ → ℕ → List ℕ → List ℕ
loaded_by zero ws i bytes = ws
loaded_by (suc k) ws i bytes = cond (ltb (length bytes) 8) ws (loaded_by k (set ws i (word_at bytes 0)) (i + 1) (drop 8 bytes))

-- as far as both reach
abbrev pub loaded : List ℕ → ℕ → List ℕ → List ℕ
loaded ws first bytes = loaded_by (length ws - first) ws first bytes
