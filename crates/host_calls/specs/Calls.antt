-- The exported calls on a book: what a call answers and leaves.
use Rattle.std.specs.Prelude.{ℕ, List, Bool, false, ◌||◌, eqb, ltb, length, get_or}
use Rattle.piece.specs.Words.{message_words}
use Rattle.book.specs.Memory.{memory, extent_of}
use Rattle.host_records.specs.Records.{records_in, records_of, relaid}
use Rattle.reconstructor_answers.specs.Numbers.{answer_told}
use Rattle.host_words.specs.Block.{book_of, restored, message_of, sets_status}
use Rattle.host_word_tests.specs.WordTests.{no_handshake}
use Rattle.host_message_tests.specs.MessageTests.{no_message}
use Rattle.host_boundary.specs.Boundary.{boundary, unless_turned}
use Rattle.reconstructor.specs.Applied.{Parts, applied}
use Rattle.reconstructor_bootstrap.specs.Numbers.{snapshot_told}
use Rattle.reconstructor_bootstrap.specs.Bootstrap.{Parts as SnapshotParts, bootstrapped}
use Rattle.reconstructor_state.specs.State.{ceiling}
use Rattle.reconstructor_handshake.specs.Step.{StepParts, step_told, stepped}
use Rattle.host_handshake.specs.HandshakeWords.{handshake_words, handshake_of, handshake_left, step_sets}

-- the answer, and the lent words afterwards
pub record BookCall : Type 0 where
  pub number : ℕ
  pub state : List ℕ
  pub rows : List ℕ
  pub segments : List ℕ

abbrev pub called : ℕ → List ℕ → List ℕ → List ℕ → BookCall
called k st ws sg = record { number = k; state = st; rows = ws; segments = sg }

-- what the rules leave, written back
abbrev pub after_apply : List ℕ → List ℕ → Parts → BookCall
after_apply st sg p =
    called (answer_told p.answer).number (restored st (sets_status p.answer) p.book) p.memory.rows (relaid sg p.segments)

-- 0 is the one answer that sets the status
abbrev pub after_bootstrap : List ℕ → List ℕ → SnapshotParts → BookCall
after_bootstrap st sg p =
    called (snapshot_told p.answer).number (restored st (eqb (snapshot_told p.answer).number 0) p.book) p.memory.rows (relaid sg p.segments)

-- what the words are turned away for; a list of whole records
abbrev pub call_boundary : List ℕ → List ℕ → List ℕ → Bool → Bool → ℕ
call_boundary st ws sg short wrong = boundary st (extent_of (memory ws)) (ltb (records_in sg) (get_or st 14 0)) short wrong

unfoldable pub apply_call : List ℕ → List ℕ → List ℕ → List ℕ → BookCall
apply_call st ws sg m =
    unless_turned (call_boundary st ws sg (ltb (length m) message_words) (no_message m)) (λ (k : ℕ). called k st ws sg)
    (after_apply st sg (applied ceiling (book_of st) (memory ws) (records_of sg) (message_of m)))

unfoldable pub bootstrap_call : List ℕ → List ℕ → List ℕ → List ℕ → BookCall
bootstrap_call st ws sg bytes =
    unless_turned (call_boundary st ws sg false false) (λ (k : ℕ). called k st ws sg)
    (after_bootstrap st sg (bootstrapped ceiling (book_of st) (memory ws) (records_of sg) bytes))

-- ---- steps of a handshake

pub record StepCall : Type 0 where
  pub number : ℕ
  pub state : List ℕ
  pub rows : List ℕ
  pub segments : List ℕ
  pub handshake : List ℕ

abbrev pub step_called : ℕ → List ℕ → List ℕ → List ℕ → List ℕ → StepCall
step_called k st ws sg hs = record { number = k; state = st; rows = ws; segments = sg; handshake = hs }

abbrev pub after_step : List ℕ → List ℕ → List ℕ → StepParts → StepCall
after_step st sg hs p =
    step_called (step_told p.answer).number (restored st (step_sets p.answer) p.book) p.memory.rows (relaid sg p.segments)
    (handshake_left hs p.handshake)

unfoldable pub step_call : List ℕ → List ℕ → List ℕ → List ℕ → List ℕ → StepCall
step_call st ws sg hs m =
    unless_turned (call_boundary st ws sg (ltb (length hs) handshake_words || ltb (length m) message_words) (no_handshake hs || no_message m)) (λ (k : ℕ). step_called k st ws sg hs)
    (after_step st sg hs (stepped ceiling (handshake_of hs) (book_of st) (memory ws) (records_of sg) (message_of m)))
