-- A run of messages on a book whose state and messages are words: as many calls of `pinuglaw_apply`.
use Rattle.std.specs.Prelude.{ℕ, zero, suc, ◌/◌, ◌≤◌, ◌≡◌, false, List, [], ◌∷◌, ◌++◌, length, drop}
use Rattle.piece.specs.Words.{message_words}
use Rattle.book.specs.Memory.{memory}
use Rattle.reconstructor_state.specs.State.{ceiling}
use Rattle.reconstructor_checks.specs.StateChecks.{Usable}
use Rattle.host_records.specs.Records.{records_in}
use Rattle.host_words.specs.Block.{state_words, book_of}
use Rattle.host_word_tests.specs.WordTests.{no_book}
use Rattle.host_calls.specs.Calls.{apply_call}

-- the numbers of the calls, and the lent words after the last one
pub record Run : Type 0 where
  pub numbers : List ℕ
  pub state : List ℕ
  pub rows : List ℕ
  pub segments : List ℕ

-- a call, and those after it on the words that it left
abbrev pub then : ℕ → Run → Run
then k r = record { numbers = k ∷ r.numbers; state = r.state; rows = r.rows; segments = r.segments }

-- k messages, one after the other
unfoldable pub run : ℕ → List ℕ → List ℕ → List ℕ → List ℕ → Run
run zero st ws sg ms = record { numbers = []; state = st; rows = ws; segments = sg }
run (suc k) st ws sg ms =
    then (apply_call st ws sg ms).number
    (run k (apply_call st ws sg ms).state (apply_call st ws sg ms).rows (apply_call st ws sg ms).segments (drop message_words ms))

-- ---- what the exported call answers and leaves

pub record ApplyAllCall : Type 0 where
  pub number : ℕ
  pub state : List ℕ
  pub rows : List ℕ
  pub segments : List ℕ
  pub answers : List ℕ

abbrev pub apply_all_called : ℕ → List ℕ → List ℕ → List ℕ → List ℕ → ApplyAllCall
apply_all_called k st ws sg out = record { number = k; state = st; rows = ws; segments = sg; answers = out }

-- how many whole messages the words hold
abbrev pub count_of : List ℕ → ℕ
count_of ms = length ms / message_words

-- 0, and the number of each message in a word of its own
abbrev pub after_run : List ℕ → Run → ApplyAllCall
after_run out r = apply_all_called 0 r.state r.rows r.segments (r.numbers ++ drop (length r.numbers) out)

-- ---- what the inner functions require

-- lent words that are enough, and a state that passes 1, 2 and 3
pub record Ready (st ws sg ms out : List ℕ) : Type 0 where
  pub whole : state_words ≤ length st
  pub book : no_book st ≡ false
  pub usable : Usable ceiling (book_of st) (memory ws) (records_in sg)
  pub answered : count_of ms ≤ length out
