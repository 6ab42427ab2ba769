-- What every exported level read comes to: what it answers and leaves in the words that it is lent; and what stands in its way.
use Rattle.std.specs.Prelude.{ℕ, cond, false, List, eqb, ltb, length, get_or}
use Rattle.message.specs.Told.{Told}
use Rattle.book.specs.Memory.{memory, extent_of}
use Rattle.reconstructor_state.specs.State.{ceiling, last_of}
use Rattle.reconstructor_view.specs.Numbers.{sequence_told}
use Rattle.reconstructor_view.specs.ValueReads.{sequence_of, view_refusal_of}
use Rattle.reconstructor_reads.specs.Numbers.{level_told}
use Rattle.reconstructor_reads.specs.LevelReads.{LevelRead}
use Rattle.host_words.specs.Block.{book_of}
use Rattle.host_word_tests.specs.WordTests.{no_bit}
use Rattle.host_boundary.specs.Boundary.{boundary}
use Rattle.host_answers.specs.Answers.{told_in, lastly}

-- the answer, and the lent words afterwards
pub record LevelCall : Type 0 where
  pub number : ℕ
  pub scratch : List ℕ
  pub out : List ℕ
  pub count : List ℕ

abbrev pub level_called : ℕ → List ℕ → List ℕ → List ℕ → LevelCall
level_called k sc out count = record { number = k; scratch = sc; out = out; count = count }

-- what is left of scratch and output, where there is a word for the number of entries; else they are as lent
abbrev pub counted : Told → List ℕ → List ℕ → List ℕ → List ℕ → List ℕ → LevelCall
counted t left shown sc out count =
    cond (ltb (length count) 1) (level_called (lastly t.number) sc out count) (level_called (told_in t count).number left shown (told_in t count).out)

abbrev pub after_level : List ℕ → List ℕ → List ℕ → LevelRead → LevelCall
after_level sc out count r = counted (level_told r.answer) r.scratch r.out sc out count

-- what the words are turned away for
abbrev pub level_boundary : List ℕ → List ℕ → ℕ → ℕ → ℕ
level_boundary st ws scratch side = boundary st (extent_of (memory ws)) (ltb scratch (get_or st 3 0)) false (no_bit side)

-- ---- what stands in the way, as a number: an inner function's promise, not for a reader to believe; a read's own is by `profile_call` and its kin

-- what the words are turned away for; then, where there is no word for the number of entries, what is told without them, which is never 0; else 0
unfoldable pub stop_of : ℕ → ℕ → ℕ → ℕ
stop_of turned count number = cond (eqb turned 0) (cond (ltb count 1) (lastly number) 0) turned

-- of a read of a valid book with so many words of scratch
abbrev pub level_stop : List ℕ → List ℕ → ℕ → ℕ → ℕ → ℕ
level_stop st ws scratch side count =
    stop_of (level_boundary st ws scratch side) count
    (sequence_told (sequence_of (view_refusal_of ceiling (book_of st) (memory ws) (ltb scratch (book_of st).rules.max_orders)) (last_of (book_of st).status))).number
