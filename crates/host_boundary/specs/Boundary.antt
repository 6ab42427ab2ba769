-- What the words of an exported call are turned away for before the rules are worked: what 01 does not admit, and what it does not speak of. In turn:
--   768  an input of fixed size is lent shorter than it is: 27 words of state, 21 of a message, 4 of a handshake, 8 of an estimate. No number of 01's table, which has
--        no words: the call is no call yet
--   4    a kind, side, reason, presence, flag or number that no message, handshake, estimate or side has, as bytes may be no piece
--   3    a state block whose size_decrease, status or reason no book has: the words lent are no book. After 1 and 2, where the call is lent rows
-- Then nothing is touched. The layouts are in Block.antt of `host_words`, and beside the values; words that no field names do not matter.
use Rattle.std.specs.Prelude.{ℕ, Bool, ◌||◌, cond, List, eqb, ltb, length}
use Rattle.book.specs.Memory.{Extent}
use Rattle.reconstructor_state.specs.declared.VenueRules.{VenueRules}
use Rattle.reconstructor_state.specs.State.{ceiling}
use Rattle.reconstructor_checks.specs.StateChecks.{over_ceiling, memory_short}
use Rattle.host_word_tests.specs.WordTests.{no_book}
use Rattle.host_words.specs.Block.{state_words, rules_of}

abbrev pub short_input : ℕ
short_input = 768

-- ---- 3

-- 1, 2, then 3, the ceiling being an argument; `less` says that scratch is under max_orders, or the list shorter than the segment count
unfoldable pub no_book_number : ℕ → VenueRules → Extent → Bool → ℕ
no_book_number top v lent less = cond (over_ceiling top v) 1 (cond (memory_short v lent || less) 2 3)

-- ---- in turn

-- the number, or 0 where the words stand for values, of a call that is lent so much memory. `short` says that another input is too short, `wrong` that its words are those of no value
unfoldable pub boundary : List ℕ → Extent → Bool → Bool → Bool → ℕ
boundary st lent less short wrong =
    cond (ltb (length st) state_words || short) short_input (cond wrong 4 (cond (no_book st) (no_book_number ceiling (rules_of st) lent less) 0))

-- of a call that is lent no rows, and tells the state's own fields or the list's: 1 and 2 do not arise there
unfoldable pub own_boundary : List ℕ → ℕ
own_boundary st = cond (ltb (length st) state_words) short_input (cond (no_book st) 3 0)

-- what a call comes to: what it is turned away with, or else
abbrev pub unless_turned : {A : Type 0} → ℕ → (ℕ → A) → A → A
unless_turned k away a = cond (eqb k 0) a (away k)
