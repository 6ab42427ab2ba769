-- The port's own checks of a state: 1, 2 and 3.
use Rattle.std.specs.Prelude.{ℕ, ◌*◌, ◌≡◌, Bool, false, ◌||◌, eqb, ltb, Option, Some, None, Result, Ok, Err, ⊤}
use Rattle.book.specs.Rows.{row_words}
use Rattle.book.specs.Memory.{Memory, Extent, extent_of, orders_of}
use Rattle.book.specs.Broken.{rows_broken}
use Rattle.reconstructor_state.specs.declared.VenueRules.{VenueRules}
use Rattle.reconstructor_state.specs.declared.Status.{Status}
use Rattle.reconstructor_state.specs.declared.Status.TheVariants.{Empty, Valid, Invalidated}
use Rattle.reconstructor_answers.specs.declared.StateError.{StateError}
use Rattle.reconstructor_answers.specs.declared.StateError.TheVariants.{LimitAboveCeiling, LentTooShort, MalformedBook}
use Rattle.reconstructor_state.specs.declared.BookReconstructor.{BookReconstructor}
use Rattle.reconstructor_state.specs.Checks.{check}
use Rattle.reconstructor_state.specs.State.{Lengths, lengths_with}

-- 1: "an order or level limit above 4,096", the ceiling being an argument
abbrev pub over_ceiling : ℕ → VenueRules → Bool
over_ceiling top v = ltb top v.max_orders || ltb top v.max_levels

-- 2, of the memory: "rows under 8 × max_orders words"
abbrev pub memory_short : VenueRules → Extent → Bool
memory_short v lent = ltb lent.rows (row_words * v.max_orders)

-- 2: that, "or list shorter than the segment count"
abbrev pub too_short : VenueRules → Lengths → ℕ → Bool
too_short v lent segments = memory_short v lent.memory || ltb lent.segments segments

-- 3, of the status: "no segment once bootstrapped; rows or segments before"
abbrev pub unsettled : Status → ℕ → ℕ → Bool
unsettled Empty rows segments = ltb 0 rows || ltb 0 segments
unsettled (Valid last) rows segments = eqb segments 0
unsettled (Invalidated i) rows segments = eqb segments 0

-- 3: "rows above max_orders", the rows' part, and the status'
unfoldable pub broken : BookReconstructor → Memory → Bool
broken b mem =
    ltb b.rules.max_orders b.rows ||
    (rows_broken b.rules.max_levels (orders_of mem b.rows) || unsettled b.status b.rows b.segments)

-- 1, 2, 3 of a book with so many segments; `three` says whether number 3 arises, which takes more than the rules go by
unfoldable pub state_refusal : ℕ → VenueRules → Lengths → Bool → ℕ → Option StateError
state_refusal top v lent three segments =
    check (over_ceiling top v) LimitAboveCeiling (check (too_short v lent segments) LentTooShort (check three MalformedBook None))

-- of a state with lent memory and a lent list of so many records
abbrev pub book_refusal : ℕ → BookReconstructor → Memory → ℕ → Option StateError
book_refusal top b mem lent = state_refusal top b.rules (lengths_with mem lent) (broken b mem) b.segments

unfoldable pub checked : Option StateError → Result ⊤ StateError
checked None = Ok tt
checked (Some e) = Err e

-- a state that passes 1, 2 and 3
pub record Usable (top : ℕ) (b : BookReconstructor) (mem : Memory) (records : ℕ) : Type 0 where
  pub within : over_ceiling top b.rules ≡ false
  pub lent : too_short b.rules (lengths_with mem records) b.segments ≡ false
  pub sound : broken b mem ≡ false

-- what of it is about the state and the memory
pub record Trusted (top : ℕ) (b : BookReconstructor) (mem : Memory) : Type 0 where
  pub within : over_ceiling top b.rules ≡ false
  pub room : memory_short b.rules (extent_of mem) ≡ false
  pub sound : broken b mem ≡ false
