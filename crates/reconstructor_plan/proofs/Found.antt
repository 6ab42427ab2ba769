-- A search of the rows, as the rules see it.
-- Assumes nothing.
use Rattle.std.specs.Prelude.{Option, Some, None}
use Prim.Native.Nat.{ℕ, ◌<◌}
use mathlib.Core.Path.{◌≡◌, refl, sym, ap, ◌∙◌}
use native.Mathlib.Omega.{arith}
use borrow.Author.Tests.{eqb-true, lt-leb}
use lib.Dec.{eqb, leb}
use mathlib.Core.Bool.{Bool, true, false, not, ◌&&◌, cond}
use mathlib.Core.List.{List}
use lib.ListN.{length}
use Rattle.message.specs.declared.L3Side.{L3Side}
use Rattle.message.specs.declared.OrderId.{OrderId}
use Rattle.book.specs.declared.Resting.{Resting}
use Rattle.book.specs.Line.{find, present, rests, has_level, levels}
use Rattle.book.specs.Rows.{row_at, rows_of, line_of, entry_of, find_row, cut_rows}
use Rattle.reconstructor_counts.specs.declared.Counter.{Counter}
use Rattle.reconstructor_state.specs.declared.VenueRules.{VenueRules}
use Rattle.reconstructor_answers.specs.declared.Applied.TheVariants.{BookChanged}
use Rattle.reconstructor_plan.specs.declared.Plan.TheVariants.{Reduce, Remove}
use Rattle.reconstructor_plan.specs.Rules.{no_room}
use Rattle.reconstructor_plan.specs.Plans.{plan_outcome, cut_plan, PlanFits}
use Rattle.book.proofs.Rows.{length-rows}
use Rattle.book.proofs.Moves.{levels_most}
use Rattle.book.proofs.Kept.{length-line}
use Rattle.book.proofs.Stored.{FoundAt, found_at, found_none}

module _ (ws : List ℕ) (n : ℕ) (d : OrderId) (r : Option ℕ) (e : r ≡ find_row (rows_of ws n) d 0) where
  pub at_row : (i : ℕ) → r ≡ Some i → FoundAt ws n d i
  at_row i h = found_at ws n d i (sym e ∙ h)

  pub row-entry : (i : ℕ) (o : Resting) → r ≡ Some i → o ≡ row_at ws i → find d (line_of (rows_of ws n)) ≡ Some (entry_of o)
  row-entry i o h q = (at_row i h).entry ∙ ap (λ (x : Resting). Some (entry_of x)) (sym q)

  pub it-rests : (i : ℕ) → r ≡ Some i → rests d (line_of (rows_of ws n)) ≡ true
  it-rests i h = ap present (at_row i h).entry

  pub no_row : r ≡ None → find d (line_of (rows_of ws n)) ≡ None
  no_row h = found_none (rows_of ws n) d 0 (sym e ∙ h)

pub line-length : (ws : List ℕ) (n : ℕ) → length (line_of (rows_of ws n)) ≡ n
line-length ws n = length-line (rows_of ws n) ∙ length-rows ws 0 n

-- fewer rows than levels permitted leave room for a level
pub room_enough : (v : VenueRules) (ws : List ℕ) (n : ℕ) (s : L3Side) (p : ℕ) → n < v.max_levels → false ≡ no_room v (line_of (rows_of ws n)) s p
room_enough v ws n s p h = go (has_level s p (line_of (rows_of ws n)))
  where
    go : (b : Bool) → false ≡ (not b && leb v.max_levels (levels (line_of (rows_of ws n))))
    go true = refl
    go false = sym (lt-leb v.max_levels (levels (line_of (rows_of ws n))) (omega (arith, h, levels_most (line_of (rows_of ws n)), line-length ws n)))

-- ---- a row cut to r, gone at zero

module _ (ws : List ℕ) (n : ℕ) (d : OrderId) (i : ℕ) (f : FoundAt ws n d i) (r : ℕ) (mark : Option ℕ) (k : Counter) where
  pub cut-outcome : plan_outcome ws n (cut_plan i r mark k) ≡ record { orders = cut_rows d r mark (rows_of ws n); counter = k; answer = BookChanged }
  cut-outcome = go (eqb r 0) refl
    where
      go : (b : Bool) → eqb r 0 ≡ b → plan_outcome ws n (cond b (Remove i k) (Reduce i r mark k)) ≡ record { orders = cut_rows d r mark (rows_of ws n); counter = k; answer = BookChanged }
      go true q = let e : r ≡ 0 = eqb-true r 0 q in rw (e, f.gone mark)
      go false q = rw (f.left r mark q)

  pub cut_fits : PlanFits ws n (cut_plan i r mark k)
  cut_fits = go (eqb r 0)
    where
      go : (b : Bool) → PlanFits ws n (cond b (Remove i k) (Reduce i r mark k))
      go true = f.inside
      go false = f.inside
