-- An index that foresaw a message is, once that is noted, one of the rows that the message leaves.
-- Assumes nothing.
use Rattle.std.specs.Prelude.{Option}
use Prim.Native.Nat.{ℕ}
use mathlib.Core.Path.{◌≡◌, sym, subst, ◌∙◌}
use mathlib.Core.Bool.{true}
use mathlib.Core.List.{List}
use native.Mathlib.Omega.{arith}
use borrow.Author.Tests.{le-ltb}
use lib.ListN.{length}
use Rattle.laws.proofs.Bools.{or_both}
use Rattle.message.specs.declared.L3Message.{L3Message}
use Rattle.book.specs.declared.Resting.{Resting}
use Rattle.book.specs.Rows.{most_rows}
use Rattle.book.specs.Memory.{Memory, memory, orders_of}
use Rattle.book_index.specs.declared.Bounds.{Bounds}
use Rattle.book_index.specs.Index.{row_bounded, all, Indexed, Foreseen, noted}
use Rattle.reconstructor_segments.specs.declared.Segment.{Segment}
use Rattle.reconstructor_state.specs.declared.BookReconstructor.{BookReconstructor}
use Rattle.reconstructor_checks.specs.StateChecks.{Usable, Trusted}
use Rattle.reconstructor.specs.declared.Work.{Work}
use Rattle.reconstructor.specs.Applied.{Worked, worked}
use Rattle.reconstructor.specs.Inner.{trusted_to}
use Rattle.reconstructor.proofs.ByValue.{applied-trusted_to}
use Rattle.reconstructor.proofs.Kept.{indexed-kept}

-- other bounds of the same orders
pub foreseen : (ps : List ℕ) (bd nd : Option Bounds) (os : List Resting) → Indexed ps bd os → all (row_bounded nd) os ≡ true → Indexed ps nd os
foreseen ps bd nd os i h = record { few = i.few; marks = i.marks; within = h; single = i.single }

-- a state that is trusted, with a list of just its records
lent_its_own : (b : BookReconstructor) (mem : Memory) → Trusted most_rows b mem → Usable most_rows b mem b.segments
lent_its_own b mem t = record { within = t.within; lent = or_both _ _ t.room (le-ltb b.segments b.segments (omega arith)); sound = t.sound }

pub noted_indexed : (b : BookReconstructor) (ws vs ps qs : List ℕ) (g : Segment) (m : L3Message) (bd : Option Bounds) (w : Work) → Trusted most_rows b (memory ws) → Indexed ps bd (orders_of (memory ws) b.rows)
    → Foreseen bd m.event → worked w (memory vs) ≡ trusted_to b (memory ws) g m → qs ≡ noted ps b.rows m.event → length qs ≡ length ps → Indexed qs bd (orders_of (memory vs) w.book.rows)
noted_indexed b ws vs ps qs g m bd w t i f e en few =
    let u : Usable most_rows b (memory ws) b.segments = lent_its_own b (memory ws) t in
    subst (λ (x : Worked). Indexed qs bd (orders_of x.memory x.book.rows)) (applied-trusted_to most_rows b (memory ws) b.segments g m u ∙ sym e)
    (rw en (indexed-kept most_rows b (memory ws) b.segments g m ps bd b.rows u i f (rw en at few)))
