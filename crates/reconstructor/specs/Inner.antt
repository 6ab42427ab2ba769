-- What the inner functions promise, by cases on their answers, and the work of a state that was tested before.
use Rattle.std.specs.Prelude.{ℕ, ◌≡◌, List, length, Option, Some, None, Result, Ok, Err}
use Rattle.message.specs.declared.L3Message.{L3Message}
use Rattle.book.specs.Rows.{rows_of, stored}
use Rattle.book.specs.Memory.{Memory, memory}
use Rattle.reconstructor_answers.specs.declared.InvalidationKind.{InvalidationKind}
use Rattle.reconstructor_answers.specs.declared.ApplyError.{ApplyError}
use Rattle.reconstructor_segments.specs.declared.Segment.{Segment}
use Rattle.reconstructor_state.specs.declared.BookReconstructor.{BookReconstructor}
use Rattle.reconstructor_plan.specs.Rules.{Deed}
use Rattle.reconstructor_plan.specs.Plans.{PlanOutcome, deed_outcome, plan_outcome, PlanFits}
use Rattle.reconstructor.specs.declared.Reply.{Reply}
use Rattle.reconstructor.specs.declared.Work.{Work}
use Rattle.reconstructor.specs.Refusals.{admit_refusal}
use Rattle.reconstructor.specs.Applied.{Core, core, Worked, accepted_reply, after_gate}
use Rattle.reconstructor_plan.specs.declared.Plan.{Plan}

abbrev pub AdmitsFor : Option ApplyError → ℕ → Result ℕ ApplyError → Type 0
AdmitsFor refusal last (Err a) = refusal ≡ Some a
AdmitsFor refusal last (Ok l) = (refusal ≡ None) × (l ≡ last)

abbrev pub TurnsFor : Option InvalidationKind → Deed → List ℕ → ℕ → Result Plan InvalidationKind → Type 0
TurnsFor refusal deed ws n (Err k) = refusal ≡ Some k
TurnsFor refusal deed ws n (Ok p) = (refusal ≡ None) × (plan_outcome ws n p ≡ deed_outcome deed (rows_of ws n)) × PlanFits ws n p

-- what an outcome leaves of the state and the rows
unfoldable pub committed : BookReconstructor → List ℕ → ℕ → PlanOutcome → Core
committed b ws seq o = core (accepted_reply b seq (length o.orders) o.counter o.answer) (memory (stored ws b.rows o.orders))

-- a message in a state that passes 1, 2 and 3
abbrev pub trusted_to : BookReconstructor → Memory → Segment → L3Message → Worked
trusted_to b mem g m = after_gate b mem g m (admit_refusal b.product_id b.status m)

abbrev pub reply_of : Work → Reply
reply_of w = record { book = w.book; answer = w.answer }
