-- The search finds the order that `find` has in the line, or both find none, which is no effect; then the tests are those of `done_refusal`, in its order,
-- and a fill never passes. Past them the found row is removed, which is `cut_rows` by its id to 0.
use Rattle.std.specs.Prelude.{None}
use mathlib.Core.Path.{refl}
use Rattle.reconstructor_plan.specs.Rules.{event_refusal, done_refusal, event_deed, effect, counter_of}
use Rattle.reconstructor_state.proofs.Checks.{links}
use Rattle.reconstructor_plan.proofs.Found.{at_row, row-entry, no_row}
use Rattle.reconstructor_plan_orders.proofs.plan_done.Goals as goal

pub returns-in_default : goal.returns-in_default
unfolding event_refusal done_refusal event_deed effect counter_of
returns-in_default c = λ v seq. rw (no_row _ _ _ _ c.find.ensures c.in_default.is) (refl, refl, tt)

pub get-order-requires : goal.get-order-requires
get-order-requires c = (at_row _ _ _ _ c.find.ensures _ c.in-Some.is).inside

pub returns-then-done_differs : goal.returns-then-done_differs
unfolding event_refusal done_refusal event_deed effect counter_of
returns-then-done_differs c =
    let f = row-entry _ _ _ _ c.find.ensures _ c.get-order.result c.in-Some.is c.get-order.ensures in
    λ v seq. rw f (search links depth 20)

pub returns-then-absent_or_differs : goal.returns-then-absent_or_differs
unfolding event_refusal done_refusal event_deed effect counter_of
returns-then-absent_or_differs c =
    let f = row-entry _ _ _ _ c.find.ensures _ c.get-order.result c.in-Some.is c.get-order.ensures in
    λ v seq. rw (f, c.in-Canceled.is) (search links depth 20)

pub returns-in-Filled : goal.returns-in-Filled
unfolding event_refusal done_refusal event_deed effect counter_of
returns-in-Filled c =
    let f = row-entry _ _ _ _ c.find.ensures _ c.get-order.result c.in-Some.is c.get-order.ensures in
    λ v seq. rw (f, c.in-Filled.is) (search links depth 20)

pub returns-else-absent_or_differs : goal.returns-else-absent_or_differs
unfolding event_refusal done_refusal event_deed effect counter_of
returns-else-absent_or_differs c =
    let f = row-entry _ _ _ _ c.find.ensures _ c.get-order.result c.in-Some.is c.get-order.ensures in
    let k = at_row _ _ _ _ c.find.ensures _ c.in-Some.is in
    λ v seq. rw (f, c.in-Canceled.is, k.gone None) (search links depth 20, refl, k.inside)
