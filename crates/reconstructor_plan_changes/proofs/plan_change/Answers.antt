-- The search finds the order that `find` has in the line, or both find none; then the tests are those of `change_refusal`, in its order. Past them the new size
-- is equal to what is left, and nothing is done, or smaller, and a cut of the found row is `cut_rows` by its id (`cut-outcome`).
use Rattle.std.specs.Prelude.{Some}
use mathlib.Core.Path.{◌≡◌, ◌∙◌, ap, refl}
use borrow.Author.Tests.{eq-eqb, ne_eqb, lt-ltb, le-ltb}
use mir.Syntax.{w64}
use mir.Val.{to_z, of_z}
use borrow.Author.Rules.{rules}
use Rattle.reconstructor_counts.specs.declared.Counter.TheVariants.{Stp}
use Rattle.message.specs.Amounts.{nat_of}
use Rattle.reconstructor_plan.specs.Rules.{event_refusal, change_refusal, size_refusal, event_deed, effect, counter_of}
use Rattle.reconstructor_state.proofs.Checks.{fails, goes_on, told-true, told-false, links}
use Rattle.reconstructor_plan.proofs.Found.{cut-outcome, cut_fits, at_row, row-entry, no_row}
use Rattle.reconstructor_plan_changes.proofs.plan_change.Goals as goal

pub returns-in_default : goal.returns-in_default
unfolding event_refusal change_refusal size_refusal event_deed effect counter_of
returns-in_default c = λ v. rw (no_row _ _ _ _ c.find.ensures c.in_default.is) (refl, refl, tt)

pub get-order-requires : goal.get-order-requires
get-order-requires c = (at_row _ _ _ _ c.find.ensures _ c.in-Some.is).inside

pub returns-then-is_modify : goal.returns-then-is_modify
unfolding event_refusal change_refusal size_refusal event_deed effect counter_of
returns-then-is_modify c =
    let f = row-entry _ _ _ _ c.find.ensures _ c.get-order.result c.in-Some.is c.get-order.ensures in
    λ v. rw f (search links depth 20)

pub returns-then-change_differs : goal.returns-then-change_differs
unfolding event_refusal change_refusal size_refusal event_deed effect counter_of
returns-then-change_differs c =
    let f = row-entry _ _ _ _ c.find.ensures _ c.get-order.result c.in-Some.is c.get-order.ensures in
    λ v. rw f (search links depth 20)

pub returns-then-given_differs : goal.returns-then-given_differs
unfolding event_refusal change_refusal size_refusal event_deed effect counter_of
returns-then-given_differs c =
    let f = row-entry _ _ _ _ c.find.ensures _ c.get-order.result c.in-Some.is c.get-order.ensures in
    λ v. rw f (search links depth 20)

pub returns-in_default-new_size : goal.returns-in_default-new_size
unfolding event_refusal change_refusal size_refusal event_deed effect counter_of
returns-in_default-new_size c =
    let f = row-entry _ _ _ _ c.find.ensures _ c.get-order.result c.in-Some.is c.get-order.ensures in
    λ v. rw (f, c.in_default-new_size.is, c.reason_of.ensures)
    (goes_on _ _ _ _ (told-false c.is_modify.ensures c.if-is_modify.false) (goes_on _ _ _ _ (told-false c.change_differs.ensures c.if-change_differs.false) (goes_on _ _ _ _ (told-false c.given_differs.ensures c.if-given_differs.false) (refl))))

pub returns-then-is_negative : goal.returns-then-is_negative
unfolding event_refusal change_refusal size_refusal event_deed effect counter_of
returns-then-is_negative c =
    let e : to_z w64 (of_z w64 c.in-Some-new_size.size) ≡ c.in-Some-new_size.size = search rules in
    let f = row-entry _ _ _ _ c.find.ensures _ c.get-order.result c.in-Some.is c.get-order.ensures in
    let n = rw e at c.is_negative.ensures in
    λ v. rw (f, c.in-Some-new_size.is)
    (goes_on _ _ _ _ (told-false c.is_modify.ensures c.if-is_modify.false) (goes_on _ _ _ _ (told-false c.change_differs.ensures c.if-change_differs.false) (goes_on _ _ _ _ (told-false c.given_differs.ensures c.if-given_differs.false) (fails _ _ _ (told-true n c.if-is_negative.true)))))

pub returns-then-order-left : goal.returns-then-order-left
unfolding event_refusal change_refusal size_refusal event_deed effect counter_of
returns-then-order-left c =
    let e : to_z w64 (of_z w64 c.in-Some-new_size.size) ≡ c.in-Some-new_size.size = search rules in
    let f = row-entry _ _ _ _ c.find.ensures _ c.get-order.result c.in-Some.is c.get-order.ensures in
    let n = rw e at c.is_negative.ensures in
    let q = c.size_of-left.ensures ∙ ap nat_of e in
    λ v. rw (f, c.in-Some-new_size.is, ← q)
    (goes_on _ _ _ _ (told-false c.is_modify.ensures c.if-is_modify.false) (goes_on _ _ _ _ (told-false c.change_differs.ensures c.if-change_differs.false) (goes_on _ _ _ _ (told-false c.given_differs.ensures c.if-given_differs.false) (goes_on _ _ _ _ (told-false n c.if-is_negative.false) (fails _ _ _ (lt-ltb _ _ c.if-order-left.true))))))

pub returns-then-left-order : goal.returns-then-left-order
unfolding event_refusal change_refusal size_refusal event_deed effect counter_of
returns-then-left-order c =
    let e : to_z w64 (of_z w64 c.in-Some-new_size.size) ≡ c.in-Some-new_size.size = search rules in
    let f = row-entry _ _ _ _ c.find.ensures _ c.get-order.result c.in-Some.is c.get-order.ensures in
    let n = rw e at c.is_negative.ensures in
    let q = c.size_of-left.ensures ∙ ap nat_of e in
    λ v. rw (f, c.in-Some-new_size.is, ← q, eq-eqb _ _ c.if-left-order.true)
    (goes_on _ _ _ _ (told-false c.is_modify.ensures c.if-is_modify.false) (goes_on _ _ _ _ (told-false c.change_differs.ensures c.if-change_differs.false) (goes_on _ _ _ _ (told-false c.given_differs.ensures c.if-given_differs.false) (goes_on _ _ _ _ (told-false n c.if-is_negative.false) (goes_on _ _ _ _ (le-ltb _ _ c.if-order-left.false) (refl))))), refl, tt)

pub returns : goal.returns
unfolding event_refusal change_refusal size_refusal event_deed effect counter_of
returns c =
    let e : to_z w64 (of_z w64 c.in-Some-new_size.size) ≡ c.in-Some-new_size.size = search rules in
    let f = row-entry _ _ _ _ c.find.ensures _ c.get-order.result c.in-Some.is c.get-order.ensures in
    let n = rw e at c.is_negative.ensures in
    let q = c.size_of-left.ensures ∙ ap nat_of e in
    let k = at_row _ _ _ _ c.find.ensures _ c.in-Some.is in
    let g = cut-outcome c.args.index.rows.words.now c.args.index.rows.count c.args.order_id _ k c.size_of-left.result (Some c.args.seq) Stp in
    let h = cut_fits c.args.index.rows.words.now c.args.index.rows.count c.args.order_id _ k c.size_of-left.result (Some c.args.seq) Stp in
    λ v. (rw (f, c.in-Some-new_size.is, ← q) (goes_on _ _ _ _ (told-false c.is_modify.ensures c.if-is_modify.false) (goes_on _ _ _ _ (told-false c.change_differs.ensures c.if-change_differs.false) (goes_on _ _ _ _ (told-false c.given_differs.ensures c.if-given_differs.false) (goes_on _ _ _ _ (told-false n c.if-is_negative.false) (goes_on _ _ _ _ (le-ltb _ _ c.if-order-left.false) (refl)))))), rw (c.cut_plan.ensures, f, c.in-Some-new_size.is, ← q, ne_eqb _ _ c.if-left-order.false) g, rw c.cut_plan.ensures h)
