-- A number of `own_boundary` is the answer; at 0 the state block is whole, and loads as `book_of`. The status alone tells the invalidation, so no rows are
-- asked for, and `store_invalidation` tells it as `told_in` does.
use mathlib.Core.Path.{sym, ap, ◌∙◌}
use Prim.Native.Nat.{ℕ}
use borrow.Author.Tests.{eq-eqb}
use Rattle.host_boundary.proofs.Passed.{own-passed, turned-away, goes_on}
use Rattle.reconstructor_view.specs.Numbers.{invalidation_told}
use Rattle.host_answers.specs.Answers.{answered, told_in}
use Rattle.host_views_segment.specs.SegmentViews.{invalidation_call}
use Rattle.host_views_segment.proofs.invalidation.Goals as goal

pub returns-then-stop-ne0 : goal.returns-then-stop-ne0
unfolding invalidation_call
returns-then-stop-ne0 c = turned-away _ _ (λ (n : ℕ). answered n c.args.out.now) _ c.own_boundary-stop.ensures c.if-stop-ne0.true

pub invariant_of-load_book : goal.invariant_of-load_book
invariant_of-load_book c = record { whole = (own-passed c.args.state.now (eq-eqb _ _ (sym c.own_boundary-stop.ensures ∙ c.if-stop-ne0.false))).0 }

pub returns : goal.returns
unfolding invalidation_call
returns c =
    goes_on _ _ (λ (n : ℕ). answered n c.args.out.now) _ _ c.own_boundary-stop.ensures c.if-stop-ne0.false
    (rw (← c.load_book-book.ensures) (c.store_invalidation.ensures ∙ ap (λ x. told_in (invalidation_told x) c.args.out.now) c.invalidation.ensures.value))
