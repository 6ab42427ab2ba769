-- No rows are lent, so `own_boundary` alone says whether the state can be loaded. Of the list the read takes only the record at the place and how many there
-- are, and the words give both as `records_of` does (`length-records`).
use mathlib.Core.Path.{sym, ap, ap₂, ◌∙◌}
use Prim.Native.Nat.{ℕ}
use borrow.Author.Tests.{eq-eqb}
use Rattle.host_boundary.proofs.Passed.{own-passed, turned-away, goes_on}
use Rattle.reconstructor_view.specs.ValueReads.{segment_read_to}
use Rattle.reconstructor_view.specs.Numbers.{segment_told}
use Rattle.host_records.proofs.Records.{length-records}
use Rattle.host_answers.specs.Answers.{answered, told_in}
use Rattle.host_views_segment.specs.SegmentViews.{segment_call}
use Rattle.host_views_segment.proofs.segment.Goals as goal

pub returns-then-stop-ne0 : goal.returns-then-stop-ne0
unfolding segment_call
returns-then-stop-ne0 c = turned-away _ _ (λ (n : ℕ). answered n c.args.out.now) _ c.own_boundary-stop.ensures c.if-stop-ne0.true

pub invariant_of-load_book : goal.invariant_of-load_book
invariant_of-load_book c = record { whole = (own-passed c.args.state.now (eq-eqb _ _ (sym c.own_boundary-stop.ensures ∙ c.if-stop-ne0.false))).0 }

pub returns : goal.returns
unfolding segment_call
returns c =
    goes_on _ _ (λ (n : ℕ). answered n c.args.out.now) _ _ c.own_boundary-stop.ensures c.if-stop-ne0.false
    (rw (← c.load_book-book.ensures)
    (c.store_segment.ensures
    ∙ ap (λ x. told_in (segment_told x) c.args.out.now)
    (c.segment_by_value-answer.ensures ∙ ap₂ (λ n g. segment_read_to c.load_book-book.result n c.args.place g) (sym (length-records c.args.segments.now)) c.record_at-record.ensures)))
