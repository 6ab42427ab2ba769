-- The work is done on the last record, and its record is put back in that one's place: so is what `applied` puts back.
use mathlib.Core.Path.{ap}
use Rattle.book.specs.Memory.{memory}
use Rattle.reconstructor_answers.specs.Numbers.{answer_told}
use Rattle.reconstructor_state.specs.State.{ceiling}
use Rattle.reconstructor.specs.Applied.{Parts, applied, put_back}
use Rattle.reconstructor_apply_list.proofs.apply.Goals as goal

pub returns : goal.returns
unfolding applied
returns c =
    let e = rw (c.last_segment-last.ensures, c.segment_count-count.ensures) at c.apply_by_value-work.ensures in
    let x = ap (put_back c.args.segments.now c.args.book.segments) e in
    rw (c.reply_of.ensures, c.rewrite_last.ensures, c.segment_of-segment.ensures, c.segment_count-count.ensures)
    (x, ap (λ (p : Parts). answer_told p.answer) x)
