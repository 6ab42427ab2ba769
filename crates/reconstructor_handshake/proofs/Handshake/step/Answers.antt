-- The work is done on the last record, and its record is put back in that one's place: so is what `stepped` puts back.
use mathlib.Core.Path.{ap}
use Rattle.reconstructor_handshake.specs.Step.{StepParts, step_told, put_back, stepped}
use Rattle.reconstructor_handshake.proofs.Handshake.step.Goals as goal

pub returns : goal.returns
unfolding stepped
returns c =
    let e = rw (c.last_segment-last.ensures, c.segment_count-count.ensures) at c.step_by_value-work.ensures in
    let x = ap (put_back c.args.segments.now c.args.book.segments) e in
    rw (c.reply_of.ensures, c.rewrite_last.ensures, c.segment_of-segment.ensures, c.segment_count-count.ensures)
    (x, ap (λ (p : StepParts). step_told p.answer) x)
