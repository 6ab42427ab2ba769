use Rattle.reconstructor.specs.Applied.{after_gate}
use Rattle.reconstructor.proofs.ByValue.{joins}
use Rattle.reconstructor_apply_trusted.proofs.apply_indexed.Goals as goal

pub returns-in-Err : goal.returns-in-Err
unfolding after_gate
returns-in-Err c =
    let g = rw c.in-Err.is at c.admit.ensures in
    rw (g, c.work_of.ensures, c.refused.ensures)

pub returns-in-Ok : goal.returns-in-Ok
unfolding after_gate
returns-in-Ok c =
    let a = c.args in
    let g = rw c.in-Ok.is at c.admit.ensures in
    rw (g.0, ← g.1, c.work_of-in-Ok.ensures)
    (joins a.last _ a.message c.apply_valid-reply.result _ _ c.apply_valid-reply.ensures c.next_segment-segment.ensures)
