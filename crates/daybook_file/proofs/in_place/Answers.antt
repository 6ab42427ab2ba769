use native.Mathlib.Omega.{arith}
use mathlib.Core.Path.{◌∙◌}
use Rattle.daybook_file.proofs.Days.{order-next}
use Rattle.daybook_file.proofs.in_place.Goals as goal

pub loop-i-preserved : goal.loop-i-preserved
loop-i-preserved c =
    let f = c.args.file.now in
    (omega (arith, c.loop-i-test.true), c.loop-i.invariant.1 ∙ order-next f c.args.count c.loop-i.i (omega (arith, c.loop-i-test.true)) ∙ rw (← c.before_next.ensures, c.if-not-before_next.false))
