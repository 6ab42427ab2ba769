use mathlib.Core.Path.{◌∙◌}
use native.Mathlib.Omega.{arith}
use Rattle.recorded.proofs.Loads.{load-next}
use Rattle.recorded.proofs.load.Goals as goal

pub loop-i-preserved : goal.loop-i-preserved
loop-i-preserved c = c.loop-i.invariant ∙ load-next c.loop-i.words c.loop-i.i c.loop-i.rest.now c.word.result (omega arith) (omega arith) c.word.ensures
