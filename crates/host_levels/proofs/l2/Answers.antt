-- What stands in its way is the call's number; else what it reads and stores is what the call comes to (`level-comes`).
use Rattle.std.proofs.Common.{rules}
use mathlib.Core.Path.{refl}
use Rattle.host_level_stops.proofs.Stored.{level-comes}
use Rattle.host_levels.specs.Levels.{l2_call}
use Rattle.host_levels.proofs.l2.Goals as goal

pub returns : goal.returns
unfolding l2_call
returns c = level-comes _ _ _ _ c.args.scratch.now c.args.out.now c.args.count.now refl _ _ _ _ _ c.level_read.ensures.stopped (λ z. let r = c.level_read.ensures.counted z in let read = r.1 in (r.0, search rules, r.2))
