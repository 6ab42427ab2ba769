-- By `level_read`: the price that the closure reads by is the word read as signed (`back`).
use Rattle.std.proofs.Common.{rules}
use mathlib.Core.Path.{refl}
use Rattle.message.proofs.Signed.{back}
use Rattle.host_level_stops.proofs.Stored.{level-comes}
use Rattle.host_level_queue.specs.LevelQueue.{queue_call}
use Rattle.host_level_queue.proofs.level_queue.Goals as goal

pub returns : goal.returns
unfolding queue_call
returns c =
    rw (← c.signed-at.ensures)
    (level-comes _ _ _ _ c.args.scratch.now c.args.out.now c.args.count.now refl _ _ _ _ _ c.level_read.ensures.stopped (λ z. let r = c.level_read.ensures.counted z in let read = r.1 in let met = read.met in let b = back c.signed-at.result c.signed-at.type_inv in (r.0, search rules, r.2)))
