-- What stands in the way of it is `stale_stop`, by what `level_call` does where it is turned away or has no word for the number of entries (`by_stop`).
use Rattle.std.proofs.Common.{rules}
use mathlib.Core.Path.{refl}
use lib.ListN.{length}
use Rattle.host_level_stops.proofs.Stored.{by_stop, through}
use Rattle.host_stale_levels.specs.Stale.{stale_call, stale_stop}
use Rattle.host_stale_levels.proofs.Stored.{stale-comes}
use Rattle.host_stale_levels.proofs.stale_l2.Goals as goal

pub returns : goal.returns
unfolding stale_call
returns c =
    stale-comes (stale_stop c.args.state.now c.args.rows.now (length c.args.scratch.now) c.args.side (length c.args.count.now)) _ _ _ c.args.scratch.now c.args.out.now c.args.count.now refl _ _ _ _ _
    (λ h. by_stop _ _ _ _ _ _ c.level_call.ensures.turned (λ z e. let u = c.level_call.ensures.uncounted z e in search rules) h)
    (λ z. let p = through _ _ _ z in let r = c.level_call.ensures.counted p.0 p.1 in let read = r.1 in let stored = r.2 in (r.0, search rules, search rules))
