-- By `level_call`: where it is turned away, or has no word for the number of entries, it comes to `level_stop` (`by_stop`); and past that it reads and stores.
use Rattle.std.proofs.Common.{rules}
use Rattle.host_level_stops.proofs.Stored.{by_stop, through}
use Rattle.host_level_stops.proofs.level_read.Goals as goal

pub returns-clause-stopped : goal.returns-clause-stopped
returns-clause-stopped g c = λ h. by_stop _ _ _ _ _ _ c.level_call.ensures.turned (λ z e. let u = c.level_call.ensures.uncounted z e in search rules) h

pub returns-clause-counted : goal.returns-clause-counted
returns-clause-counted g c = λ z.
    let p = through _ _ _ z in
    let r = c.level_call.ensures.counted p.0 p.1 in
    let read = r.1 in
    let stored = r.2 in
    (r.0, record { rows = read.rows; rows-are = read.rows-are; scratch = read.scratch; scratch-is = read.scratch-is; lent = read.lent; lent-is = read.lent-is; left = read.left; left-is = read.left-is; written = read.written; written-is = read.written-is; met = read.met }, search rules)
