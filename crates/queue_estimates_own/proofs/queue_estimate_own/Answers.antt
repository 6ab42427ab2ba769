use mathlib.Core.Path.{ap}
use Rattle.queue.specs.Numbers.{estimate_told}
use Rattle.queue_estimates_own.proofs.queue_estimate_own.Goals as goal

pub returns : goal.returns
returns c =
    let e = c.queue_estimate_own_under.ensures in
    record { value = e; told = ap estimate_told e }
