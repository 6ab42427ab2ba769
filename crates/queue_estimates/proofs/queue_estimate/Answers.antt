use mathlib.Core.Path.{ap}
use Rattle.message.proofs.Signed.{back}
use Rattle.queue.specs.Estimates.{EstimateParts}
use Rattle.queue.specs.Numbers.{estimate_told}
use Rattle.queue_estimates.proofs.queue_estimate.Goals as goal

pub returns : goal.returns
returns c =
    let e = rw (back c.args.price c.ranges.price.sfits) at c.queue_estimate_under.ensures in
    record { ahead_after = e; told = ap (λ (x : EstimateParts). estimate_told x.answer) e }
