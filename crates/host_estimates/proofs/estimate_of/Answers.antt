-- Where there are words for the estimate, it is stored as the definition tells it (`estimate-stored`). Without them a valid book is told 7 whether the list has room or
-- not, so the refusals alone, which `unwritten` works out, tell the number; the search finds that.
use native.Mathlib.Omega.{arith}
use Rattle.message.proofs.Signed.{back}
use Rattle.host_estimates.proofs.Stored.{estimate-stored}
use Rattle.host_estimates.proofs.estimate_of.Goals as goal

pub returns : goal.returns
returns c = rw (← back c.args.price c.ranges.price.sfits) (estimate-stored _ _ _ c.args.ahead.now c.args.estimate.now (omega arith) _ _ c.store_estimate.ensures c.queue_estimate-answer.ensures.ahead_after)
