use Rattle.queue.specs.Estimates.{tallied}
use Rattle.queue_ahead.proofs.tallied.Goals as goal

pub returns-then-t-loses_place : goal.returns-then-t-loses_place
unfolding tallied
returns-then-t-loses_place c = rw (← c.loses_place.ensures, c.if-t-loses_place.true)

pub returns : goal.returns
unfolding tallied
returns c = rw (← c.loses_place.ensures, c.if-t-loses_place.false)
