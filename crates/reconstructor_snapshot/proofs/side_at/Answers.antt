use borrow.Author.Tests.{lt-ltb, le-ltb}
use Rattle.reconstructor_bootstrap.specs.Places.{side_at}
use Rattle.reconstructor_snapshot.proofs.side_at.Goals as goal

pub returns-then-place-bids : goal.returns-then-place-bids
unfolding side_at
returns-then-place-bids c = rw (lt-ltb _ _ c.if-place-bids.true)

pub returns-else-place-bids : goal.returns-else-place-bids
unfolding side_at
returns-else-place-bids c = rw (le-ltb _ _ c.if-place-bids.false)
