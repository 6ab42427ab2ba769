use Rattle.reconstructor_view.specs.ValueReads.{sequence_of}
use Rattle.reconstructor_view.proofs.valid_status.Goals as goal

pub returns-in-Empty : goal.returns-in-Empty
unfolding sequence_of
returns-in-Empty c = rw c.in-Empty.is

pub returns-in-Valid : goal.returns-in-Valid
unfolding sequence_of
returns-in-Valid c = rw c.in-Valid.is

pub returns-in-Invalidated : goal.returns-in-Invalidated
unfolding sequence_of
returns-in-Invalidated c = rw c.in-Invalidated.is
