use Rattle.queue_place.proofs.place_unknown.Goals as goal

pub returns : goal.returns
returns c = rw c.loses_place.ensures
