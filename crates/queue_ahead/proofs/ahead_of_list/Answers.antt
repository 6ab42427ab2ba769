use Rattle.queue_ahead.proofs.ahead_of_list.Goals as goal

pub returns : goal.returns
returns c = rw (← c.tally_list-t.ensures) c.tallied.ensures
