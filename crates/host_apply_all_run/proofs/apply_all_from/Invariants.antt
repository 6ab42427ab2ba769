-- The loop keeps what the whole run comes to: the answers written, then the run of the messages left on the words as they are now. A turn moves one call
-- from that run to the answers, since `apply_next` is `apply_call` and leaves an index for the next; with no message left the words are the result.
use Rattle.host_apply_all_run.proofs.Runs.{Looped}
use Rattle.host_apply_all_run.proofs.apply_all_from.Given as goal

abbrev pub invariant-loop-i : goal.invariant-loop-i
invariant-loop-i l =
    Looped l.initial.state l.initial.rows l.initial.segments l.messages l.initial.answers l.initial.places l.state l.rows l.segments l.answers l.places l.bounds l.i
