-- Bytes that are no message are 4 or 5 and touch nothing. A message's turn goes by `apply_in_run`, since the state passes 1, 2 and 3 and has an index, and
-- leaves both for the next piece (`message-plays`).
use mathlib.Core.Path.{sym, ◌∙◌}
use Rattle.daybook_pieces.proofs.Pieces.{message-played, message-plays}
use Rattle.daybook_pieces.proofs.play_message.Goals as goal

pub invariant_of-standing : goal.invariant_of-standing
invariant_of-standing c =
    let s = c.args.standing.now in
    let w = c.apply_in_run-run in
    record { plays = message-plays s.book s.rows.now _ c.args.last _ w.result.work s.plays.usable w.ensures.applies _ _ w.ensures.indexes }

pub returns-in-Ok-clause-played : goal.returns-in-Ok-clause-played
returns-in-Ok-clause-played c =
    let s = c.args.standing.now in
    let w = c.apply_in_run-run in
    rw (sym c.read_message.ensures.value ∙ c.in-Ok.is, c.unstarted-in-Ok.ensures) (message-played s.book s.rows.now _ c.args.last _ w.result.work s.plays.usable w.ensures.applies)
