-- Bytes that are no snapshot are 4 or 5 and touch nothing. A snapshot's turn goes by `bootstrap_usable`; where it is taken the rows are others and the index
-- is made anew (`index_after`), where it is refused they are as they were and so is the index (`after-marks`).
use mathlib.Core.Path.{sym, ◌∙◌}
use native.Mathlib.Omega.{arith}
use Rattle.book.specs.Memory.{memory}
use Rattle.daybook_pieces.proofs.Pieces.{unread-played, snapshot-played, snapshot-plays, after-lent, after-marks}
use Rattle.daybook_pieces.proofs.play_snapshot.Goals as goal

pub invariant_of-lent : goal.invariant_of-lent
invariant_of-lent c =
    let s = c.args.standing.now in
    record { lent = after-lent s.book s.rows.now _ c.args.last c.args.bytes.now _ c.bootstrap_usable-work.result s.plays.usable (sym c.read_snapshot.ensures.value ∙ c.in-Ok.is) c.bootstrap_usable-work.ensures }

pub index_after-bounds-requires-clause-marks : goal.index_after-bounds-requires-clause-marks
index_after-bounds-requires-clause-marks c =
    let s = c.args.standing.now in
    after-marks s.book s.rows.now _ c.args.last c.args.bytes.now _ c.bootstrap_usable-work.result s.plays.usable (sym c.read_snapshot.ensures.value ∙ c.in-Ok.is) c.bootstrap_usable-work.ensures _ _ s.plays.index

pub invariant_of-standing : goal.invariant_of-standing
invariant_of-standing c =
    let s = c.args.standing.now in
    let few = s.plays.index.few in
    record { plays = snapshot-plays s.book s.rows.now _ c.args.last c.args.bytes.now _ c.bootstrap_usable-work.result s.plays.usable (sym c.read_snapshot.ensures.value ∙ c.in-Ok.is) c.bootstrap_usable-work.ensures _ _ (omega (arith, c.index_after-bounds.auto.places)) c.index_after-bounds.ensures }

pub returns-in-Err-clause-played : goal.returns-in-Err-clause-played
returns-in-Err-clause-played c =
    let s = c.args.standing.now in
    rw c.unstarted.ensures (unread-played s.book (memory s.rows.now) c.args.last c.args.bytes.now _ s.plays.usable (sym c.read_snapshot.ensures.value ∙ c.in-Err.is))

pub returns-in-Ok-clause-played : goal.returns-in-Ok-clause-played
returns-in-Ok-clause-played c =
    let s = c.args.standing.now in
    snapshot-played s.book s.rows.now _ c.args.last c.args.bytes.now _ c.bootstrap_usable-work.result s.plays.usable (sym c.read_snapshot.ensures.value ∙ c.in-Ok.is) c.bootstrap_usable-work.ensures
