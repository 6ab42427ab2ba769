-- A row with the id is the answer; one without is passed by, and at the end none is left.
use mathlib.Core.Path.{sym}
use native.Mathlib.Omega.{arith}
use Rattle.book.proofs.Rows.{rows_next, rows-done}
use Rattle.queue_place.proofs.resting.Goals as goal

pub returns-then-has_id : goal.returns-then-has_id
returns-then-has_id c =
    let next = rows_next c.args.rows.words.now c.args.rows.count c.loop-i.i c.get-o.result (omega arith) c.get-o.ensures in
    sym (rw (c.loop-i.invariant, next, ← c.has_id.ensures, c.if-has_id.true))

pub loop-i-preserved : goal.loop-i-preserved
loop-i-preserved c =
    let next = rows_next c.args.rows.words.now c.args.rows.count c.loop-i.i c.get-o.result (omega arith) c.get-o.ensures in
    rw (c.loop-i.invariant, next, ← c.has_id.ensures, c.if-has_id.false)

pub returns : goal.returns
returns c = sym (rw (c.loop-i.invariant, rows-done c.args.rows.words.now c.args.rows.count c.loop-i.i (omega arith)))
