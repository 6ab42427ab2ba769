-- From the last row to the first: bounds widened for a row hold for it, and go on to hold for the rows behind it, since widening never narrows.
use Prim.Native.Nat.{◌-◌}
use native.Mathlib.Omega.{arith}
use Rattle.book.specs.Rows.{rows_from, side_of}
use Rattle.book.proofs.Rows.{rows_prev, rows-done}
use Rattle.book_index.specs.Index.{row_bounded}
use Rattle.book_index.proofs.Index.{and_both, bounded_now, within-kept}
use Rattle.book_index_upkeep.proofs.bounds_of.Goals as goal

pub loop-i-init : goal.loop-i-init
loop-i-init c = rw (rows-done c.args.rows.words.now c.args.rows.count c.args.rows.count (omega arith))

pub loop-i-preserved : goal.loop-i-preserved
loop-i-preserved c =
    let ws = c.args.rows.words.now in
    let o = c.get-o.result in
    rw (c.widened-bounds.ensures, c.side_of.ensures, rows_prev ws c.args.rows.count c.loop-i.i (c.loop-i.i - 1) o (omega arith) c.loop-i.auto.i c.get-o.ensures) (and_both (row_bounded _ o) _ (bounded_now c.loop-i.bounds (side_of o.kind) o.price) (within-kept c.loop-i.bounds (side_of o.kind) o.price (rows_from ws c.loop-i.i (c.args.rows.count - c.loop-i.i)) c.loop-i.invariant))
