-- The first loop keeps the first `i` rows those of the orders, the second the rows up to `k` those with blank ones behind, and both the words beyond as
-- they were. Blank rows are zeros, so the end is `stored`.
use mathlib.Core.Path.{◌≡◌, ◌∙◌, ap}
use native.Mathlib.Omega.{arith}
use Rattle.reconstructor_bootstrap.specs.Places.{entries_from, rows_at}
use Rattle.book.specs.Rows.{empty_row, set_row}
use Rattle.book.proofs.Rows.{row_path}
use Rattle.reconstructor_bootstrap.proofs.Filled.{filled_on, filled_none, filled_next, blanks-next, filled-stored}
use Rattle.reconstructor_bootstrap.proofs.Places.{rows_at-next, rows_at-length}
use Rattle.reconstructor_snapshot.proofs.store_rows.Goals as goal

pub loop-i-init : goal.loop-i-init
unfolding entries_from
loop-i-init c = (omega arith, filled_none c.args.rows.now)

pub loop-i-preserved : goal.loop-i-preserved
loop-i-preserved c =
    let a = c.args in
    (omega arith, rw (rows_at-next a.bids a.bytes.now a.sequence c.loop-i.i c.snapshot_row-order.result c.snapshot_row-order.ensures) (filled_next a.rows.now c.loop-i.rows _ c.loop-i.i _ c.snapshot_row-order.result (omega arith) c.set_row.ensures c.loop-i.invariant.1))

pub loop-k-preserved : goal.loop-k-preserved
loop-k-preserved c =
    let a = c.args in
    let d = c.default.ensures in
    let zeros : c.default.result ≡ empty_row = row_path d.0 d.1.0 d.1.1.0 d.1.1.1.0 d.1.1.1.1.0 d.1.1.1.1.1.0 d.1.1.1.1.1.1.0 d.1.1.1.1.1.1.1 in
    let set : c.set_row-in-loop-k.new.rows ≡ set_row c.loop-k.rows c.loop-k.k empty_row = c.set_row-in-loop-k.ensures ∙ ap (set_row c.loop-k.rows c.loop-k.k) zeros in
    (omega arith, omega arith, rw (blanks-next (rows_at a.bids a.bytes.now a.n a.sequence) a.n c.loop-k.k c.loop-k.invariant.0) (filled_next c.loop-i.rows c.loop-k.rows _ c.loop-k.k _ empty_row (omega (arith, c.loop-i.invariant.1.same)) set c.loop-k.invariant.2))

pub returns : goal.returns
returns c =
    let a = c.args in
    let z : c.loop-i.i ≡ a.n = omega arith in filled-stored a.rows.now _ a.former a.n c.loop-k.k _ (rows_at-length a.bids a.bytes.now a.sequence a.n) (omega arith) (omega arith) (filled_on a.rows.now c.loop-i.rows _ c.loop-i.i c.loop-k.k _ _ (omega arith) c.loop-i.invariant.1 c.loop-k.invariant.2)
