-- From the last row to the first: `best_with` on the best of the rows behind is `best` of one row more, and at row 0 those are all the rows.
use Prim.Native.Nat.{◌-◌}
use native.Mathlib.Omega.{arith}
use Rattle.book.proofs.Rows.{rows_prev, rows-done}
use Rattle.book_prices.proofs.best.Goals as goal

pub loop-i-init : goal.loop-i-init
loop-i-init c = rw (rows-done c.args.rows.words.now c.args.rows.count c.args.rows.count (omega arith))

pub loop-i-preserved : goal.loop-i-preserved
loop-i-preserved c = rw (c.best_with-best.ensures, rows_prev c.args.rows.words.now c.args.rows.count c.loop-i.i (c.loop-i.i - 1) c.get.result (omega arith) (omega arith) c.get.ensures, c.loop-i.invariant)
