-- From the last row to the first: the count is the number of rows at the level from `i` on, and one row more adds one or none. It is at most the number of
-- rows seen, so it fits.
use Prim.Native.Nat.{◌-◌}
use mathlib.Core.Path.{sym, ap}
use native.Mathlib.Omega.{arith}
use lib.ListN.{length}
use Rattle.book.specs.Rows.{rows_from}
use Rattle.book.proofs.Rows.{rows_prev, rows-done, length-rows}
use Rattle.book_queue.specs.Queue.{rows_at}
use Rattle.book_queue.proofs.Orders.{at_most}
use Rattle.book_orders.proofs.order_count.Goals as goal

pub loop-i-init : goal.loop-i-init
loop-i-init c = sym (ap (λ l. length (rows_at c.args.side c.args.price l)) (rows-done c.args.rows.words.now c.args.rows.count c.args.rows.count (omega arith)))

pub overflow_add-count : goal.overflow_add-count
overflow_add-count c = record { fits = omega (arith, c.loop-i.invariant, at_most c.args.side c.args.price (rows_from c.args.rows.words.now c.loop-i.i (c.args.rows.count - c.loop-i.i)), length-rows c.args.rows.words.now c.loop-i.i (c.args.rows.count - c.loop-i.i), c.args.rows.lent.few) }

pub loop-i-preserved-then-on_level : goal.loop-i-preserved-then-on_level
loop-i-preserved-then-on_level c = rw (rows_prev c.args.rows.words.now c.args.rows.count c.loop-i.i (c.loop-i.i - 1) c.get.result (omega arith) c.loop-i.auto.i c.get.ensures, ← c.on_level.ensures, c.if-on_level.true, c.loop-i.invariant) (omega arith)

pub loop-i-preserved : goal.loop-i-preserved
loop-i-preserved c = rw (rows_prev c.args.rows.words.now c.args.rows.count c.loop-i.i (c.loop-i.i - 1) c.get.result (omega arith) c.loop-i.auto.i c.get.ensures, ← c.on_level.ensures, c.if-on_level.false) c.loop-i.invariant
