-- From the last row to the first: the count is the number of rows at the level from `i` on, and one row more adds one or none. It is at most the number of
-- rows seen, so it fits.
use Prim.Native.Nat.{◌-◌}
use mathlib.Core.Path.{◌≡◌}
use lib.ListN.{length}
use Rattle.book.specs.Rows.{rows_from}
use Rattle.book_queue.specs.Queue.{rows_at}
use Rattle.book_orders.proofs.order_count.Given as goal

abbrev pub invariant-loop-i : goal.invariant-loop-i
invariant-loop-i l = l.count ≡ length (rows_at l.side l.price (rows_from l.rows.words.now l.i (l.rows.count - l.i)))
