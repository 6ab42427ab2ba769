-- The loop keeps the entries of the first `i` rows at the start of `out`, and `at` their length. These entries are part of the whole, for which there is room,
-- so each row's entry fits.
use mathlib.Core.Path.{◌≡◌}
use lib.ListN.{length}
use Rattle.book_queue.proofs.Orders.{Writes}
use Rattle.book_orders.proofs.write_orders.Given as goal

abbrev pub invariant-loop-i : goal.invariant-loop-i
invariant-loop-i l = Writes l.form l.side l.price l.rows.words.now l.rows.count l.initial.out l.out l.at l.i × (length l.out ≡ length l.initial.out)
