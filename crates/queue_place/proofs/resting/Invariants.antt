-- What the search of all rows gives is what that of the rows from `i` on gives.
use Prim.Native.Nat.{◌-◌}
use mathlib.Core.Path.{◌≡◌}
use Rattle.book.specs.Rows.{rows_of, rows_from}
use Rattle.queue.specs.Ahead.{row_with}
use Rattle.queue_place.proofs.resting.Given as goal

abbrev pub invariant-loop-i : goal.invariant-loop-i
invariant-loop-i l = row_with l.id (rows_of l.rows.words.now l.rows.count) ≡ row_with l.id (rows_from l.rows.words.now l.i (l.rows.count - l.i))
