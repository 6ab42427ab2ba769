-- From the last row to the first: the tally of the rows behind, with one row more, is `before` of one row more; each sum stays small.
use Prim.Native.Nat.{◌-◌}
use mathlib.Core.Path.{◌≡◌}
use Rattle.book.specs.Rows.{rows_from}
use Rattle.book_queue.specs.Queue.{rows_at}
use Rattle.queue.specs.Ahead.{tally_of, before}
use Rattle.queue_tally.proofs.tally_before.Given as goal

abbrev pub invariant-loop-i : goal.invariant-loop-i
invariant-loop-i l = l.t ≡ tally_of l.since (before l.own (rows_at l.side l.price (rows_from l.sound.rows.words.now l.i (l.sound.rows.count - l.i))))
