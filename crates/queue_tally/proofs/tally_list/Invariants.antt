-- From the last entry to the first: the tally of the entries behind, with one entry more, is that of one entry more; each sum stays small.
use Prim.Native.Nat.{◌-◌}
use mathlib.Core.Path.{◌≡◌}
use Rattle.book.specs.Rows.{rows_of}
use Rattle.queue.specs.Ahead.{tally_of, still_ahead, entries_from}
use Rattle.queue_tally.proofs.tally_list.Given as goal

abbrev pub invariant-loop-i : goal.invariant-loop-i
invariant-loop-i l = l.t ≡ tally_of l.since (still_ahead (rows_of l.sound.rows.words.now l.sound.rows.count) (entries_from l.ahead l.i (l.orders - l.i)))
