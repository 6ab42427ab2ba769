-- From the last row to the first: `best_with` on the best of the rows behind is `best` of one row more, and at row 0 those are all the rows.
use Prim.Native.Nat.{◌-◌}
use mathlib.Core.Path.{◌≡◌}
use Rattle.book.specs.Rows.{rows_from, line_of}
use Rattle.book.specs.Line.{best as best_in}
use Rattle.book_prices.proofs.best.Given as goal

abbrev pub invariant-loop-i : goal.invariant-loop-i
invariant-loop-i l = l.best ≡ best_in l.side (line_of (rows_from l.rows.words.now l.i (l.rows.count - l.i)))
