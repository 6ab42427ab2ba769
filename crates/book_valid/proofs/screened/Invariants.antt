-- From the last row to the first: no row so far is broken, and `bid` and `ask` are the highest buy and the lowest sell of them. A broken row settles the
-- answer; where there is none, each price lies between the two numbers that stand for no price, so that `ask <= bid` is `crossed`.
use Prim.Native.Nat.{◌-◌}
use mathlib.Core.Path.{◌≡◌}
use mathlib.Core.Bool.{false}
use Rattle.book.specs.Rows.{rows_from}
use Rattle.book.specs.Broken.{some_row_broken}
use Rattle.book_valid.proofs.Crossing.{highest, lowest}
use Rattle.book_valid.proofs.screened.Given as goal

abbrev pub invariant-loop-i : goal.invariant-loop-i
invariant-loop-i l =
    (l.bid ≡ highest (rows_from l.rows.words.now l.i (l.rows.count - l.i)))
    × (l.ask ≡ lowest (rows_from l.rows.words.now l.i (l.rows.count - l.i)))
    × (some_row_broken (rows_from l.rows.words.now l.i (l.rows.count - l.i)) ≡ false)
