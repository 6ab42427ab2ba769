-- From the last row to the first: bounds widened for a row hold for it, and go on to hold for the rows behind it, since widening never narrows.
use Rattle.std.specs.Prelude.{Some}
use Prim.Native.Nat.{◌-◌}
use mathlib.Core.Path.{◌≡◌}
use mathlib.Core.Bool.{true}
use Rattle.book.specs.Rows.{rows_from}
use Rattle.book_index.specs.Index.{all, row_bounded}
use Rattle.book_index_upkeep.proofs.bounds_of.Given as goal

abbrev pub invariant-loop-i : goal.invariant-loop-i
invariant-loop-i l = all (row_bounded (Some l.bounds)) (rows_from l.rows.words.now l.i (l.rows.count - l.i)) ≡ true
