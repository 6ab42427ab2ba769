-- From the last row to the first: the level of the rows behind, with one row more, is the level of one row more (`level-next`). Each sum stays small, since
-- every row is sound and there are few.
use Prim.Native.Nat.{◌-◌}
use mathlib.Core.Path.{◌≡◌}
use Rattle.book.specs.Rows.{rows_from}
use Rattle.book_levels.specs.Levels.{level_at}
use Rattle.book_levels.proofs.level_at.Given as goal

abbrev pub invariant-loop-i : goal.invariant-loop-i
invariant-loop-i l = l.level ≡ level_at l.side l.price (rows_from l.sound.rows.words.now l.i (l.sound.rows.count - l.i))
