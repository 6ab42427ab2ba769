-- The loop keeps the whole answer equal to that of `in_turn` from row `i` on, and `levels` the number of levels before it. So each test of a turn is the
-- next check of the definition, and past the last row 13 alone is left to ask.
use Prim.Native.Nat.{◌≤◌, ◌-◌}
use mathlib.Core.Path.{◌≡◌}
use Rattle.book.specs.Line.{levels as levels_in}
use Rattle.book.specs.Rows.{rows_of, line_of}
use Rattle.reconstructor_bootstrap.proofs.InTurn.{Reached}
use Rattle.reconstructor_snapshot.proofs.check_in_turn.Given as goal

abbrev pub invariant-loop-i : goal.invariant-loop-i
invariant-loop-i l = (l.i ≤ l.rows.count) × (l.levels ≤ l.i) × (l.levels ≡ levels_in (line_of (rows_of l.rows.words.now l.i))) × Reached l.max_levels l.rows.words.now l.rows.count l.i
