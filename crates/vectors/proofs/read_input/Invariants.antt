use Rattle.std.proofs.Common.{◌≤◌, ◌-◌, length}
use Rattle.vectors.proofs.read_input.Given as goal

abbrev pub invariant-loop-done : goal.invariant-loop-done
invariant-loop-done l = l.done ≤ length l.input

abbrev pub decreases-loop-done : goal.decreases-loop-done
decreases-loop-done l = length l.input - l.done
