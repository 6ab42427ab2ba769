-- The loop keeps that what is read fits the buffer: a read gets the part behind it, and moves at most that.
use Rattle.std.proofs.Common.{◌≤◌, length}
use Rattle.daybook_main.proofs.read_input.Given as goal

abbrev pub invariant-loop : goal.invariant-loop
invariant-loop l = l.done ≤ length l.file
