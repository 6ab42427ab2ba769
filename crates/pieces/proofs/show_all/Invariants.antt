use Rattle.std.proofs.Common.{length}
use Rattle.pieces.proofs.show_all.Given as goal

abbrev pub decreases-loop-length : goal.decreases-loop-length
decreases-loop-length l = length l.rest
