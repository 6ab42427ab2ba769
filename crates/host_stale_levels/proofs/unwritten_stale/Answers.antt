-- Checks and status alone settle which way `stale_read` goes. No refusal is 0, so `lastly` keeps its number; a book that is not invalid is 256; and 7 is
-- what is left, since an invalid book shows nothing where there is no room.
use mathlib.Core.Path.{sym}
use Rattle.reconstructor_reads.specs.LevelReads.{stale_read}
use Rattle.reconstructor_checks.proofs.StateChecks.{said, said-none}
use Rattle.host_answers.proofs.Refusals.{state-lastly}
use Rattle.host_stale_levels.proofs.unwritten_stale.Goals as goal

pub returns-in-Err : goal.returns-in-Err
unfolding stale_read
returns-in-Err c = rw (said _ _ _ c.read_checks.ensures c.in-Err.is, c.number.ensures) (sym (state-lastly c.in-Err.why))

pub returns-in-Empty : goal.returns-in-Empty
unfolding stale_read
returns-in-Empty c = rw (said-none _ _ c.read_checks.ensures c.in-Ok.is, c.in-Empty.is)

pub returns-in-Valid : goal.returns-in-Valid
unfolding stale_read
returns-in-Valid c = rw (said-none _ _ c.read_checks.ensures c.in-Ok.is, c.in-Valid.is)

pub returns-in-Invalidated : goal.returns-in-Invalidated
unfolding stale_read
returns-in-Invalidated c = rw (said-none _ _ c.read_checks.ensures c.in-Ok.is, c.in-Invalidated.is)
