use mathlib.Core.Path.{refl}
use Rattle.daybook_lines.proofs.Listings.{written_next, written_all}
use Rattle.daybook_lines.proofs.put_segments.Goals as goal

pub loop-i-preserved : goal.loop-i-preserved
loop-i-preserved c =
    written_next _ _ _ _ _ _ _ _ c.loop-i.invariant c.loop-i-test.true refl c.put_segment-at.ensures.writes c.put_segment-at.ensures.short

pub returns-clause-writes : goal.returns-clause-writes
returns-clause-writes c = written_all _ _ _ _ _ c.loop-i.invariant c.loop-i-test.false
