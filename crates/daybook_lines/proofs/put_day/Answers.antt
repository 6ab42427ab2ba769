use Rattle.daybook_lines.specs.Listed.{listed}
use Rattle.text.proofs.Texts.{writes_then}
use Rattle.daybook_lines.proofs.put_day.Goals as goal

pub returns-clause-writes : goal.returns-clause-writes
unfolding listed
returns-clause-writes c = writes_then c.put_segments-at.ensures.writes c.put_ending.ensures.writes
