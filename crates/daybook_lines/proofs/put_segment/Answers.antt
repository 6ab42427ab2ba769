use Rattle.daybook_lines.proofs.Listings.{segment-written}
use Rattle.daybook_lines.proofs.put_segment.Goals as goal

pub returns-clause-writes : goal.returns-clause-writes
returns-clause-writes c =
    segment-written _ _ c.put_bytes-word.ensures c.put_number-place.ensures.writes c.put_number-start.ensures.writes c.put_number-last.ensures.writes c.put_end-end.ensures.writes (rw c.elapsed.ensures at c.put_number-elapsed.ensures.writes) c.put_bytes.ensures
