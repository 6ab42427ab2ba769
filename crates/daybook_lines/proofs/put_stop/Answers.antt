use Rattle.daybook_lines.proofs.Listings.{stop-written}
use Rattle.daybook_lines.proofs.put_stop.Goals as goal

pub returns-in-Some-clause-writes : goal.returns-in-Some-clause-writes
returns-in-Some-clause-writes c =
    rw c.in-Some.is (stop-written _ _ c.put_bytes-word.ensures c.put_number-place.ensures.writes c.put_number-number.ensures.writes c.put_bytes.ensures)
