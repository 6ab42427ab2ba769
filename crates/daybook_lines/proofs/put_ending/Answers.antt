use Rattle.daybook_lines.proofs.Listings.{ending-written}
use Rattle.daybook_lines.proofs.put_ending.Goals as goal

pub returns-clause-writes : goal.returns-clause-writes
returns-clause-writes c =
    ending-written _ _ c.put_bytes-word.ensures (rw c.counts_in.ensures at c.put_numbers-numbers.ensures.writes) c.put_bytes-line.ensures c.put_stop.ensures.writes
