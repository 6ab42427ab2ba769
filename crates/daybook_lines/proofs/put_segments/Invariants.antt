-- The loop keeps the lines of the first `i` records written, from the text's start on, in no more room than as many of the longest take (`Written`).
use Rattle.daybook_lines.proofs.Listings.{Written}
use Rattle.daybook_lines.proofs.put_segments.Given as goal

abbrev pub invariant-loop-i : goal.invariant-loop-i
invariant-loop-i l = Written l.initial.text l.segments l.text l.at l.i
