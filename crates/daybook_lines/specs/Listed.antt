-- The lines of a day's listing, as bytes. 02, paper 1: "It prints lines of decimal numbers with one space between, each ended by byte 10."
use Rattle.std.specs.Prelude.{ℕ, ◌+◌, cond, List, [], ◌∷◌, ◌++◌, map, eqb, take, Option, Some, None}
use Rattle.text.specs.Decimal.{decimal}
use Rattle.text.specs.Lines.{line}
use Rattle.reconstructor_counts.specs.declared.MessageCounts.{MessageCounts}
use Rattle.reconstructor_segments.specs.declared.Segment.{Segment}
use Rattle.reconstructor_segments.specs.Segments.{elapsed}
use Rattle.daybook_segments.specs.declared.Day.{Day}
use Rattle.daybook_segments.specs.declared.Stop.{Stop}

-- ---- the words, in ASCII

abbrev pub segment_word : List ℕ
segment_word = 115 ∷ 101 ∷ 103 ∷ 109 ∷ 101 ∷ 110 ∷ 116 ∷ []

abbrev pub open_word : List ℕ
open_word = 111 ∷ 112 ∷ 101 ∷ 110 ∷ []

abbrev pub superseded_word : List ℕ
superseded_word = 115 ∷ 117 ∷ 112 ∷ 101 ∷ 114 ∷ 115 ∷ 101 ∷ 100 ∷ 101 ∷ 100 ∷ []

abbrev pub counts_word : List ℕ
counts_word = 99 ∷ 111 ∷ 117 ∷ 110 ∷ 116 ∷ 115 ∷ []

abbrev pub stop_word : List ℕ
stop_word = 115 ∷ 116 ∷ 111 ∷ 112 ∷ []

-- ---- the lines

-- "end is `open`, `superseded`, or the reason's number"
unfoldable pub end_word : ℕ → List ℕ
end_word end = cond (eqb end 0) open_word (cond (eqb end 1) superseded_word (decimal end))

-- "A line a segment: `segment`, place, start, last good, end, elapsed"
unfoldable pub segment_line : ℕ → Segment → List ℕ
segment_line place g =
    line segment_word (decimal place ∷ decimal g.start_seq ∷ decimal g.last_good_seq ∷ end_word g.end ∷ decimal (elapsed g) ∷ [])

-- places count from 1
unfoldable pub segment_lines : ℕ → List Segment → List ℕ
segment_lines place [] = []
segment_lines place (g ∷ gs) = segment_line place g ++ segment_lines (place + 1) gs

-- "the twelve in the Rust's order"
abbrev pub counts_in : MessageCounts → List ℕ
counts_in c =
    c.received ∷
    c.«open» ∷
    c.done ∷
    c.matched ∷
    c.stp_decrease ∷
    c.off_book_done ∷
    c.off_book_change ∷
    c.noop_change ∷ c.handshake_dropped ∷ c.skipped_while_invalid ∷ c.wrong_product ∷ c.rejected_snapshots ∷ []

-- "Then `counts` and the twelve"
unfoldable pub counts_line : MessageCounts → List ℕ
counts_line c = line counts_word (map decimal (counts_in c))

-- "then `stop`, piece (from 1) and number if another refusal stopped it"
unfoldable pub stop_line : Option Stop → List ℕ
stop_line None = []
stop_line (Some s) = line stop_word (decimal s.piece ∷ decimal s.number ∷ [])

unfoldable pub ending : MessageCounts → Option Stop → List ℕ
ending c stop = counts_line c ++ stop_line stop

-- "A line a segment", of those that the book has; then counts and stop
unfoldable pub listed : Day → List ℕ
listed d = segment_lines 1 (take d.book.segments d.segments) ++ ending d.book.counts d.stop
