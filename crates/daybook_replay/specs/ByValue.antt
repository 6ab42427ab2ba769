-- The end of a day as the code meets it: with the last record apart from the list. Nothing here is for a reader to believe: the promise of a day speaks of
-- `day_of`.
use Rattle.std.specs.Prelude.{List, set, Option}
use Rattle.reconstructor_segments.specs.declared.Segment.{Segment}
use Rattle.reconstructor_segments.specs.Segments.{no_segment, relast}
use Rattle.reconstructor_state.specs.declared.BookReconstructor.{BookReconstructor}
use Rattle.daybook_segments.specs.DaySegments.{day_segments}
use Rattle.daybook_segments.specs.declared.Day.{Day}
use Rattle.daybook_segments.specs.declared.Stop.{Stop}

-- the last record is put back, and none is started: past the list's end nothing is written
abbrev pub ended_with : BookReconstructor → List Segment → Segment → Option Stop → Day
ended_with b sg g stop = record { book = b; segments = set (relast sg b.segments g) day_segments no_segment; stop = stop }
