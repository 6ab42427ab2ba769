-- A day's segment list. 02, paper 1: "at most 64 segments".
use Rattle.std.specs.Prelude.{ℕ, List, replicate}
use Rattle.reconstructor_segments.specs.declared.Segment.{Segment}
use Rattle.reconstructor_segments.specs.Segments.{no_segment}

abbrev pub day_segments : ℕ
day_segments = 64

-- before any snapshot
unfoldable pub no_segments : List Segment
no_segments = replicate day_segments no_segment
