-- The state by value, and the view of it that the rules go by.
use Rattle.std.specs.Prelude.{ℕ, ◌-◌, List}
use Rattle.message.specs.declared.ProductId.{ProductId}
use Rattle.book.specs.Line.{Entry}
use Rattle.book.specs.Memory.{Memory, Extent, extent_of, line_in}
use Rattle.reconstructor_state.specs.declared.SizeDecrease.TheVariants.{KeepsPriority}
use Rattle.reconstructor_state.specs.declared.VenueRules.{VenueRules}
use Rattle.reconstructor_state.specs.declared.Status.{Status}
use Rattle.reconstructor_state.specs.declared.Status.TheVariants.{Empty, Valid, Invalidated}
use Rattle.reconstructor_counts.specs.declared.MessageCounts.{MessageCounts}
use Rattle.reconstructor_state.specs.declared.BookReconstructor.{BookReconstructor}
use Rattle.reconstructor_counts.specs.Counts.{no_counts}
use Rattle.reconstructor_segments.specs.declared.Segment.{Segment}
use Rattle.reconstructor_segments.specs.declared.SegmentName.{SegmentName}

-- 1: "an order or level limit above 4,096"
abbrev pub ceiling : ℕ
ceiling = 4096

-- 01, Forms that change: "Limits and defaults sit with the rules' type (4,096 orders and levels ..)"
abbrev pub limited_rules : ℕ → ℕ → VenueRules
limited_rules orders levels = record { size_decrease = KeepsPriority; max_orders = orders; max_levels = levels }

-- a reconstructor as created, with the host's number
abbrev pub new_book : ProductId → VenueRules → ℕ → BookReconstructor
new_book p v k =
    record { product_id = p; rules = v; number = k; status = Empty; rows = 0; segments = 0; counts = no_counts }

-- the state with another status, number of rows and counts
abbrev pub with : BookReconstructor → Status → ℕ → MessageCounts → BookReconstructor
with b s n k =
    record { product_id = b.product_id; rules = b.rules; number = b.number; status = s; rows = n; segments = b.segments; counts = k }

abbrev pub with_counts : BookReconstructor → MessageCounts → BookReconstructor
with_counts b k = with b b.status b.rows k

abbrev pub with_status : BookReconstructor → Status → BookReconstructor
with_status b s = with b s b.rows b.counts

-- the name of the segment that a book is in: "the reconstructor's number .. with its place in the list"
abbrev pub segment_of : BookReconstructor → SegmentName
segment_of b = record { number = b.number; place = b.segments - 1 }

-- the last sequence applied
abbrev pub last_of : Status → ℕ
last_of Empty = 0
last_of (Valid last) = last
last_of (Invalidated i) = i.last_good_seq

-- ---- what the rules go by

-- 01, The ledger: "its own standing (no snapshot, valid or invalid), start_seq, last sequence, number of snapshots and line of orders". The
-- status has the standing and the last sequence
pub record View : Type 0 where
  pub status : Status
  pub start_seq : ℕ
  pub segments : ℕ
  pub line : List Entry

-- what a state shows of it with lent memory, the last segment's record being g
abbrev pub view_with : BookReconstructor → Memory → Segment → View
view_with b mem g = record { status = b.status; start_seq = g.start_seq; segments = b.segments; line = line_in mem b.rows }

-- how much a call is lent: of the memory, and segment records
pub record Lengths : Type 0 where
  pub memory : Extent
  pub segments : ℕ

abbrev pub lengths_with : Memory → ℕ → Lengths
lengths_with mem lent = record { memory = extent_of mem; segments = lent }
