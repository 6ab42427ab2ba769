-- `segment_read` is the read by value, with the last record up to the place.
-- Assumes nothing.
use Prim.Native.Nat.{ℕ, ◌+◌, ◌<◌, ◌^◌}
use mathlib.Core.Path.{◌≡◌, refl}
use native.Mathlib.Numerals.{add-one}
use mathlib.Core.Bool.{Bool, true, false, cond}
use mathlib.Core.List.{List}
use native.Mathlib.Omega.{arith}
use borrow.Author.Tests.{ltb-false, le-leb}
use lib.Dec.{ltb}
use lib.ListN.{length}
use Rattle.reconstructor_counts.specs.Counts.{largest}
use Rattle.reconstructor_segments.specs.declared.Segment.{Segment}
use Rattle.reconstructor_segments.specs.Segments.{last_segment}
use Rattle.reconstructor_state.specs.declared.BookReconstructor.{BookReconstructor}
use Rattle.reconstructor_view.specs.ValueReads.{segment_read_to, segment_read, records_to}

module _ (b : BookReconstructor) (sg : List Segment) (k : ℕ) (few : length sg < 2 ^ 64) where
  up_to : (t : Bool) → ltb k largest ≡ t → segment_read_to b (length sg) k (last_segment sg (cond t (k + 1) k)) ≡ segment_read b sg k
  unfolding segment_read_to
  up_to true e = rw (add-one k)
  up_to false e = rw (le-leb (length sg) k (omega (arith, few, ltb-false k largest e)))

  pub read_by_value : segment_read_to b (length sg) k (last_segment sg (records_to k)) ≡ segment_read b sg k
  read_by_value = up_to (ltb k largest) refl
