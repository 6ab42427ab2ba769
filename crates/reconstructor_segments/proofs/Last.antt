-- The last of a list's first n records, read and rewritten.
-- Assumes nothing.
use Prim.Native.Nat.{ℕ, zero, suc, ◌-◌, ◌≤◌, ◌<◌}
use mathlib.Core.Path.{◌≡◌, refl, ap}
use mathlib.Core.List.{List, ◌++◌}
use native.Mathlib.Omega.{arith}
use lib.ListN.{length, set, length-set, get_or-append}
use lib.Seq.{set-get_or}
use Rattle.reconstructor_segments.specs.declared.Segment.{Segment}
use Rattle.reconstructor_segments.specs.Segments.{no_segment, segment_at, last_segment, relast}

pub length-relast : (sg : List Segment) (n : ℕ) (g : Segment) → length (relast sg n g) ≡ length sg
length-relast sg zero g = refl
length-relast sg (suc n) g = length-set sg n g

-- rewritten with itself, it leaves the list as it was
pub relast-same : (sg : List Segment) (n : ℕ) → relast sg n (last_segment sg n) ≡ sg
relast-same sg zero = refl
relast-same sg (suc n) = set-get_or sg n no_segment

-- with one, it is the record at n - 1
pub last_at : (sg : List Segment) (n : ℕ) → 0 < n → last_segment sg n ≡ segment_at sg (n - 1)
last_at sg zero h = absurd (omega (arith, h))
last_at sg (suc n) h = ap (segment_at sg) (omega arith)

pub relast_at : (sg : List Segment) (n : ℕ) (g : Segment) → 0 < n → relast sg n g ≡ set sg (n - 1) g
relast_at sg zero g h = absurd (omega (arith, h))
relast_at sg (suc n) g h = ap (λ (i : ℕ). set sg i g) (omega arith)

-- a prefix that has them has the same one
pub last-front : (a b : List Segment) (n : ℕ) → n ≤ length a → last_segment (a ++ b) n ≡ last_segment a n
last-front a b zero h = refl
last-front a b (suc n) h = get_or-append a b no_segment n (omega arith)
