-- Numbers in bytes: reading undoes writing, and writing undoes reading.
-- Assumes nothing.
use Prim.Native.Nat.{ℕ, zero, suc, ◌+◌, ◌*◌, ◌/◌, ◌%◌, ◌^◌, ◌≤◌, ◌<◌}
use native.Mathlib.Omega.{arith}
use native.Mathlib.Nat.{pow-succ'}
use mathlib.Core.Path.{◌≡◌, refl, ap, ◌∙◌}
use mathlib.Core.List.{List, [], ◌∷◌, ◌++◌, reverse, reverse-reverse, reverse-cons}
use lib.ListN.{length, take, drop, length-reverse}
use Rattle.piece.specs.Bytes.{AllBytes, little, big, little_bytes, big_bytes, part}
use Rattle.piece.proofs.Parts.{part_length}

-- ---- numbers in bytes

pub little-back : (k n : ℕ) → n < 256 ^ k → little (little_bytes k n) ≡ n
unfolding little little_bytes
little-back zero n h = omega arith
little-back (suc k) n h =
    let b = rw (pow-succ' 256 k) at h in
    rw (little-back k (n / 256) (omega arith)) (omega arith)

pub big-back : (k n : ℕ) → n < 256 ^ k → big (big_bytes k n) ≡ n
unfolding big big_bytes
big-back k n h = rw (reverse-reverse (little_bytes k n)) (little-back k n h)

pub bytes_back : (bs : List ℕ) → AllBytes bs → little_bytes (length bs) (little bs) ≡ bs
unfolding little little_bytes
bytes_back [] h = refl
bytes_back (b ∷ bs) h =
    let low : (b + 256 * little bs) % 256 ≡ b = omega arith in
    let high : (b + 256 * little bs) / 256 ≡ little bs = omega arith in
    rw (low, high, bytes_back bs h.1)

pub little-bound : (bs : List ℕ) → AllBytes bs → little bs < 256 ^ length bs
unfolding little
little-bound [] h = omega arith
little-bound (b ∷ bs) h = rw (pow-succ' 256 (length bs)) (omega (arith, little-bound bs h.1))

-- ---- parts of bytes are bytes

all_append : (a b : List ℕ) → AllBytes a → AllBytes b → AllBytes (a ++ b)
all_append [] b h k = k
all_append (x ∷ a) b h k = (h.0, all_append a b h.1 k)

all-reverse : (a : List ℕ) → AllBytes a → AllBytes (reverse a)
all-reverse [] h = tt
all-reverse (x ∷ a) h = rw (reverse-cons x a) (all_append (reverse a) (x ∷ []) (all-reverse a h.1) (h.0, tt))

all_take : (k : ℕ) (a : List ℕ) → AllBytes a → AllBytes (take k a)
all_take zero a h = tt
all_take (suc k) [] h = tt
all_take (suc k) (x ∷ a) h = (h.0, all_take k a h.1)

all_drop : (k : ℕ) (a : List ℕ) → AllBytes a → AllBytes (drop k a)
all_drop zero a h = h
all_drop (suc k) [] h = tt
all_drop (suc k) (x ∷ a) h = all_drop k a h.1

all-part : (s : List ℕ) (i k : ℕ) → AllBytes s → AllBytes (part s i k)
unfolding part
all-part s i k h = all_take k (drop i s) (all_drop i s h)

-- ---- a number read from a part has the part's bytes, and fits them

module _ (s : List ℕ) (all : AllBytes s) (i k : ℕ) (fits : i + k ≤ length s) where
  pub little-part : little_bytes k (little (part s i k)) ≡ part s i k
  little-part = rw (part_length s i k fits) at (bytes_back (part s i k) (all-part s i k all))

  pub little-part-bound : little (part s i k) < 256 ^ k
  little-part-bound = rw (part_length s i k fits) at (little-bound (part s i k) (all-part s i k all))

  turned : length (reverse (part s i k)) ≡ k
  turned = length-reverse (part s i k) ∙ part_length s i k fits

  pub big-part : big_bytes k (big (part s i k)) ≡ part s i k
  unfolding big_bytes big
  big-part =
      ap reverse (rw turned at (bytes_back (reverse (part s i k)) (all-reverse (part s i k) (all-part s i k all)))) ∙
      reverse-reverse (part s i k)

  pub big-part-bound : big (part s i k) < 256 ^ k
  unfolding big
  big-part-bound = rw turned at (little-bound (reverse (part s i k)) (all-reverse (part s i k) (all-part s i k all)))
