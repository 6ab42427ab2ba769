-- Parts of a list of bytes, and the numbers in them.
-- Assumes nothing.
use Prim.Native.Nat.{ℕ, suc, ◌+◌, ◌≤◌, ◌<◌}
use native.Mathlib.Numerals.{add-one}
use native.Mathlib.Omega.{arith}
use mathlib.Core.Path.{◌≡◌, ap, ◌∙◌}
use mathlib.Core.List.{List, [], ◌∷◌, ◌++◌}
use lib.ListN.{length, get_or, take, drop, length-drop}
use lib.Seq.{drop-cons, drop-drop, take-add, length-take-le}
use Rattle.std.specs.Int.{w32, w64, from_le_bytes, from_be_bytes}
use Rattle.piece.specs.Bytes.{part, little, big}

pub part_cons : (s : List ℕ) (i k : ℕ) → i < length s → part s i (suc k) ≡ get_or s i 0 ∷ part s (i + 1) k
unfolding part
part_cons s i k h = rw (add-one, drop-cons s i 0)

pub part_four : (s : List ℕ) (i : ℕ) → i + 4 ≤ length s →
    part s i 4 ≡ get_or s i 0 ∷ get_or s (i + 1) 0 ∷ get_or s (i + 2) 0 ∷ get_or s (i + 3) 0 ∷ []
unfolding part
part_four s i h =
    part_cons s i 3 (omega arith) ∙
    ap (λ l. get_or s i 0 ∷ l)
    (next (i + 1) (i + 2) 2 (omega arith) (omega arith) ∙
    ap (λ l. get_or s (i + 1) 0 ∷ l)
    (next (i + 2) (i + 3) 1 (omega arith) (omega arith) ∙
    ap (λ l. get_or s (i + 2) 0 ∷ l) (next (i + 3) (i + 4) 0 (omega arith) (omega arith))))
  where
    next : (j k n : ℕ) → k ≡ j + 1 → j < length s → part s j (suc n) ≡ get_or s j 0 ∷ part s k n
    next j k n e h = rw e (part_cons s j n h)

pub part_join : (s : List ℕ) (i a b : ℕ) → part s i (a + b) ≡ part s i a ++ part s (i + a) b
unfolding part
part_join s i a b = take-add a b (drop i s) ∙ ap (λ l. take a (drop i s) ++ take b l) (drop-drop a i s)

pub part_length : (s : List ℕ) (i k : ℕ) → i + k ≤ length s → length (part s i k) ≡ k
unfolding part
part_length s i k h = length-take-le k (drop i s) (rw length-drop (omega arith))

part_eight : (s : List ℕ) (i : ℕ) → i + 8 ≤ length s →
    part s i 8 ≡
    (get_or s i 0 ∷ get_or s (i + 1) 0 ∷ get_or s (i + 2) 0 ∷ get_or s (i + 3) 0 ∷ []) ++
    (get_or s (i + 4) 0 ∷ get_or s (i + 4 + 1) 0 ∷ get_or s (i + 4 + 2) 0 ∷ get_or s (i + 4 + 3) 0 ∷ [])
part_eight s i h = rw (part_join s i 4 4, part_four s i (omega arith), part_four s (i + 4) (omega arith))

-- ---- the number in a part, as std reads it from an array

pub little_four : (s : List ℕ) (i : ℕ) → i + 4 ≤ length s → from_le_bytes w32 (part s i 4) ≡ little (part s i 4)
unfolding little
little_four s i h = rw (part_four s i h) (omega arith)

pub little_eight : (s : List ℕ) (i : ℕ) → i + 8 ≤ length s → from_le_bytes w64 (part s i 8) ≡ little (part s i 8)
unfolding little
little_eight s i h = rw (part_eight s i h) (omega arith)

pub big_eight : (s : List ℕ) (i : ℕ) → i + 8 ≤ length s → from_be_bytes w64 (part s i 8) ≡ big (part s i 8)
unfolding little big
big_eight s i h = rw (part_eight s i h) (omega arith)
