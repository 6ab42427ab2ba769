-- What the rules of a day file give: every pair and every piece lies in the file.
-- Assumes nothing.
use Prim.Native.Nat.{ℕ, zero, suc, ◌+◌, ◌-◌, ◌≤◌, ◌<◌}
use native.Mathlib.Nat.{add-zero, sub-zero}
use native.Mathlib.Omega.{arith}
use mathlib.Core.Path.{◌≡◌, ap}
use mathlib.Core.Bool.{true, ◌&&◌, cond}
use mathlib.Core.List.{List, ◌∷◌, []}
use borrow.Author.Tests.{leb-true}
use lib.Dec.{leb, ltb}
use lib.ListN.{length, take, drop}
use Rattle.laws.proofs.Bools.{and_yes}
use Rattle.piece.specs.Bytes.{part}
use Rattle.piece.specs.Piece.{product_id_at}
use Rattle.daybook_file.specs.DayFile.{day_bytes, piece_count, pair_at, offset_of, length_of, end_of, before_next, in_order, in_place, day_shaped, piece_at, pieces_from, pieces_of, no_product, product_of}

-- the piece d places behind piece i ends within the file: by the next one's offset, which is not past the next one's end
in-order-ends : (f : List ℕ) (k i d : ℕ) → in_order f i k ≡ true → d ≤ k → end_of f (i + d) ≤ length f
unfolding in_order before_next
in-order-ends f zero i d h q = rw (let e : i + d ≡ i = omega arith in e) (leb-true (end_of f i) (length f) h)
in-order-ends f (suc k) i zero h q =
    let a = and_yes (before_next f i) (in_order f (i + 1) k) h in
    let b = and_yes (ltb (offset_of f i) (offset_of f (i + 1))) (leb (end_of f i) (offset_of f (i + 1))) a.0 in
    let e = rw (add-zero (i + 1)) at (in-order-ends f k (i + 1) 0 a.1 (omega arith)) in
    rw (add-zero i) (omega (arith, leb-true (end_of f i) (offset_of f (i + 1)) b.1))
in-order-ends f (suc k) i (suc d) h q =
    rw (let e : i + suc d ≡ (i + 1) + d = omega arith in e) (in-order-ends f k (i + 1) d (and_yes (before_next f i) (in_order f (i + 1) k) h).1 (omega arith))

in-place-ends : (f : List ℕ) (count i : ℕ) → in_place f count ≡ true → i < count → end_of f i ≤ length f
unfolding in_place
in-place-ends f zero i h q = absurd (omega arith)
in-place-ends f (suc k) i h q = rw (let e : 0 + i ≡ i = omega arith in e) at (in-order-ends f k 0 i (and_yes (leb (pair_at (suc k)) (offset_of f 0)) (in_order f 0 k) h).1 (omega arith))

module _ (f : List ℕ) (h : day_shaped f ≡ true) where
  rules : ((leb (length f) day_bytes && leb (pair_at (piece_count f)) (length f)) ≡ true) × (in_place f (piece_count f) ≡ true)
  unfolding day_shaped
  rules = and_yes (leb (length f) day_bytes && leb (pair_at (piece_count f)) (length f)) (in_place f (piece_count f)) h

  pub pairs-inside : pair_at (piece_count f) ≤ length f
  pairs-inside = leb-true (pair_at (piece_count f)) (length f) (and_yes (leb (length f) day_bytes) (leb (pair_at (piece_count f)) (length f)) rules.0).1

  pub piece_inside : (i : ℕ) → i < piece_count f → end_of f i ≤ length f
  piece_inside i q = in-place-ends f (piece_count f) i rules.1 q

-- ---- how the code meets them

module _ (f : List ℕ) (count i : ℕ) where
  pub order-next : i + 1 < count → in_order f i (count - 1 - i) ≡ before_next f i && in_order f (i + 1) (count - 1 - (i + 1))
  unfolding in_order
  order-next h = rw (let e : count - 1 - i ≡ suc (count - 1 - (i + 1)) = omega arith in e)

-- a piece, cut from the file
pub piece_cut : (f : List ℕ) (i : ℕ) → take (end_of f i - offset_of f i) (drop (offset_of f i) f) ≡ piece_at f i
unfolding piece_at part
piece_cut f i = ap (λ (k : ℕ). take k (drop (offset_of f i) f)) (let e : end_of f i - offset_of f i ≡ length_of f i = omega arith in e)

-- the first of those that are left
pub pieces-next : (f : List ℕ) (n i : ℕ) → i < n → pieces_from f i (n - i) ≡ piece_at f i ∷ pieces_from f (i + 1) (n - (i + 1))
unfolding pieces_from
pieces-next f n i h = rw (let e : n - i ≡ suc (n - (i + 1)) = omega arith in e)

pub pieces_none : (f : List ℕ) (n i : ℕ) → n ≤ i → pieces_from f i (n - i) ≡ []
unfolding pieces_from
pieces_none f n i h = rw (let e : n - i ≡ 0 = omega arith in e)

-- ---- the first piece's product

pub product-some : (f : List ℕ) → 0 < piece_count f → product_of (pieces_of f) ≡ cond (ltb (length (piece_at f 0)) 17) no_product (product_id_at (piece_at f 0) 1)
unfolding product_of pieces_of
product-some f h = rw (rw (sub-zero (piece_count f)) at (pieces-next f (piece_count f) 0 h))
