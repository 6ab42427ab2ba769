-- The snapshot's line by place is its bids, then its asks.
-- Assumes nothing.
use Prim.Native.Nat.{ℕ, zero, suc, ◌+◌, ◌≤◌}
use mathlib.Core.Path.{◌≡◌, refl, sym, ap, ap₂, ◌∙◌}
use mathlib.Core.List.{List, [], ◌∷◌, ◌++◌, map}
use native.Mathlib.Nat.{add-zero, zero-add, suc-add}
use native.Mathlib.Omega.{arith}
use borrow.Author.Tests.{lt-ltb, le-ltb}
use lib.ListN.{length, length-map}
use Rattle.message.specs.declared.L3Side.TheVariants.{Buy, Sell}
use Rattle.message.specs.declared.L3Snapshot.{L3Snapshot}
use Rattle.piece.specs.Piece.{orders_from}
use Rattle.book.specs.declared.Resting.{Resting}
use Rattle.book.specs.Line.{Entry}
use Rattle.book.specs.Rows.{snapshot_row}
use Rattle.reconstructor_bootstrap.specs.Snapshot.{listed, snapshot_line}
use Rattle.reconstructor_bootstrap.specs.Places.{side_at, entry_at, entries_from, rows_at}

module _ (bids : ℕ) (bytes : List ℕ) where
  pub entries-length : (i k : ℕ) → length (entries_from bids bytes i k) ≡ k
  unfolding entries_from
  entries-length i zero = refl
  entries-length i (suc k) = ap suc (entries-length (i + 1) k)

  pub entries-split : (i a b : ℕ) → entries_from bids bytes i (a + b) ≡ entries_from bids bytes i a ++ entries_from bids bytes (i + a) b
  unfolding entries_from
  entries-split i zero b = simp (add-zero, zero-add)
  entries-split i (suc a) b =
      let p : i + suc a ≡ i + 1 + a = omega arith in
      rw (suc-add, p, entries-split (i + 1) a b)

  pub entries_next : (i : ℕ) → entries_from bids bytes 0 (i + 1) ≡ entries_from bids bytes 0 i ++ (entry_at bids bytes i ∷ [])
  unfolding entries_from
  entries_next i = entries-split 0 i 1 ∙ rw zero-add

  entries-bids : (i k : ℕ) → i + k ≤ bids → entries_from bids bytes i k ≡ map (listed Buy) (orders_from bytes i k)
  unfolding entries_from orders_from entry_at side_at
  entries-bids i zero h = refl
  entries-bids i (suc k) h = ap₂ ◌∷◌ (rw (lt-ltb i bids (omega arith))) (entries-bids (i + 1) k (omega arith))

  entries-asks : (i k : ℕ) → bids ≤ i → entries_from bids bytes i k ≡ map (listed Sell) (orders_from bytes i k)
  unfolding entries_from orders_from entry_at side_at
  entries-asks i zero h = refl
  entries-asks i (suc k) h = ap₂ ◌∷◌ (rw (le-ltb i bids h)) (entries-asks (i + 1) k (omega arith))

pub line-places : (s : L3Snapshot) (bytes : List ℕ) → snapshot_line s bytes ≡ entries_from s.bids bytes 0 (s.bids + s.asks)
line-places s bytes =
    sym
    (entries-split s.bids bytes 0 s.bids s.asks
    ∙ rw zero-add
    (ap₂ ◌++◌ (entries-bids s.bids bytes 0 s.bids (omega arith)) (entries-asks s.bids bytes s.bids s.asks (omega arith))))

-- ---- as rows

map_row_append : (t : ℕ) (a b : List Entry) → map (snapshot_row t) (a ++ b) ≡ map (snapshot_row t) a ++ map (snapshot_row t) b
map_row_append t [] b = refl
map_row_append t (e ∷ a) b = ap (λ (x : List Resting). snapshot_row t e ∷ x) (map_row_append t a b)

module _ (bids : ℕ) (bytes : List ℕ) (t : ℕ) where
  pub rows_at-next : (i : ℕ) (o : Resting) → o ≡ snapshot_row t (entry_at bids bytes i) → rows_at bids bytes (i + 1) t ≡ rows_at bids bytes i t ++ (o ∷ [])
  rows_at-next i o e = ap (map (snapshot_row t)) (entries_next bids bytes i) ∙ map_row_append t (entries_from bids bytes 0 i) (entry_at bids bytes i ∷ []) ∙ rw e

  pub rows_at-length : (n : ℕ) → length (rows_at bids bytes n t) ≡ n
  rows_at-length n = length-map (entries_from bids bytes 0 n) (snapshot_row t) ∙ entries-length bids bytes 0 n
