-- The sums on the way in a snapshot: of the first orders of any that reads and has at most 4,096 orders, accepted or refused later.
-- Assumes nothing.
use Rattle.std.specs.Prelude.{Ok}
use Prim.Native.Nat.{ℕ, zero, suc, ◌+◌, ◌*◌, ◌≤◌}
use native.Mathlib.Omega.{arith}
use mathlib.Core.Bool.{Bool, true, false, ◌&&◌, cond}
use mathlib.Core.Path.{◌≡◌, sym, subst}
use mathlib.Core.List.{List, [], ◌∷◌}
use lib.ListN.{length, take}
use Rattle.laws.proofs.Bools.{and_yes}
use Rattle.message.specs.declared.L3Side.{L3Side}
use Rattle.message.specs.declared.L3Snapshot.{L3Snapshot}
use Rattle.message.specs.Values.{amount_limit, in_range, order_in_range, orders_in_range}
use Rattle.message.proofs.Amounts.{in_range_most}
use Rattle.piece.specs.Piece.{order_at, orders_from, read_snapshot}
use Rattle.book.specs.Line.{Entry, same_level, volume}
use Rattle.book.specs.Rows.{most_rows}
use Rattle.reconstructor_bootstrap.specs.Snapshot.{snapshot_line}
use Rattle.reconstructor_bootstrap.specs.Places.{entry_at, entries_from}
use Rattle.reconstructor_bootstrap.proofs.Places.{line-places}
use Rattle.reconstructor_bootstrap.proofs.Laws.{read-ranged}
use Rattle.reconstructor_bootstrap.proofs.Whole.{length-snapshot}

-- every order is of an amount in range
abbrev Small : List Entry → Type 0
Small [] = Unit {0}
Small (e ∷ l) = (e.remaining ≤ amount_limit) × Small l

small_sum : (s : L3Side) (p : ℕ) (n : ℕ) (l : List Entry) → Small l → volume s p (take n l) ≤ length l * amount_limit
small_sum s p zero l h = omega arith
small_sum s p (suc n) [] h = omega arith
small_sum s p (suc n) (e ∷ l) h = go (same_level e.side e.price s p) (small_sum s p n l h.1) h.0
  where
    go : (b : Bool) → volume s p (take n l) ≤ length l * amount_limit → e.remaining ≤ amount_limit
        → cond b (e.remaining + volume s p (take n l)) (volume s p (take n l)) ≤ suc (length l) * amount_limit
    go true ih q = omega arith
    go false ih q = omega arith

entries-small : (bids : ℕ) (bytes : List ℕ) (i k : ℕ) → orders_in_range (orders_from bytes i k) ≡ true → Small (entries_from bids bytes i k)
unfolding orders_in_range orders_from order_in_range entries_from entry_at
entries-small bids bytes i zero h = tt
entries-small bids bytes i (suc k) h =
    let a = and_yes (in_range (order_at bytes i).price && in_range (order_at bytes i).size) (orders_in_range (orders_from bytes (i + 1) k)) h in
    let b = and_yes (in_range (order_at bytes i).price) (in_range (order_at bytes i).size) a.0 in
    (in_range_most (order_at bytes i).size b.1, entries-small bids bytes (i + 1) k a.1)

pub sums_on_the_way : (bytes : List ℕ) (x : L3Snapshot) → read_snapshot bytes ≡ Ok x → x.bids + x.asks ≤ most_rows → (n : ℕ) (s : L3Side) (p : ℕ)
    → volume s p (take n (snapshot_line x bytes)) ≤ 4096000000000000000
sums_on_the_way bytes x h few n s p =
    let l : Small (snapshot_line x bytes) = subst Small (sym (line-places x bytes)) (entries-small x.bids bytes 0 (x.bids + x.asks) (read-ranged bytes x h)) in
    omega (arith, small_sum s p n (snapshot_line x bytes) l, length-snapshot x bytes, few)
