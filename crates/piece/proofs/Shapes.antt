-- What the tests of a piece tell of it, and the orders of a snapshot one by one.
-- Assumes nothing.
use Rattle.std.specs.Prelude.{Option, Some, None}
use Prim.Native.Nat.{ℕ, zero, suc, ◌+◌, ◌*◌, ◌≤◌, ◌<◌}
use native.Mathlib.Omega.{arith}
use mathlib.Core.Path.{◌≡◌, refl, ap}
use mathlib.Core.Bool.{Bool, true, false, cond, ◌&&◌}
use mathlib.Core.List.{List}
use borrow.Author.Tests.{eqb-true, ne_eqb}
use lib.Dec.{eqb}
use lib.ListN.{length, get_or}
use Rattle.std.specs.List.{list_all, range_with_len}
use Rattle.message.specs.Values.{order_in_range, orders_in_range}
use Rattle.message.specs.declared.L3Event.{L3Event}
use Rattle.piece.specs.Piece.{event_if, read_received, read_open, read_done, read_match, read_change, read_unsupported, read_event, bids_at, asks_at, snapshot_shaped, order_at, orders_from}
use Rattle.laws.proofs.Bools.{and_yes}

-- ---- a piece with an event has its shape, and is long enough for a message's header

pub shaped : (b : Bool) (x e : L3Event) → event_if b x ≡ Some e → (b ≡ true) × (x ≡ e)
unfolding event_if
shaped true x e h = (refl, cc)
shaped false x e h = let z : ◌≡◌ {A = ℕ} 0 1 = cc in absurd (omega arith)

-- an event comes from the reader of its kind
module _ (s : List ℕ) (e : L3Event) {P : Type 0} where
  pick : (b : Bool) (x y : Option L3Event) → (b ≡ true → x ≡ Some e → P) → (y ≡ Some e → P) → cond b x y ≡ Some e → P
  pick true x y f g q = f refl q
  pick false x y f g q = g q

  none : None ≡ Some e → P
  none q = let z : ◌≡◌ {A = ℕ} 0 1 = cc in absurd (omega arith)

  pub by_kind :
      (eqb (get_or s 0 0) 1 ≡ true → read_received s ≡ Some e → P) →
      (eqb (get_or s 0 0) 2 ≡ true → read_open s ≡ Some e → P) →
      (eqb (get_or s 0 0) 3 ≡ true → read_done s ≡ Some e → P) →
      (eqb (get_or s 0 0) 4 ≡ true → read_match s ≡ Some e → P) →
      (eqb (get_or s 0 0) 5 ≡ true → read_change s ≡ Some e → P) →
      (eqb (get_or s 0 0) 6 ≡ true → read_unsupported s ≡ Some e → P) →
      read_event s ≡ Some e → P
  unfolding read_event
  by_kind received «open» done matched change unsupported =
      pick (eqb (get_or s 0 0) 1) (read_received s) _ received
      (pick (eqb (get_or s 0 0) 2) (read_open s) _ «open»
      (pick (eqb (get_or s 0 0) 3) (read_done s) _ done
      (pick (eqb (get_or s 0 0) 4) (read_match s) _ matched
      (pick (eqb (get_or s 0 0) 5) (read_change s) _ change
      (pick (eqb (get_or s 0 0) 6) (read_unsupported s) None unsupported none)))))

module _ (s : List ℕ) (e : L3Event) where
  long : (n : ℕ) (b : Bool) (x : L3Event) → 33 ≤ n → event_if (eqb (length s) n && b) x ≡ Some e → 33 ≤ length s
  long n b x h q = omega (arith, eqb-true (length s) n (and_yes _ b (shaped _ x e q).0).0)

  pub event-long : read_event s ≡ Some e → 33 ≤ length s
  unfolding read_received read_open read_done read_match read_change read_unsupported
  event-long =
      by_kind s e
      (λ k. long 50 _ _ (omega arith))
      (λ k. long 66 _ _ (omega arith))
      (λ k. long 68 _ _ (omega arith))
      (λ k. long 82 _ _ (omega arith))
      (λ k. long 100 _ _ (omega arith))
      (λ k q. omega (arith, eqb-true (length s) 37 (shaped _ _ e q).0))

pub short : (s : List ℕ) → length s < 33 → read_event s ≡ None
short s h = go (read_event s) refl
  where
    go : (r : Option L3Event) → read_event s ≡ r → r ≡ None
    go None q = refl
    go (Some e) q = absurd (omega (arith, event-long s e q))

pub short_snapshot : (s : List ℕ) → length s < 41 → snapshot_shaped s ≡ false
unfolding snapshot_shaped
short_snapshot s h = rw (ne_eqb (length s) (41 + 32 * (bids_at s + asks_at s)) (λ e. omega arith))

-- ---- the orders from a place on

-- the orders from a place on are in range where the order at each of their places is
pub orders_all : (s : List ℕ) (i k : ℕ) → list_all (λ j. order_in_range (order_at s j)) (range_with_len i k) ≡ orders_in_range (orders_from s i k)
unfolding orders_from orders_in_range
orders_all s i zero = refl
orders_all s i (suc k) = ap (λ b. order_in_range (order_at s i) && b) (orders_all s (i + 1) k)
