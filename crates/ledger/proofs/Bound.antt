-- Every figure of the ledger is at most 4.096 × 10^18: under any ceiling up to 4,096, a book within it has at most 4,096 orders of at most 10^15, and one above it
-- takes nothing.
-- Assumes nothing.
use Prim.Native.Nat.{ℕ, ◌≤◌}
use native.Mathlib.Omega.{arith}
use mathlib.Core.Bool.{Bool, true, false, ◌||◌}
use mathlib.Core.Path.{◌≡◌, refl, ap, ◌∙◌}
use mathlib.Core.List.{List, [], ◌∷◌}
use Rattle.message.specs.declared.L3Side.{L3Side}
use Rattle.book.specs.Line.{volume}
use Rattle.book.specs.Rows.{most_rows}
use Rattle.book.specs.Memory.{Extent, orders_of}
use Rattle.book.proofs.Kept.{level-bound}
use Rattle.reconstructor_state.specs.State.{View}
use Rattle.reconstructor_checks.specs.StateChecks.{over_ceiling, too_short}
use Rattle.reconstructor_checks.proofs.StateChecks.{sound, orders-within}
use Rattle.ledger.specs.Ledger.{Config, Call, bootstrap, apply, step, read, blank, view_by, feed_view}
use Rattle.ledger.specs.World.{World}
use Rattle.ledger.proofs.Follow.{Follows, view_all, early-apply, early-step, early_boot}

module _ (top : ℕ) (c : Config) (h : over_ceiling top c.rules ≡ true) where
  over-same : (v : View) (k : Call) → feed_view top c v k ≡ v
  unfolding feed_view
  over-same v (bootstrap n bytes) = early_boot top c n v bytes (ap (λ (x : Bool). x || too_short c.rules n v.segments) h)
  over-same v (apply n m) = ap (λ o. view_by c.rules m o v) (early-apply top c n v m (ap (λ (x : Bool). x || too_short c.rules n v.segments) h))
  over-same v (step n hs m) = ap (λ o. view_by c.rules m o v) (early-step top c n v hs m (ap (λ (x : Bool). x || too_short c.rules n v.segments) h))
  over-same v (read q) = refl

  over_all : (v : View) (ks : List Call) → view_all top c v ks ≡ v
  over_all v [] = refl
  over_all v (k ∷ ks) = over_all (feed_view top c v k) ks ∙ over-same v k

pub line-bound : (top : ℕ) → top ≤ most_rows → (c : Config) (r : Extent) (s : ℕ) (w : World) (ks : List Call) → Follows c r s w (view_all top c blank ks) → (t : L3Side) (p : ℕ)
    → volume t p (view_all top c blank ks).line ≤ 4096000000000000000
line-bound top small c r s w ks f t p = go (over_ceiling top c.rules) refl
  where
    go : (b : Bool) → over_ceiling top c.rules ≡ b → volume t p (view_all top c blank ks).line ≤ 4096000000000000000
    go true h = rw (over_all top c h blank ks) (omega arith)
    go false h =
        let e : w.book.rules.max_orders ≡ c.rules.max_orders = ap (λ (x : Config). x.rules.max_orders) f.stands.config in
        let m : w.book.rules.max_orders ≤ most_rows = omega (arith, e, small, orders-within top c.rules h) in
        let q = (level-bound w.book.rules.max_orders w.book.rules.max_levels (orders_of w.memory w.book.rows) t p m (sound w.book w.memory f.stands.sound).formed).0 in
        let l = ap (λ (x : View). volume t p x.line) f.stands.view in
        omega (arith, q, l)
