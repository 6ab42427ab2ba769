-- An accepted event keeps the rows well formed.
-- Assumes nothing.
use Rattle.std.specs.Prelude.{Option, Some, None, ℤ}
use Prim.Native.Nat.{ℕ, ◌-◌, ◌≤◌, ◌<◌}
use mathlib.Core.Bool.{Bool, true, false, not, ◌&&◌, cond}
use mathlib.Core.Path.{◌≡◌, refl, sym, ap, ◌∙◌}
use mathlib.Core.List.{List, [], ◌∷◌, ◌++◌}
use native.Mathlib.Omega.{arith}
use borrow.Author.Tests.{eqb-false, ltb-false, leb-false}
use lib.Dec.{leb, ltb, eqb}
use lib.ListN.{length}
use Rattle.message.specs.declared.L3Side.{L3Side}
use Rattle.message.specs.declared.L3Side.TheVariants.{Buy, Sell}
use Rattle.message.specs.declared.OrderId.{OrderId}
use Rattle.message.specs.declared.L3Event.{L3Event}
use Rattle.message.specs.declared.L3Event.TheVariants.{Received, Open, Done, Match, Change, Unsupported}
use Rattle.message.specs.Values.{amount_limit, in_range, event_in_range}
use Rattle.message.specs.Amounts.{nat_of}
use Rattle.book.specs.Broken.{WellFormed}
use Rattle.book.specs.declared.Resting.{Resting}
use Rattle.book.specs.Line.{Entry, find, has_level, levels, would_cross}
use Rattle.book.specs.Rows.{row_at, rows_of, line_of, entry_of, find_row, cut_rows, observed_kind, observed_row}
use Rattle.book.specs.Memory.{keep, cut_to, orders_by}
use Rattle.reconstructor_state.specs.declared.VenueRules.{VenueRules}
use Rattle.reconstructor_plan.specs.Rules.{entry_for, open_refusal, change_refusal, size_refusal, size_given, done_effect, match_effect, change_effect, event_refusal, effect}
use Rattle.book.proofs.Stored.{found_at, found_none}
use Rattle.book.proofs.Kept.{InRange, row-sound, length-line, insert-kept, cut-kept}
use Rattle.book.proofs.Memory.{observed-side}
use Rattle.laws.proofs.Bools.{and_yes}
use Rattle.message.proofs.Amounts.{in_range_most}
use Rattle.reconstructor_state.proofs.Checks.{passed}

-- ---- a joined row

observed-small : (s : L3Side) → ltb 3 (observed_kind s) ≡ false
observed-small Buy = refl
observed-small Sell = refl

room : (h : Bool) (a b : ℕ) → (not h && leb a b) ≡ false → h ≡ false → b < a
room false a b q e = leb-false a b q
room true a b q e = let z : ◌≡◌ {A = ℕ} 0 1 = cc in absurd (omega arith)

-- an amount that is neither 0 nor above the limit
fits : (x : ℕ) → eqb x 0 ≡ false → x ≤ amount_limit → InRange x
fits x z h = let q : x ≡ 0 → ⊥ = eqb-false x 0 z in record { low = omega (arith, q); high = h }

join-formed : (v : VenueRules) (os : List Resting) (seq : ℕ) (d : OrderId) (s : L3Side) (p q : ℕ) → WellFormed v.max_orders v.max_levels os
    → p ≤ amount_limit → q ≤ amount_limit → open_refusal v (line_of os) d s p q ≡ None
    → WellFormed v.max_orders v.max_levels (os ++ (observed_row seq (entry_for d s p q) ∷ []))
unfolding open_refusal
join-formed v os seq d s p q w hp hq h =
    let h₁ = passed _ _ _ h in
    let h₂ = passed _ _ _ h₁.1 in
    let h₃ = passed _ _ _ h₂.1 in
    let h₄ = passed _ _ _ h₃.1 in
    let h₅ = passed _ _ _ h₄.1 in
    let h₆ = passed _ _ _ h₅.1 in
    let o : Resting = observed_row seq (entry_for d s p q) in
    insert-kept v.max_orders v.max_levels os o w
    (record {
      new = h₁.0;
      sound = row-sound o (record { kind = observed-small s; price = fits p h₂.0 hp; remaining = fits q h₃.0 hq; flag = refl });
      apart = ap (λ (t : L3Side). would_cross t p (line_of os)) (observed-side s) ∙ h₄.0;
      few = omega (arith, leb-false v.max_orders (length (line_of os)) h₅.0, length-line os);
      flat =
          λ e.
          room (has_level s p (line_of os)) v.max_levels (levels (line_of os)) h₆.0
          (sym (ap (λ (t : L3Side). has_level t p (line_of os)) (observed-side s)) ∙ e);
    })

-- ---- a cut row

cut-formed : (mo ml : ℕ) (ws : List ℕ) (n : ℕ) (d : OrderId) (r : ℕ) (mark : Option ℕ) (e : Entry) → WellFormed mo ml (rows_of ws n)
    → find d (line_of (rows_of ws n)) ≡ Some e → r ≤ e.remaining → WellFormed mo ml (cut_rows d r mark (rows_of ws n))
cut-formed mo ml ws n d r mark e w q h = go (find_row (rows_of ws n) d 0) refl
  where
    go : (f : Option ℕ) → find_row (rows_of ws n) d 0 ≡ f → WellFormed mo ml (cut_rows d r mark (rows_of ws n))
    go None p =
        let k = found_none (rows_of ws n) d 0 p in
        let z : ◌≡◌ {A = ℕ} 0 1 = cc in
        absurd (omega arith)
    go (Some i) p =
        let k = (found_at ws n d i p).entry in
        let t : e ≡ entry_of (row_at ws i) = cc in
        let l : e.remaining ≡ (row_at ws i).remaining = ap (λ (x : Entry). x.remaining) t in
        cut-kept mo ml ws n d i r mark w p (omega arith)

-- ---- an event

module _ (v : VenueRules) (ws : List ℕ) (n seq : ℕ) (w : WellFormed v.max_orders v.max_levels (rows_of ws n)) where
  abbrev Formed : List Resting → Type 0
  Formed os = WellFormed v.max_orders v.max_levels os

  pub event-formed : (x : L3Event) → event_in_range x ≡ true → event_refusal v (line_of (rows_of ws n)) x ≡ None → Formed (orders_by (effect v (line_of (rows_of ws n)) seq x) (rows_of ws n))
  unfolding event_refusal effect event_in_range change_refusal size_refusal
  event-formed (Received d s) g h = w
  event-formed (Open d s p q) g h =
      let k = and_yes (in_range p) (in_range q) g in
      join-formed v (rows_of ws n) seq d s (nat_of p) (nat_of q) w (in_range_most p k.0) (in_range_most q k.1) h
  event-formed (Done d s p why r) g h = go (find d (line_of (rows_of ws n))) refl
    where
      go : (o : Option Entry) → find d (line_of (rows_of ws n)) ≡ o → Formed (orders_by (done_effect d o) (rows_of ws n))
      go None q = w
      go (Some e) q = cut-formed v.max_orders v.max_levels ws n d 0 None e w q (omega arith)
  event-formed (Match m t s p x) g h = go (find m (line_of (rows_of ws n))) refl
    where
      go : (o : Option Entry) → find m (line_of (rows_of ws n)) ≡ o → Formed (orders_by (match_effect m o (nat_of x)) (rows_of ws n))
      go None q = w
      go (Some e) q = cut-formed v.max_orders v.max_levels ws n m (e.remaining - nat_of x) None e w q (omega arith)
  event-formed (Change d s why p old_size new_size old_price new_price funds) g h = go (find d (line_of (rows_of ws n))) refl h
    where
      smaller : (e : Entry) (z : Option ℤ) → size_refusal e.remaining z funds ≡ None → size_given z ≤ e.remaining
      smaller e None h = omega arith
      smaller e (Some x) h = ltb-false e.remaining (nat_of x) (passed _ _ _ (passed _ _ _ h).1).0

      go : (o : Option Entry) → find d (line_of (rows_of ws n)) ≡ o → change_refusal o s why p old_size new_size old_price new_price funds ≡ None
          → Formed (orders_by (change_effect seq d o (size_given new_size)) (rows_of ws n))
      go None q h = w
      go (Some e) q h = noop (eqb (size_given new_size) e.remaining)
        where
          noop : (b : Bool) → Formed (orders_by (cond b keep (cut_to d (size_given new_size) (Some seq))) (rows_of ws n))
          noop true = w
          noop false =
              cut-formed v.max_orders v.max_levels ws n d (size_given new_size) (Some seq) e w q
              (smaller e new_size (passed _ _ _ (passed _ _ _ (passed _ _ _ h).1).1).1)
  event-formed (Unsupported k) g h = w
