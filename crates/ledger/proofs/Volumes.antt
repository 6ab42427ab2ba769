-- The figures of the ledger are the volumes of its line: what each event does to both.
-- Assumes nothing.
use Rattle.std.specs.Prelude.{Option, Some, None}
use Prim.Native.Nat.{ℕ, ◌+◌, ◌-◌, ◌≤◌}
use native.Mathlib.Omega.{arith}
use native.Mathlib.Nat.{sub-zero}
use mathlib.Core.Bool.{Bool, true, false, not, cond}
use mathlib.Core.Path.{◌≡◌, refl, sym, ap, ◌∙◌}
use mathlib.Core.List.{List, [], ◌∷◌, ◌++◌}
use lib.Dec.{eqb}
use lib.IntN.{ℤ, pos, negsuc}
use borrow.Author.Tests.{eqb-true, ltb-false, not-false}
use Rattle.laws.proofs.Bools.{or_no}
use Rattle.message.specs.declared.L3Side.{L3Side}
use Rattle.message.specs.declared.OrderId.{OrderId}
use Rattle.message.specs.declared.ChangeReason.{ChangeReason}
use Rattle.message.specs.declared.L3Event.{L3Event}
use Rattle.message.specs.declared.L3Event.TheVariants.{Received, Open, Done, Match, Change, Unsupported}
use Rattle.message.specs.Same.{same_side, same_id}
use Rattle.message.specs.Amounts.{nat_of, differs}
use Rattle.book.specs.Line.{Entry, same_level, volume, find, left, cut}
use Rattle.book.specs.Memory.{keep, cut_to, line_by}
use Rattle.book.proofs.Moves.{same-sides}
use Rattle.reconstructor_state.specs.declared.VenueRules.{VenueRules}
use Rattle.reconstructor_state.proofs.Checks.{passed}
use Rattle.reconstructor_plan.specs.Rules.{event_refusal, maker_refusal, change_refusal, size_refusal, size_given, effect, done_effect, match_effect, change_effect, entry_for}
use Rattle.ledger.specs.Ledger.{Figure, on, plus, less, less_of, tally, tallied, nought}

pub volume_cons : (s : L3Side) (p : ℕ) (e : Entry) (l : List Entry) → volume s p (e ∷ l) ≡ on e.side e.price s p e.remaining + volume s p l
volume_cons s p e l = go (same_level e.side e.price s p)
  where
    go : (b : Bool) → cond b (e.remaining + volume s p l) (volume s p l) ≡ cond b e.remaining 0 + volume s p l
    go true = refl
    go false = omega arith

volume_append : (s : L3Side) (p : ℕ) (a b : List Entry) → volume s p (a ++ b) ≡ volume s p a + volume s p b
volume_append s p [] b = omega arith
volume_append s p (e ∷ a) b = omega (arith, volume_append s p a b, volume_cons s p e (a ++ b), volume_cons s p e a)

on-split : (b : Bool) (x r v : ℕ) → r ≤ x → cond b r 0 + v + cond b (x - r) 0 ≡ cond b x 0 + v
on-split true x r v h = omega arith
on-split false x r v h = omega arith

on-zero : (b : Bool) (x r v : ℕ) → r ≡ 0 → v + cond b (x - r) 0 ≡ cond b x 0 + v
on-zero true x r v h = omega arith
on-zero false x r v h = omega arith

-- a cut takes off what the order loses
volume_cut : (s : L3Side) (p : ℕ) (d : OrderId) (r : ℕ) (l : List Entry) (e : Entry) → find d l ≡ Some e → r ≤ e.remaining
    → volume s p (cut d r l) + on e.side e.price s p (e.remaining - r) ≡ volume s p l
volume_cut s p d r [] e q h = let z : ◌≡◌ {A = ℕ} 0 1 = cc in absurd (omega arith)
volume_cut s p d r (a ∷ l) e q h = go (same_id a.id d) q (volume_cut s p d r l e)
  where
    go : (b : Bool) → cond b (Some a) (find d l) ≡ Some e
        → (find d l ≡ Some e → r ≤ e.remaining → volume s p (cut d r l) + on e.side e.price s p (e.remaining - r) ≡ volume s p l)
        → volume s p (cond b (cond (eqb r 0) l (left a r ∷ l)) (a ∷ cut d r l)) + on e.side e.price s p (e.remaining - r) ≡ volume s p (a ∷ l)
    go true q ih = let t : a ≡ e = cc in rw t (here (eqb r 0) refl)
      where
        here : (b : Bool) → eqb r 0 ≡ b → volume s p (cond b l (left e r ∷ l)) + on e.side e.price s p (e.remaining - r) ≡ volume s p (e ∷ l)
        here true z = on-zero (same_level e.side e.price s p) e.remaining r _ (eqb-true _ _ z) ∙ sym (volume_cons s p e l)
        here false z =
            ap (λ (x : ℕ). x + on e.side e.price s p (e.remaining - r)) (volume_cons s p (left e r) l)
            ∙ on-split (same_level e.side e.price s p) e.remaining r _ h
            ∙ sym (volume_cons s p e l)
    go false q ih = omega (arith, ih q h, volume_cons s p a (cut d r l), volume_cons s p a l)

unfoldable pub Tallies : Figure → List Entry → Type 0
Tallies f l = (s : L3Side) (p : ℕ) → f s p ≡ volume s p l

price_is : (x : ℤ) (n : ℕ) → differs x n ≡ false → nat_of x ≡ n
unfolding differs
price_is (pos m) n h = same (eqb m n) refl h
  where
    same : (b : Bool) → eqb m n ≡ b → not b ≡ false → m ≡ n
    same true e h = eqb-true m n e
    same false e h = cc
price_is (negsuc m) n h = cc

cut_tallies : (l : List Entry) (f : Figure) (d : OrderId) (r : ℕ) (e : Entry) → Tallies f l → find d l ≡ Some e → r ≤ e.remaining
    → Tallies (less e.side e.price (e.remaining - r) f) (cut d r l)
unfolding Tallies
cut_tallies l f d r e t q h s p = omega (arith, t s p, volume_cut s p d r l e q h)

less-nothing : (l : List Entry) (f : Figure) (s : L3Side) (p x : ℕ) → Tallies f l → x ≡ 0 → Tallies (less s p x f) l
unfolding Tallies
less-nothing l f s p x t z s' p' = go (same_level s p s' p')
  where
    go : (b : Bool) → f s' p' - cond b x 0 ≡ volume s' p' l
    go true = omega (arith, t s' p')
    go false = omega (arith, t s' p')

-- no more than what was left
size_most : (left : ℕ) (x funds : Option ℤ) → size_refusal left x funds ≡ None → size_given x ≤ left
unfolding size_refusal
size_most left None funds h = let z : ◌≡◌ {A = ℕ} 0 1 = cc in absurd (omega arith)
size_most left (Some x) funds h = ltb-false left (nat_of x) (passed _ _ _ (passed _ _ _ h).1).0

-- an accepted match is of a maker that rests, on its side, at its price, and of no more than it has
maker-rests : {B : Type 0} (s : L3Side) (p : ℤ) (q : ℕ) → maker_refusal None s p q ≡ None → B
unfolding maker_refusal
maker-rests s p q h = let z : ◌≡◌ {A = ℕ} 0 1 = cc in absurd (omega arith)

matched : (l : List Entry) (f : Figure) (m : OrderId) (s : L3Side) (p : ℤ) (q : ℕ) (e : Entry) → Tallies f l → find m l ≡ Some e → maker_refusal (Some e) s p q ≡ None
    → Tallies (less s (nat_of p) q f) (cut m (e.remaining - q) l)
unfolding maker_refusal
matched l f m s p q e t o h =
    let h₁ = passed _ _ _ h in
    let h₂ = passed _ _ _ h₁.1 in
    let h₃ = passed _ _ _ h₂.1 in
    let d = or_no (not (same_side e.side s)) (differs p e.price) h₁.0 in
    let x : e.side ≡ s = same-sides e.side s (not-false (same_side e.side s) d.0) in
    let y : nat_of p ≡ e.price = price_is p e.price d.1 in
    let z : e.remaining - (e.remaining - q) ≡ q = omega (arith, ltb-false e.remaining q h₃.0) in
    rw (y, ← x) (rw z at (cut_tallies l f m (e.remaining - q) e t o (omega arith)))

-- an accepted change is to a size given, and no larger
change-size : (e : Entry) (s : L3Side) (why : ChangeReason) (p old_size new_size old_price new_price funds : Option ℤ)
    → change_refusal (Some e) s why p old_size new_size old_price new_price funds ≡ None → size_given new_size ≤ e.remaining
unfolding change_refusal
change-size e s why p old_size new_size old_price new_price funds h =
    size_most e.remaining new_size funds (passed _ _ _ (passed _ _ _ (passed _ _ _ h).1).1).1

changed : (l : List Entry) (f : Figure) (d : OrderId) (r : ℕ) (mark : Option ℕ) (e : Entry) → Tallies f l → find d l ≡ Some e → r ≤ e.remaining
    → Tallies (less e.side e.price (e.remaining - r) f) (line_by (cond (eqb r e.remaining) keep (cut_to d r mark)) l)
changed l f d r mark e t q z = noop (eqb r e.remaining) refl
  where
    noop : (b : Bool) → eqb r e.remaining ≡ b → Tallies (less e.side e.price (e.remaining - r) f) (line_by (cond b keep (cut_to d r mark)) l)
    noop true k = less-nothing l f e.side e.price (e.remaining - r) t (omega (arith, eqb-true r e.remaining k))
    noop false k = cut_tallies l f d r e t q z

pub event_tallies : (v : VenueRules) (l : List Entry) (seq : ℕ) (x : L3Event) (f : Figure) → Tallies f l → event_refusal v l x ≡ None
    → Tallies (tally v l x f) (line_by (effect v l seq x) l)
unfolding Tallies event_refusal effect tally
event_tallies v l seq (Received d s) f t h = t
event_tallies v l seq (Open d s p q) f t h =
    λ s' p'. omega (arith, t s' p', volume_append s' p' l (entry_for d s (nat_of p) (nat_of q) ∷ []), volume_cons s' p' (entry_for d s (nat_of p) (nat_of q)) [])
event_tallies v l seq (Done d s p why r) f t h = go (find d l) refl
  where
    go : (o : Option Entry) → find d l ≡ o → Tallies (less_of o (λ (e : Entry). e.remaining) f) (line_by (done_effect d o) l)
    go None q = t
    go (Some e) q = simp sub-zero at (cut_tallies l f d 0 e t q (omega arith))
event_tallies v l seq (Match m a s p q) f t h = go (find m l) refl (passed _ _ _ h).1
  where
    go : (o : Option Entry) → find m l ≡ o → maker_refusal o s p (nat_of q) ≡ None → Tallies (less s (nat_of p) (nat_of q) f) (line_by (match_effect m o (nat_of q)) l)
    go None o h = maker-rests s p (nat_of q) h
    go (Some e) o h = matched l f m s p (nat_of q) e t o h
event_tallies v l seq (Change d s why p old_size new_size old_price new_price funds) f t h = go (find d l) refl h
  where
    go : (o : Option Entry) → find d l ≡ o → change_refusal o s why p old_size new_size old_price new_price funds ≡ None
        → Tallies (less_of o (λ (e : Entry). e.remaining - size_given new_size) f) (line_by (change_effect seq d o (size_given new_size)) l)
    go None q h = t
    go (Some e) q h = changed l f d (size_given new_size) _ e t q (change-size e s why p old_size new_size old_price new_price funds h)
event_tallies v l seq (Unsupported k) f t h = t

-- a snapshot's sizes, summed one by one, are the volumes of its line
tallied_adds : (s : L3Side) (p : ℕ) (l : List Entry) (f : Figure) → tallied l f s p ≡ f s p + volume s p l
tallied_adds s p [] f = omega arith
tallied_adds s p (e ∷ l) f = omega (arith, tallied_adds s p l (plus e.side e.price e.remaining f), volume_cons s p e l)

pub tallied_tallies : (l : List Entry) → Tallies (tallied l nought) l
unfolding Tallies
tallied_tallies l s p = omega (arith, tallied_adds s p l nought)
