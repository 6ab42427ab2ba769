-- Laws of Booleans and of tests on numbers.
-- Assumes nothing.
use Prim.Native.Nat.{ℕ, suc}
use mathlib.Core.Path.{◌≡◌, refl, sym, ap}
use mathlib.Core.Bool.{Bool, true, false, ◌&&◌, ◌||◌}
use native.Mathlib.Omega.{arith}
use lib.Dec.{eqb}
use borrow.Author.Tests.{eqb-true, eqb-false, eq-eqb, ne_eqb}

-- a Boolean that is both proves anything
pub absurd_bool {ℓ} : {A : Type ℓ} → true ≡ false → A
absurd_bool h = let z : ◌≡◌ {A = ℕ} 0 1 = cc in absurd (omega arith)

pub or_no : (a b : Bool) → (a || b) ≡ false → (a ≡ false) × (b ≡ false)
or_no true b h = absurd_bool h
or_no false b h = (refl, h)

pub or_both : (a b : Bool) → a ≡ false → b ≡ false → (a || b) ≡ false
or_both true b p q = p
or_both false b p q = q

pub or-true : (a : Bool) → (a || true) ≡ true
or-true true = refl
or-true false = refl

pub or_assoc : (a b c : Bool) → (a || (b || c)) ≡ ((a || b) || c)
or_assoc true b c = refl
or_assoc false b c = refl

pub or_swap : (a b c : Bool) → (a || (b || c)) ≡ (b || (a || c))
or_swap true true c = refl
or_swap true false c = refl
or_swap false b c = refl

pub and_yes : (a b : Bool) → (a && b) ≡ true → (a ≡ true) × (b ≡ true)
and_yes true b h = (refl, h)
and_yes false b h = absurd_bool (sym h)

pub eqb_swap : (a b : ℕ) → eqb a b ≡ eqb b a
eqb_swap a b = go (eqb a b) refl
  where
    go : (x : Bool) → eqb a b ≡ x → x ≡ eqb b a
    go true h = sym (eq-eqb b a (sym (eqb-true a b h)))
    go false h = sym (ne_eqb b a (λ q. eqb-false a b h (sym q)))

pub eqb_suc : (a b : ℕ) → eqb a b ≡ eqb (suc a) (suc b)
eqb_suc a b = go (eqb a b) refl
  where
    go : (t : Bool) → eqb a b ≡ t → t ≡ eqb (suc a) (suc b)
    go true p = sym (eq-eqb (suc a) (suc b) (ap suc (eqb-true a b p)))
    go false p = sym (ne_eqb (suc a) (suc b) (λ q. eqb-false a b p (omega (arith, q))))
