-- A chain of checks: the one that fails, and those that were passed.
-- Assumes nothing.
use Rattle.std.specs.Prelude.{Option, Some, None}
use mathlib.Core.Path.{◌≡◌, refl, sym, ◌∙◌}
use mathlib.Core.Bool.{Bool, true, false}
use Prim.Native.Nat.{ℕ}
use native.Mathlib.Omega.{arith}
use borrow.Author.Tests.{eq-eqb, ne_eqb, lt-ltb, le-ltb, le-leb, lt-leb}
use Rattle.reconstructor_state.specs.Checks.{check, first}
use Rattle.laws.proofs.Bools.{absurd_bool}

pub fails : {A : Type 0} (b : Bool) (d : A) (k : Option A) → b ≡ true → check b d k ≡ Some d
unfolding check
fails true d k h = refl
fails false d k h = absurd_bool (sym h)

pub goes_on : {A : Type 0} (b : Bool) (d : A) (k r : Option A) → b ≡ false → k ≡ r → check b d k ≡ r
unfolding check
goes_on false d k r h e = e
goes_on true d k r h e = absurd_bool h

pub passed : {A : Type 0} (b : Bool) (d : A) (k : Option A) → check b d k ≡ None → (b ≡ false) × (k ≡ None)
unfolding check
passed true d k h = let z : ◌≡◌ {A = ℕ} 0 1 = cc in absurd (omega arith)
passed false d k h = (refl, h)

-- the same for an inner chain
pub first-fails : {A B : Type 0} (o : Option A) (f : A → B) (k : Option B) (a : A) → o ≡ Some a → first o f k ≡ Some (f a)
unfolding first
first-fails o f k a e = rw e

pub first_on : {A B : Type 0} (o : Option A) (f : A → B) (k r : Option B) → o ≡ None → k ≡ r → first o f k ≡ r
unfolding first
first_on o f k r e q = rw e q

pub first-passed : {A B : Type 0} (o : Option A) (f : A → B) (k : Option B) → first o f k ≡ None → (o ≡ None) × (k ≡ None)
unfolding first
first-passed None f k h = (refl, h)
first-passed (Some a) f k h = let z : ◌≡◌ {A = ℕ} 0 1 = cc in absurd (omega arith)

-- a test's value from the flag that a function answered
pub told-true : {r d : Bool} → r ≡ d → r ≡ true → d ≡ true
told-true e h = sym e ∙ h

pub told-false : {r d : Bool} → r ≡ d → r ≡ false → d ≡ false
told-false e h = sym e ∙ h

-- a chain of checks against a chain of returns: `search links depth 20`
pub ruleset links = (fails, goes_on, told-true, told-false, eq-eqb, ne_eqb, lt-ltb, le-ltb, le-leb, lt-leb)
