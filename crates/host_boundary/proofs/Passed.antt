-- What is known of the words once a call goes past the boundary; and the words that a message or a state is written as go past it.
-- Assumes nothing.
use Prim.Native.Nat.{ℕ, ◌≤◌}
use mathlib.Core.Path.{◌≡◌, refl, sym, ◌∙◌}
use mathlib.Core.Bool.{Bool, true, false, ◌||◌, cond}
use mathlib.Core.List.{List}
use borrow.Author.Tests.{ltb-false, le-ltb, eq-eqb, ne_eqb, eqb-true, eqb-false}
use lib.Dec.{eqb, ltb}
use lib.ListN.{length}
use Rattle.laws.proofs.Bools.{or_no, absurd_bool}
use Rattle.book.specs.Memory.{Extent}
use Rattle.reconstructor_state.specs.declared.VenueRules.{VenueRules}
use Rattle.reconstructor_state.specs.State.{ceiling}
use Rattle.reconstructor_checks.specs.StateChecks.{over_ceiling, memory_short}
use Rattle.host_words.specs.Block.{state_words, rules_of}
use Rattle.host_word_tests.specs.WordTests.{no_book}
use Rattle.host_boundary.specs.Boundary.{no_book_number, short_input, boundary, own_boundary, unless_turned}

-- ---- past the boundary

numbered : (top : ℕ) (v : VenueRules) (lent : Extent) (less : Bool) → eqb (no_book_number top v lent less) 0 ≡ false
unfolding no_book_number
numbered top v lent less = go (over_ceiling top v) (memory_short v lent || less)
  where
    go : (x y : Bool) → eqb (cond x 1 (cond y 2 3)) 0 ≡ false
    go true y = refl
    go false true = refl
    go false false = refl

past : (x wrong book : Bool) (k : ℕ) → eqb k 0 ≡ false → eqb (cond x short_input (cond wrong 4 (cond book k 0))) 0 ≡ true → (x ≡ false) × (wrong ≡ false) × (book ≡ false)
past true wrong book k n h = absurd_bool (sym h)
past false true book k n h = absurd_bool (sym h)
past false false true k n h = absurd_bool (sym h ∙ n)
past false false false k n h = (refl, refl, refl)

pub record Passed (st : List ℕ) (short wrong : Bool) : Type 0 where
  pub whole : state_words ≤ length st
  pub full : short ≡ false
  pub right : wrong ≡ false
  pub book : no_book st ≡ false

module _ (st : List ℕ) (lent : Extent) (less short wrong : Bool) where
  pub passed : eqb (boundary st lent less short wrong) 0 ≡ true → Passed st short wrong
  unfolding boundary
  passed h =
      let p = past (ltb (length st) state_words || short) wrong (no_book st) (no_book_number ceiling (rules_of st) lent less) (numbered ceiling (rules_of st) lent less) h in
      let both = or_no (ltb (length st) state_words) short p.0 in
      record { whole = ltb-false (length st) state_words both.0; full = both.1; right = p.1; book = p.2 }

  pub passes : Passed st short wrong → boundary st lent less short wrong ≡ 0
  unfolding boundary
  passes p = rw (le-ltb (length st) state_words p.whole, p.full, p.right, p.book)

  -- by what the words are turned away for
  pub by-boundary : (P : ℕ → Type 0) → P short_input → P 4 → P 1 → P 2 → P 3 → (Passed st short wrong → P 0) → P (boundary st lent less short wrong)
  unfolding boundary no_book_number
  by-boundary P a b c d e f =
      go (ltb (length st) state_words || short) wrong (no_book st) (over_ceiling ceiling (rules_of st)) (memory_short (rules_of st) lent || less) refl refl refl
    where
      go : (x y z u v : Bool) → (ltb (length st) state_words || short) ≡ x → wrong ≡ y → no_book st ≡ z → P (cond x short_input (cond y 4 (cond z (cond u 1 (cond v 2 3)) 0)))
      go true y z u v p q r = a
      go false true z u v p q r = b
      go false false true true v p q r = c
      go false false true false true p q r = d
      go false false true false false p q r = e
      go false false false u v p q r =
          let both = or_no (ltb (length st) state_words) short p in
          f (record { whole = ltb-false (length st) state_words both.0; full = both.1; right = q; book = r })

pub own-passed : (st : List ℕ) → eqb (own_boundary st) 0 ≡ true → (state_words ≤ length st) × (no_book st ≡ false)
unfolding own_boundary
own-passed st h =
    let p = past (ltb (length st) state_words) false (no_book st) 3 refl h in
    (ltb-false (length st) state_words p.0, p.2)

-- ---- a call's answer, by what the words are turned away for

pub turned-away : {A : Type 0} (k n : ℕ) (away : ℕ → A) (a : A) → k ≡ n → (k ≡ 0 → ⊥) → away k ≡ unless_turned n away a
turned-away k n away a e h = rw (← e, ne_eqb k 0 h)

pub goes_on : {A : Type 0} (k n : ℕ) (away : ℕ → A) (a x : A) → k ≡ n → k ≡ 0 → x ≡ a → x ≡ unless_turned n away a
goes_on k n away a x e z h = rw (← e, eq-eqb k 0 z) h

-- whichever it is
pub either_way : {A : Type 0} (k : ℕ) (away : ℕ → A) (a x : A) → ((k ≡ 0 → ⊥) → x ≡ away k) → (k ≡ 0 → x ≡ a) → x ≡ unless_turned k away a
either_way k away a x turned on = go (eqb k 0) refl
  where
    go : (b : Bool) → eqb k 0 ≡ b → x ≡ cond b a (away k)
    go true p = on (eqb-true k 0 p)
    go false p = turned (eqb-false k 0 p)

-- words that no value has
pub wrong-number : (st : List ℕ) (lent : Extent) (less : Bool) → state_words ≤ length st → boundary st lent less false true ≡ 4
unfolding boundary
wrong-number st lent less whole = rw (le-ltb (length st) state_words whole)
