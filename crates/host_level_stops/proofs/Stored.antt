-- What a level read comes to: where something stands in its way, and where its answer has a word.
-- Assumes nothing.
use Rattle.std.specs.Prelude.{Option, Some, None, Result, Ok, Err}
use Prim.Native.Nat.{ℕ, ◌≤◌}
use native.Mathlib.Omega.{arith}
use mathlib.Core.Path.{◌≡◌, refl, sym, ap, ◌∙◌}
use mathlib.Core.Bool.{Bool, true, false, cond}
use mathlib.Core.List.{List}
use borrow.Author.Tests.{ltb-true, ltb-false, le-ltb, eq-eqb, eqb-true, eqb-false}
use lib.Dec.{eqb, ltb}
use lib.ListN.{length, get_or}
use Rattle.book.specs.Memory.{memory, extent_of}
use Rattle.host_words.specs.Block.{state_words, book_of}
use Rattle.laws.proofs.Bools.{absurd_bool}
use Rattle.message.specs.Told.{Told}
use Rattle.reconstructor_view.specs.declared.ViewError.{ViewError}
use Rattle.reconstructor_view.specs.Numbers.{sequence_told}
use Rattle.reconstructor_view.specs.ValueReads.{sequence_of}
use Rattle.reconstructor_reads.specs.declared.OutputTooSmall.{OutputTooSmall}
use Rattle.reconstructor_reads.specs.declared.LevelError.{LevelError}
use Rattle.reconstructor_reads.specs.Numbers.{level_told}
use Rattle.reconstructor_reads.specs.LevelReads.{Shows, LevelRead, leaves, level_shown, level_read}
use Rattle.host_word_tests.specs.WordTests.{no_bit}
use Rattle.host_boundary.specs.Boundary.{unless_turned}
use Rattle.host_boundary.proofs.Passed.{passed}
use Rattle.host_answers.specs.Answers.{Answered, answered, told_in, lastly}
use Rattle.host_level_stops.specs.Stops.{LevelCall, level_called, counted, after_level, level_boundary, stop_of}

some-lastly : (k : ℕ) → lastly k ≡ 0 → ⊥
some-lastly k h = go (eqb k 0) refl h
  where
    go : (x : Bool) → eqb k 0 ≡ x → cond x 7 k ≡ 0 → ⊥
    go true p z = omega arith
    go false p z = eqb-false k 0 p z

-- ---- what stands in the way

-- the scratch is held to the same limit at the boundary and past it
pub short_is : (st : List ℕ) (scratch : ℕ) → ltb scratch (book_of st).rules.max_orders ≡ ltb scratch (get_or st 3 0)
unfolding book_of
short_is st scratch = refl

-- of nothing in the way
pub through : (turned count number : ℕ) → stop_of turned count number ≡ 0 → (turned ≡ 0) × (1 ≤ count)
unfolding stop_of
through turned count number h = go (eqb turned 0) (ltb count 1) refl refl h
  where
    go : (x y : Bool) → eqb turned 0 ≡ x → ltb count 1 ≡ y → cond x (cond y (lastly number) 0) turned ≡ 0 → (turned ≡ 0) × (1 ≤ count)
    go true true p q z = absurd (some-lastly number z)
    go true false p q z = (eqb-true turned 0 p, ltb-false count 1 q)
    go false y p q z = absurd_bool (sym (eq-eqb turned 0 z) ∙ p)

-- where nothing does, the state can be loaded
pub whole-past : (st ws : List ℕ) (scratch side count number k : ℕ) → k ≡ stop_of (level_boundary st ws scratch side) count number → k ≡ 0 → state_words ≤ length st
whole-past st ws scratch side count number k e z =
    (passed st (extent_of (memory ws)) (ltb scratch (get_or st 3 0)) false (no_bit side) (eq-eqb _ 0 (through (level_boundary st ws scratch side) count number (sym e ∙ z)).0)).whole

-- a call that comes to what it is turned away for, or to what is told without a word for the number of entries, comes to what stands in its way
module _ (turned number : ℕ) (sc out count : List ℕ) (c : LevelCall) where
  pub by_stop : ((turned ≡ 0 → ⊥) → c ≡ level_called turned sc out count) → (turned ≡ 0 → length count ≡ 0 → c ≡ level_called (lastly number) sc out count)
      → (stop_of turned (length count) number ≡ 0 → ⊥) → c ≡ level_called (stop_of turned (length count) number) sc out count
  unfolding stop_of
  by_stop away untold h = go (eqb turned 0) (ltb (length count) 1) refl refl h
    where
      go : (x y : Bool) → eqb turned 0 ≡ x → ltb (length count) 1 ≡ y → (cond x (cond y (lastly number) 0) turned ≡ 0 → ⊥) → c ≡ level_called (cond x (cond y (lastly number) 0) turned) sc out count
      go true true p q z = untold (eqb-true turned 0 p) (let few = ltb-true (length count) 1 q in omega arith)
      go true false p q z = absurd (z refl)
      go false y p q z = away (eqb-false turned 0 p)

-- ---- what the call comes to

module _ (k turned number : ℕ) (sc out count : List ℕ) (stop : k ≡ stop_of turned (length count) number) where
  abbrev pub call : LevelCall → LevelCall
  call a = unless_turned turned (λ (n : ℕ). level_called n sc out count) a

  pub stopped : (t : Told) (left shown : List ℕ) → (k ≡ 0 → ⊥) → lastly number ≡ lastly t.number → level_called k sc out count ≡ call (counted t left shown sc out count)
  unfolding stop_of
  stopped t left shown h e = rw stop (go (eqb turned 0) (ltb (length count) 1) (rw stop at h))
    where
      go : (x y : Bool) → (cond x (cond y (lastly number) 0) turned ≡ 0 → ⊥)
          → level_called (cond x (cond y (lastly number) 0) turned) sc out count
          ≡ cond x (cond y (level_called (lastly t.number) sc out count) (level_called (told_in t count).number left shown (told_in t count).out)) (level_called turned sc out count)
      go true true z = ap (λ (n : ℕ). level_called n sc out count) e
      go true false z = absurd (z refl)
      go false y z = refl

  pub stored : (n : ℕ) (left shown after : List ℕ) (t : Told) → k ≡ 0 → answered n after ≡ told_in t count
      → level_called n left shown after ≡ call (counted t left shown sc out count)
  stored n left shown after t z p =
      let past = through turned (length count) number (sym stop ∙ z) in
      rw (eq-eqb turned 0 past.0, le-ltb (length count) 1 past.1) (ap (λ (x : Answered). level_called x.number left shown x.out) p)

-- ---- of a valid book

-- what is shown and what has no room are both 7 where the number of entries has no word
seven : (a : Result ℕ OutputTooSmall) → 7 ≡ lastly (level_told (level_shown a)).number
seven (Ok n) = refl
seven (Err e) = refl

level-lastly : (o : Option ViewError) (last : ℕ) (s : Shows) (sc out : List ℕ)
    → lastly (sequence_told (sequence_of o last)).number ≡ lastly (level_told (level_read o s sc out).answer).number
unfolding sequence_of level_read
level-lastly (Some e) last s sc out = refl
level-lastly None last s sc out = seven s.answer

module _ (k turned : ℕ) (o : Option ViewError) (last : ℕ) (sc out count : List ℕ) (stop : k ≡ stop_of turned (length count) (sequence_told (sequence_of o last)).number) where
  level-stopped : (s : Shows) → (k ≡ 0 → ⊥) → level_called k sc out count ≡ unless_turned turned (λ (n : ℕ). level_called n sc out count) (after_level sc out count (level_read o s sc out))
  level-stopped s h = stopped k turned _ sc out count stop (level_told (level_read o s sc out).answer) (level_read o s sc out).scratch (level_read o s sc out).out h (level-lastly o last s sc out)

  level-stored : (n : ℕ) (left shown after : List ℕ) (a : Result ℕ LevelError) (r : LevelRead) → k ≡ 0 → answered n after ≡ told_in (level_told a) count → leaves a left shown ≡ r
      → level_called n left shown after ≡ unless_turned turned (λ (m : ℕ). level_called m sc out count) (after_level sc out count r)
  level-stored n left shown after a r z p q =
      stored k turned _ sc out count stop n left shown after (level_told a) z p ∙ ap (λ (x : LevelRead). unless_turned turned (λ (m : ℕ). level_called m sc out count) (after_level sc out count x)) q

  -- where something stands in its way, and else by what it reads and stores
  pub level-comes : (s : Shows) (n : ℕ) (left shown after : List ℕ) → ((k ≡ 0 → ⊥) → level_called n left shown after ≡ level_called k sc out count)
      → (k ≡ 0 → (a : Result ℕ LevelError) × (leaves a left shown ≡ level_read o s sc out) × (answered n after ≡ told_in (level_told a) count))
      → level_called n left shown after ≡ unless_turned turned (λ (m : ℕ). level_called m sc out count) (after_level sc out count (level_read o s sc out))
  level-comes s n left shown after away read = go (eqb k 0) refl
    where
      go : (x : Bool) → eqb k 0 ≡ x → level_called n left shown after ≡ unless_turned turned (λ (m : ℕ). level_called m sc out count) (after_level sc out count (level_read o s sc out))
      go true p = let z = eqb-true k 0 p in let r = read z in level-stored n left shown after r.0 (level_read o s sc out) z r.2 r.1
      go false p = let h = eqb-false k 0 p in away h ∙ level-stopped s h
