-- What a state that passed 1, 2 and 3 has.
-- Assumes nothing.
use Rattle.std.specs.Prelude.{Option, Some, None, Result, Ok, Err, ⊤}
use Prim.Native.Nat.{ℕ, ◌*◌, ◌≤◌, ◌<◌}
use mathlib.Core.Path.{◌≡◌, refl, sym, ap, ◌∙◌}
use mathlib.Core.Bool.{false, ◌||◌}
use mathlib.Core.List.{List}
use native.Mathlib.Omega.{arith}
use borrow.Author.Tests.{ltb-false, eqb-false, le-ltb}
use lib.Dec.{ltb}
use lib.ListN.{length}
use Rattle.book.specs.declared.Resting.{Resting}
use Rattle.book.specs.Rows.{row_words, most_rows, rows_of, Lent}
use Rattle.book.specs.Memory.{Memory, extent_of, orders_of}
use Rattle.book.specs.Broken.{rows_broken, words_broken, WellFormed}
use Rattle.reconstructor_state.specs.declared.VenueRules.{VenueRules}
use Rattle.reconstructor_state.specs.declared.Status.TheVariants.{Valid}
use Rattle.reconstructor_answers.specs.declared.StateError.{StateError}
use Rattle.reconstructor_state.specs.declared.BookReconstructor.{BookReconstructor}
use Rattle.reconstructor_state.specs.State.{lengths_with}
use Rattle.reconstructor_checks.specs.StateChecks.{over_ceiling, memory_short, too_short, unsettled, broken, state_refusal, book_refusal, checked, Usable, Trusted}
use Rattle.laws.proofs.Bools.{or_no, or_both}
use Rattle.book.proofs.Rows.{length-rows}
use Rattle.book.proofs.Kept.{broken_not, not-broken}
use Rattle.reconstructor_state.proofs.Checks.{passed, goes_on}

-- ---- the answer, and what it tells

pub says : {o : Option StateError} {e : StateError} → o ≡ Some e → Err e ≡ checked o
unfolding checked
says h = sym (ap checked h)

pub says_none : {o : Option StateError} → o ≡ None → (Ok tt) ≡ checked o
unfolding checked
says_none h = sym (ap checked h)

pub said : (o : Option StateError) (r : Result ⊤ StateError) (e : StateError) → r ≡ checked o → r ≡ Err e → o ≡ Some e
unfolding checked
said None r e p q = let z : ◌≡◌ {A = ℕ} 0 1 = cc in absurd (omega arith)
said (Some d) r e p q = cc

pub said-none : (o : Option StateError) (r : Result ⊤ StateError) → r ≡ checked o → r ≡ (Ok tt) → o ≡ None
unfolding checked
said-none None r p q = refl
said-none (Some d) r p q = let z : ◌≡◌ {A = ℕ} 0 1 = cc in absurd (omega arith)

-- ---- one check after the other

pub orders-within : (top : ℕ) (v : VenueRules) → over_ceiling top v ≡ false → v.max_orders ≤ top
orders-within top v h = ltb-false top v.max_orders (or_no (ltb top v.max_orders) (ltb top v.max_levels) h).0

pub levels-within : (top : ℕ) (v : VenueRules) → over_ceiling top v ≡ false → v.max_levels ≤ top
levels-within top v h = ltb-false top v.max_levels (or_no (ltb top v.max_orders) (ltb top v.max_levels) h).1

pub memory-room : (v : VenueRules) (mem : Memory) → memory_short v (extent_of mem) ≡ false → row_words * v.max_orders ≤ length mem.rows
memory-room v mem h = ltb-false (length mem.rows) (row_words * v.max_orders) h

module _ (b : BookReconstructor) (mem : Memory) (lent : ℕ) (h : too_short b.rules (lengths_with mem lent) b.segments ≡ false) where
  pub memory-lent : memory_short b.rules (extent_of mem) ≡ false
  memory-lent = (or_no (memory_short b.rules (extent_of mem)) (ltb lent b.segments) h).0

  pub rows-lent : row_words * b.rules.max_orders ≤ length mem.rows
  rows-lent = memory-room b.rules mem memory-lent

  pub segments-lent : b.segments ≤ lent
  segments-lent = ltb-false lent b.segments (or_no (memory_short b.rules (extent_of mem)) (ltb lent b.segments) h).1

-- the test on lent words is the test on rows, once their number is known to fit
pub words-rows : (ml : ℕ) (ws : List ℕ) (n : ℕ) → n ≤ most_rows → row_words * n ≤ length ws → words_broken ml ws n ≡ rows_broken ml (rows_of ws n)
words-rows ml ws n h k = rw (le-ltb most_rows n h, le-ltb (length ws) (row_words * n) k)

-- ---- a state that is not broken

pub record Sound (b : BookReconstructor) (mem : Memory) : Type 0 where
  pub few : b.rows ≤ b.rules.max_orders
  pub formed : WellFormed b.rules.max_orders b.rules.max_levels (orders_of mem b.rows)
  pub set : unsettled b.status b.rows b.segments ≡ false

pub sound : (b : BookReconstructor) (mem : Memory) → broken b mem ≡ false → Sound b mem
unfolding broken
sound b mem h =
    let os : List Resting = orders_of mem b.rows in
    let u = unsettled b.status b.rows b.segments in
    let a = or_no (ltb b.rules.max_orders b.rows) (rows_broken b.rules.max_levels os || u) h in
    let d = or_no (rows_broken b.rules.max_levels os) u a.1 in
    let f : b.rows ≤ b.rules.max_orders = ltb-false b.rules.max_orders b.rows a.0 in
    record {
      few = f;
      formed = broken_not b.rules.max_orders b.rules.max_levels os (omega (arith, f, length-rows mem.rows 0 b.rows)) d.0;
      set = d.1;
    }

-- and back, for the rows that a call leaves
pub kept : (b : BookReconstructor) (mem : Memory) (os : List Resting) → orders_of mem b.rows ≡ os → length os ≡ b.rows
    → WellFormed b.rules.max_orders b.rules.max_levels os → unsettled b.status b.rows b.segments ≡ false → broken b mem ≡ false
unfolding broken
kept b mem os e n w u =
    or_both _ _ (le-ltb b.rules.max_orders b.rows (omega (arith, w.few)))
    (or_both _ _ (ap (rows_broken b.rules.max_levels) e ∙ not-broken b.rules.max_orders b.rules.max_levels os w) u)

-- ---- the whole

pub usable : (top : ℕ) (b : BookReconstructor) (mem : Memory) (lent : ℕ) → book_refusal top b mem lent ≡ None → Usable top b mem lent
unfolding state_refusal
usable top b mem lent h =
    let h₁ = passed _ _ _ h in
    let h₂ = passed _ _ _ h₁.1 in
    let h₃ = passed _ _ _ h₂.1 in
    record { within = h₁.0; lent = h₂.0; sound = h₃.0 }

pub usable-none : (top : ℕ) (b : BookReconstructor) (mem : Memory) (lent : ℕ) → Usable top b mem lent → book_refusal top b mem lent ≡ None
unfolding state_refusal
usable-none top b mem lent u = goes_on _ _ _ _ u.within (goes_on _ _ _ _ u.lent (goes_on _ _ _ _ u.sound refl))

pub trusted : (top : ℕ) (b : BookReconstructor) (mem : Memory) (lent : ℕ) → Usable top b mem lent → Trusted top b mem
trusted top b mem lent u = record { within = u.within; room = memory-lent b mem lent u.lent; sound = u.sound }

-- limits within a ceiling are within a higher one
pub within_wider : (top wide : ℕ) (v : VenueRules) → top ≤ wide → over_ceiling top v ≡ false → over_ceiling wide v ≡ false
within_wider top wide v h w =
    let o = orders-within top v w in
    let l = levels-within top v w in
    or_both _ _ (le-ltb wide v.max_orders (omega arith)) (le-ltb wide v.max_levels (omega arith))

-- what a call under any ceiling has tested
pub usable_under : (top : ℕ) (b : BookReconstructor) (mem : Memory) (lent : ℕ) → top ≤ most_rows → Usable top b mem lent → Usable most_rows b mem lent
usable_under top b mem lent h u = record { within = within_wider top most_rows b.rules h u.within; lent = u.lent; sound = u.sound }

pub trusted_under : (top : ℕ) (b : BookReconstructor) (mem : Memory) (lent : ℕ) → top ≤ most_rows → Usable top b mem lent → Trusted most_rows b mem
trusted_under top b mem lent h u = trusted most_rows b mem lent (usable_under top b mem lent h u)

-- its rows are lent, with room for every permitted order
pub rows-ready : (top : ℕ) (b : BookReconstructor) (mem : Memory) → top ≤ most_rows → Trusted top b mem → Lent mem.rows b.rows
rows-ready top b mem h t =
    let f = (sound b mem t.sound).few in
    let m = orders-within top b.rules t.within in
    let r = memory-room b.rules mem t.room in
    record { room = omega arith; few = omega arith }

-- a valid book has a segment
pub has-segment : (b : BookReconstructor) (last : ℕ) → b.status ≡ Valid last → unsettled b.status b.rows b.segments ≡ false → 0 < b.segments
has-segment b last e h =
    let q : b.segments ≡ 0 → ⊥ = eqb-false b.segments 0 (rw e at h) in
    omega (arith, q)
