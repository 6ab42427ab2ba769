-- 11 to 14: what each turn of the search finds, that rows which number 3 does not name pass, and what a line that passes has.
-- Assumes nothing.
use Rattle.std.specs.Prelude.{Option, Some, None, Result, Ok, Err, ⊤}
use Prim.Native.Nat.{ℕ, suc, ◌+◌, ◌-◌, ◌≤◌, ◌<◌}
use mathlib.Core.Path.{◌≡◌, refl, sym, ap, ◌∙◌}
use mathlib.Core.Bool.{Bool, true, false, not, ◌||◌, ◌&&◌, cond}
use mathlib.Core.List.{List, [], ◌∷◌, ◌++◌, append_assoc, append-nil}
use native.Mathlib.Nat.{sub-zero}
use native.Mathlib.Omega.{arith}
use borrow.Author.Tests.{ltb-true, ltb-false, lt-ltb, le-ltb, lt-leb, leb-false}
use lib.Dec.{eqb, leb, ltb}
use Rattle.message.specs.declared.OrderId.{OrderId}
use Rattle.message.specs.Same.{same_id}
use Rattle.book.specs.declared.Resting.{Resting}
use Rattle.book.specs.Line.{Entry, rests, has_level, levels, crossed}
use Rattle.book.specs.Rows.{row_at, rows_from, rows_of, id_of, entry_of, line_of}
use Rattle.message.specs.Values.{amount_limit}
use Rattle.book.specs.Broken.{out_of_range, row_broken, some_row_broken, id_twice, rows_broken}
use Rattle.reconstructor_state.specs.Checks.{check}
use Rattle.reconstructor_bootstrap.specs.declared.SnapshotError.{SnapshotError}
use Rattle.reconstructor_bootstrap.specs.declared.SnapshotError.TheVariants.{DuplicateId, InvalidValue, Crossed, CapacityExceeded}
use Rattle.reconstructor_bootstrap.specs.Snapshot.{not_positive, no_room, in_turn, line_refusal}
use Rattle.reconstructor_bootstrap.specs.Bootstrap.{validated}
use Rattle.laws.proofs.Bools.{or_no, or_both}
use Rattle.book.proofs.Fits.{some_out_of_range}
use Rattle.book.proofs.Rows.{rows_next, rows-around, rows-done}
use Rattle.book.proofs.Moves.{rests-front, twice-move, twice-join, levels-move, levels-drop}
use Rattle.book.proofs.Kept.{line_append, sound_row, not_out}
use Rattle.reconstructor_state.proofs.Checks.{goes_on, passed}

-- ---- the answer, and what it tells

pub says : {o : Option SnapshotError} {e : SnapshotError} → o ≡ Some e → Err e ≡ validated o
unfolding validated
says h = sym (ap validated h)

pub says_none : {o : Option SnapshotError} → o ≡ None → (Ok tt) ≡ validated o
unfolding validated
says_none h = sym (ap validated h)

pub said : (o : Option SnapshotError) (r : Result ⊤ SnapshotError) (e : SnapshotError) → r ≡ validated o → r ≡ Err e → o ≡ Some e
unfolding validated
said None r e p q = let z : ◌≡◌ {A = ℕ} 0 1 = cc in absurd (omega arith)
said (Some d) r e p q = cc

pub said-none : (o : Option SnapshotError) (r : Result ⊤ SnapshotError) → r ≡ validated o → r ≡ (Ok tt) → o ≡ None
unfolding validated
said-none None r p q = refl
said-none (Some d) r p q = let z : ◌≡◌ {A = ℕ} 0 1 = cc in absurd (omega arith)

-- ---- a line with one order more

-- its levels
pub levels-next : (l : List Entry) (e : Entry) → levels (l ++ (e ∷ [])) ≡ levels l + cond (has_level e.side e.price l) 0 1
levels-next l e = levels-move l e [] ∙ rw append-nil (go (has_level e.side e.price l))
  where
    go : (b : Bool) → cond b (levels l) (suc (levels l)) ≡ levels l + cond b 0 1
    go true = omega arith
    go false = omega arith

levels-part : (a b : List Entry) → levels a ≤ levels (a ++ b)
levels-part a [] = rw append-nil (omega arith)
levels-part a (x ∷ b) = omega (arith, levels-move a x b, levels-drop x (a ++ b), levels-part a b)

rests-part : (d : OrderId) (a b : List Entry) → rests d (a ++ b) ≡ false → rests d a ≡ false
rests-part d [] b h = refl
rests-part d (x ∷ a) b h =
    let k = or_no (same_id x.id d) (rests d (a ++ b)) (sym (rests-front d x (a ++ b)) ∙ h) in
    rests-front d x a ∙ or_both _ _ k.0 (rests-part d a b k.1)

-- ---- a turn of the search

-- what is left to ask after the last order
abbrev pub last13 : List ℕ → ℕ → Option SnapshotError
last13 rows n = check (crossed (line_of (rows_of rows n))) Crossed None

-- the search stands before row i of n
abbrev pub Reached : ℕ → List ℕ → ℕ → ℕ → Type 0
Reached ml rows n i =
    line_refusal ml (line_of (rows_of rows n)) ≡ in_turn ml (line_of (rows_of rows i)) (line_of (rows_from rows i (n - i))) (last13 rows n)

pub reached-none : (ml : ℕ) (rows : List ℕ) (n : ℕ) → Reached ml rows n 0
unfolding line_refusal rows_from
reached-none ml rows n = rw sub-zero

pub reached_all : (ml : ℕ) (rows : List ℕ) (n i : ℕ) → n ≤ i → Reached ml rows n i → line_refusal ml (line_of (rows_of rows n)) ≡ last13 rows n
reached_all ml rows n i h e = e ∙ rw (rows-done rows n i h)

module _ (rows : List ℕ) (n i : ℕ) (o : Resting) (h : i < n) (e : o ≡ row_at rows i) where
  line-next : line_of (rows_of rows (i + 1)) ≡ line_of (rows_of rows i) ++ (entry_of o ∷ [])
  line-next =
      let r : rows_of rows (i + 1) ≡ rows_of rows i ++ (o ∷ []) = rows-around rows (i + 1) i (omega arith) ∙ rw (rows-done rows (i + 1) (i + 1) (omega arith), e) in
      ap line_of r ∙ line_append (rows_of rows i) (o ∷ [])

  pub levels-turn : levels (line_of (rows_of rows (i + 1))) ≡ levels (line_of (rows_of rows i)) + cond (has_level (entry_of o).side o.price (line_of (rows_of rows i))) 0 1
  levels-turn = ap levels line-next ∙ levels-next (line_of (rows_of rows i)) (entry_of o)

  pub in_turn-turn : (ml : ℕ) (last : Option SnapshotError) → in_turn ml (line_of (rows_of rows i)) (line_of (rows_from rows i (n - i))) last
      ≡ check (rests (id_of o) (line_of (rows_of rows i))) DuplicateId
      (check (not_positive (entry_of o)) InvalidValue
      (check (no_room ml (line_of (rows_of rows i)) (entry_of o)) CapacityExceeded
      (in_turn ml (line_of (rows_of rows (i + 1))) (line_of (rows_from rows (i + 1) (n - (i + 1)))) last)))
  in_turn-turn ml last = rw (rows_next rows n i o h e, line-next)

-- the test of 14 by the numbers that the code has
pub room-told : (h : Bool) (added most count ml : ℕ) → added ≡ cond h 0 1 → count ≡ most → (eqb added 1 && leb ml count) ≡ (not h && leb ml most)
room-told true added most count ml p q = rw p
room-told false added most count ml p q = rw (p, q)

-- ---- a line that passes

-- positive amounts, no id twice and few levels pass every turn
passes : (ml : ℕ) (before es : List Entry) (last : Option SnapshotError) → some_out_of_range es ≡ false → id_twice (before ++ es) ≡ false → levels (before ++ es) ≤ ml
    → in_turn ml before es last ≡ last
passes ml before [] last r s f = refl
passes ml before (e ∷ es) last r s f =
    let a = or_no (out_of_range e.price || out_of_range e.remaining) (some_out_of_range es) r in
    let b = or_no (out_of_range e.price) (out_of_range e.remaining) a.0 in
    let p = or_no (eqb e.price 0) (ltb amount_limit e.price) b.0 in
    let q = or_no (eqb e.remaining 0) (ltb amount_limit e.remaining) b.1 in
    let new = or_no (rests e.id (before ++ es)) (id_twice (before ++ es)) (sym (twice-move before e es) ∙ s) in
    let assoc : (before ++ (e ∷ [])) ++ es ≡ before ++ (e ∷ es) = append_assoc before (e ∷ []) es in
    let flat : levels ((before ++ (e ∷ [])) ++ es) ≤ ml = omega (arith, ap levels assoc) in
    goes_on _ _ _ _ (rests-part e.id before es new.0)
    (goes_on _ _ _ _ (or_both _ _ p.0 q.0)
    (goes_on _ _ _ _
    (room (has_level e.side e.price before) (omega (arith, flat, levels-next before e, levels-part (before ++ (e ∷ [])) es)))
    (passes ml (before ++ (e ∷ [])) es last a.1 (ap id_twice assoc ∙ s) flat)))
  where
    room : (b : Bool) → levels before + cond b 0 1 ≤ ml → (not b && leb ml (levels before)) ≡ false
    room true h = refl
    room false h = lt-leb ml (levels before) (omega arith)

line_in_range : (os : List Resting) → some_row_broken os ≡ false → some_out_of_range (line_of os) ≡ false
line_in_range [] h = refl
line_in_range (o ∷ os) h =
    let d = or_no (row_broken o) (some_row_broken os) h in
    let s = sound_row o d.0 in
    or_both _ _ (or_both _ _ (not_out o.price s.price) (not_out o.remaining s.remaining)) (line_in_range os d.1)

-- rows that number 3 does not name pass
pub unbroken-passes : (ml : ℕ) (os : List Resting) → rows_broken ml os ≡ false → line_refusal ml (line_of os) ≡ None
unfolding line_refusal
unbroken-passes ml os h =
    let a = or_no (some_row_broken os) (id_twice (line_of os) || (ltb ml (levels (line_of os)) || crossed (line_of os))) h in
    let b = or_no (id_twice (line_of os)) (ltb ml (levels (line_of os)) || crossed (line_of os)) a.1 in
    let d = or_no (ltb ml (levels (line_of os))) (crossed (line_of os)) b.1 in
    passes ml [] (line_of os) _ (line_in_range os a.0) b.0 (ltb-false ml (levels (line_of os)) d.0) ∙ goes_on _ _ _ _ d.1 refl

-- ---- what a line that passes has

abbrev pub some_not_positive : List Entry → Bool
some_not_positive [] = false
some_not_positive (e ∷ l) = not_positive e || some_not_positive l

pub record Passed (ml : ℕ) (before es : List Entry) (last : Option SnapshotError) : Type 0 where
  pub end : last ≡ None
  pub single : id_twice (before ++ es) ≡ false
  pub flat : levels (before ++ es) ≤ ml
  pub positive : some_not_positive es ≡ false

pub has-passed : (ml : ℕ) (before es : List Entry) (last : Option SnapshotError) → in_turn ml before es last ≡ None → id_twice before ≡ false → levels before ≤ ml
    → Passed ml before es last
has-passed ml before [] last h s f = record { end = h; single = ap id_twice (append-nil before) ∙ s; flat = omega (arith, ap levels (append-nil before)); positive = refl }
has-passed ml before (e ∷ es) last h s f =
    let h₁ = passed _ _ _ h in
    let h₂ = passed _ _ _ h₁.1 in
    let h₃ = passed _ _ _ h₂.1 in
    let assoc : (before ++ (e ∷ [])) ++ es ≡ before ++ (e ∷ es) = append_assoc before (e ∷ []) es in
    let k = has-passed ml (before ++ (e ∷ [])) es last h₃.1 (twice-join before e ∙ or_both _ _ h₁.0 s) (omega (arith, levels-next before e, room (has_level e.side e.price before) h₃.0)) in
    record {
      end = k.end;
      single = ap id_twice (sym assoc) ∙ k.single;
      flat = omega (arith, ap levels assoc, k.flat);
      positive = or_both _ _ h₂.0 k.positive;
    }
  where
    room : (b : Bool) → (not b && leb ml (levels before)) ≡ false → levels before + cond b 0 1 ≤ ml
    room true h = omega arith
    room false h = omega (arith, leb-false ml (levels before) h)

-- 14 of orders, without their sum
pub limit-told : (most bids asks : ℕ) → bids ≤ most → ltb (most - bids) asks ≡ ltb most (bids + asks)
limit-told most bids asks h = go (ltb (most - bids) asks) refl
  where
    go : (b : Bool) → ltb (most - bids) asks ≡ b → b ≡ ltb most (bids + asks)
    go true e = sym (lt-ltb most (bids + asks) (omega (arith, ltb-true (most - bids) asks e)))
    go false e = sym (le-ltb most (bids + asks) (omega (arith, ltb-false (most - bids) asks e)))
