-- What a well-formed book says of its rows, and what keeps a book well formed: an accepted open, a reduction, a removal, an accepted snapshot.
-- Assumes nothing.
use Rattle.std.specs.Prelude.{Option, Some, None}
use Prim.Native.Nat.{ℕ, suc, ◌+◌, ◌*◌, ◌-◌, ◌≤◌, ◌<◌, ◌^◌}
use mathlib.Core.Path.{◌≡◌, refl, sym, ap, ap₂, ◌∙◌}
use mathlib.Core.Bool.{Bool, true, false, ◌||◌, cond}
use mathlib.Core.List.{List, [], ◌∷◌, ◌++◌, map}
use native.Mathlib.Nat.{zero-add}
use native.Mathlib.Omega.{arith}
use lib.Dec.{eqb, ltb}
use lib.ListN.{length, get_or, take, drop, set, length-append, length-set, length-map}
use lib.Seq.{split_at, set_split}
use borrow.Author.Tests.{eqb-true, eqb-false, ne_eqb, ltb-false, le-ltb}
use Rattle.laws.proofs.Bools.{or_no, or_both, or-true, or_assoc}
use Rattle.message.specs.declared.L3Side.{L3Side}
use Rattle.message.specs.declared.L3Side.TheVariants.{Buy, Sell}
use Rattle.message.specs.declared.OrderId.{OrderId}
use Rattle.message.specs.Same.{same_id}
use Rattle.book.specs.declared.Resting.{Resting}
use Rattle.book.specs.Line.{Entry, rests, left, cut, same_level, volume, has_level, levels, crossed, would_cross}
use Rattle.book.specs.Rows.{row_words, empty_row, Lent, most_rows, row_at, rows_from, rows_of, id_of, side_of, entry_of, line_of, find_row, remove_at, reduced, cut_rows, snapshot_kind, snapshot_row}
use Rattle.message.specs.Values.{amount_limit}
use Rattle.book.specs.Broken.{out_of_range, flag_broken, row_broken, some_row_broken, id_twice, rows_broken, words_broken, WellFormed}
use Rattle.book.proofs.Fits.{OpenFits, some_out_of_range, SnapshotFits}
use Rattle.book.proofs.Rows.{rows_split, length-rows, length-remove, remove_eq, get_d_rows}
use Rattle.book.proofs.Stored.{FoundAt, found_at}
use Rattle.book.proofs.Moves.{twice-move, twice-join, levels-move, levels-join, levels-drop, crossed-move, crossed-join, crossed-front}

-- ---- a sound row

pub record InRange (x : ℕ) : Type 0 where
  pub low : 0 < x
  pub high : x ≤ amount_limit

pub in-range : (x : ℕ) → out_of_range x ≡ false → InRange x
in-range x h =
    let d = or_no (eqb x 0) (ltb amount_limit x) h in
    let z : x ≡ 0 → ⊥ = eqb-false x 0 d.0 in
    record { low = omega (arith, z); high = ltb-false amount_limit x d.1 }

pub not_out : (x : ℕ) → InRange x → out_of_range x ≡ false
not_out x r = or_both _ _ (ne_eqb x 0 (λ z. omega (arith, r.low, z))) (le-ltb amount_limit x r.high)

pub record SoundRow (o : Resting) : Type 0 where
  pub kind : ltb 3 o.kind ≡ false
  pub price : InRange o.price
  pub remaining : InRange o.remaining
  pub flag : flag_broken o ≡ false

pub sound_row : (o : Resting) → row_broken o ≡ false → SoundRow o
unfolding row_broken
sound_row o h =
    let a = or_no (ltb 3 o.kind) (out_of_range o.price || (out_of_range o.remaining || flag_broken o)) h in
    let b = or_no (out_of_range o.price) (out_of_range o.remaining || flag_broken o) a.1 in
    let d = or_no (out_of_range o.remaining) (flag_broken o) b.1 in
    record { kind = a.0; price = in-range o.price b.0; remaining = in-range o.remaining d.0; flag = d.1 }

pub row-sound : (o : Resting) → SoundRow o → row_broken o ≡ false
unfolding row_broken
row-sound o s =
    or_both _ _ s.kind
    (or_both _ _ (not_out o.price s.price) (or_both _ _ (not_out o.remaining s.remaining) s.flag))

-- ---- rows of a part

pub broken_append : (a b : List Resting) → some_row_broken (a ++ b) ≡ (some_row_broken a || some_row_broken b)
broken_append [] b = refl
broken_append (o ∷ a) b = rw (broken_append a b) (or_assoc (row_broken o) (some_row_broken a) (some_row_broken b))

module _ (ws : List ℕ) (n i : ℕ) (h : i ≤ n) where
  broken-split : some_row_broken (rows_of ws n) ≡ (some_row_broken (rows_from ws 0 i) || some_row_broken (rows_from ws i (n - i)))
  broken-split =
      let p : n ≡ i + (n - i) = omega arith in
      ap (λ (k : ℕ). some_row_broken (rows_from ws 0 k)) p
      ∙ ap some_row_broken (rows_split ws 0 i (n - i))
      ∙ broken_append (rows_from ws 0 i) (rows_from ws (0 + i) (n - i))
      ∙ rw zero-add

  -- a broken row among the last is one of all
  pub broken-from : some_row_broken (rows_from ws i (n - i)) ≡ true → some_row_broken (rows_of ws n) ≡ true
  broken-from q = broken-split ∙ rw q (or-true (some_row_broken (rows_from ws 0 i)))

  pub sound-from : some_row_broken (rows_of ws n) ≡ false → some_row_broken (rows_from ws i (n - i)) ≡ false
  sound-from q = (or_no (some_row_broken (rows_from ws 0 i)) (some_row_broken (rows_from ws i (n - i))) (sym broken-split ∙ q)).1

-- ---- lines of rows

pub line_append : (a b : List Resting) → line_of (a ++ b) ≡ line_of a ++ line_of b
line_append [] b = refl
line_append (o ∷ a) b = ap (λ (x : List Entry). entry_of o ∷ x) (line_append a b)

pub length-line : (os : List Resting) → length (line_of os) ≡ length os
length-line [] = refl
length-line (o ∷ os) = ap suc (length-line os)

reduced-entry : (o : Resting) (r : ℕ) (mark : Option ℕ) → entry_of (reduced o r mark) ≡ left (entry_of o) r
reduced-entry o r None = refl
reduced-entry o r (Some t) = refl

-- the rules' cut is the rows' cut
pub line_cut : (d : OrderId) (r : ℕ) (mark : Option ℕ) (os : List Resting) → line_of (cut_rows d r mark os) ≡ cut d r (line_of os)
line_cut d r mark [] = refl
line_cut d r mark (o ∷ os) = go (same_id (id_of o) d) (eqb r 0) (line_cut d r mark os)
  where
    go : (a b : Bool) → line_of (cut_rows d r mark os) ≡ cut d r (line_of os)
        → line_of (cond a (cond b os (reduced o r mark ∷ os)) (o ∷ cut_rows d r mark os))
        ≡ cond a (cond b (line_of os) (left (entry_of o) r ∷ line_of os)) (entry_of o ∷ cut d r (line_of os))
    go true true h = refl
    go true false h = ap (λ (x : Entry). x ∷ line_of os) (reduced-entry o r mark)
    go false b h = ap (λ (x : List Entry). entry_of o ∷ x) h

-- ---- well formed, with an order brought to the front

-- what the tests of two or more orders say
record Fits (max_levels : ℕ) (l : List Entry) : Type 0 where
  single : id_twice l ≡ false
  flat : levels l ≤ max_levels
  apart : crossed l ≡ false

fits_of : {mo ml : ℕ} {os : List Resting} → WellFormed mo ml os → Fits ml (line_of os)
fits_of w = record { single = w.single; flat = w.flat; apart = w.apart }

module _ (max_levels : ℕ) (b : List Resting) (x : Resting) (a : List Resting) where
  around : line_of (b ++ (x ∷ a)) ≡ line_of b ++ (entry_of x ∷ line_of a)
  around = line_append b (x ∷ a)

  to_front : Fits max_levels (line_of (b ++ (x ∷ a))) → Fits max_levels (entry_of x ∷ (line_of b ++ line_of a))
  to_front f =
      record {
        single = sym (twice-move (line_of b) (entry_of x) (line_of a)) ∙ sym (ap id_twice around) ∙ f.single;
        flat = omega (arith, levels-move (line_of b) (entry_of x) (line_of a), ap levels around, f.flat);
        apart = sym (crossed-move (line_of b) (entry_of x) (line_of a)) ∙ sym (ap crossed around) ∙ f.apart;
      }

  from_front : Fits max_levels (entry_of x ∷ (line_of b ++ line_of a)) → Fits max_levels (line_of (b ++ (x ∷ a)))
  from_front f =
      record {
        single = ap id_twice around ∙ twice-move (line_of b) (entry_of x) (line_of a) ∙ f.single;
        flat = omega (arith, levels-move (line_of b) (entry_of x) (line_of a), ap levels around, f.flat);
        apart = ap crossed around ∙ crossed-move (line_of b) (entry_of x) (line_of a) ∙ f.apart;
      }

  broken-around : some_row_broken (b ++ (x ∷ a)) ≡ false → (some_row_broken b ≡ false) × (row_broken x ≡ false) × (some_row_broken a ≡ false)
  broken-around q =
      let d = or_no (some_row_broken b) (some_row_broken (x ∷ a)) (sym (broken_append b (x ∷ a)) ∙ q) in
      let k = or_no (row_broken x) (some_row_broken a) d.1 in
      (d.0, k.0, k.1)

-- ---- what keeps it

-- 43 and 14: a level more "only if the price has no level"
level-room : (ml : ℕ) (l : List Entry) (e : Entry) → levels l ≤ ml → (has_level e.side e.price l ≡ false → levels l < ml) → levels (e ∷ l) ≤ ml
level-room ml l e h f = go (has_level e.side e.price l) refl
  where
    go : (b : Bool) → has_level e.side e.price l ≡ b → cond b (levels l) (suc (levels l)) ≤ ml
    go true q = h
    go false q = omega (arith, f q)

pub insert-kept : (mo ml : ℕ) (os : List Resting) (o : Resting) → WellFormed mo ml os → OpenFits mo ml os o → WellFormed mo ml (os ++ (o ∷ []))
insert-kept mo ml os o w f =
    let e : line_of (os ++ (o ∷ [])) ≡ line_of os ++ (entry_of o ∷ []) = line_append os (o ∷ []) in
    let r = level-room ml (line_of os) (entry_of o) w.flat f.flat in
    record {
      few = simp length-append (omega (arith, f.few));
      sound = broken_append os (o ∷ []) ∙ or_both _ _ w.sound (or_both _ _ f.sound refl);
      single = ap id_twice e ∙ twice-join (line_of os) (entry_of o) ∙ or_both _ _ f.new w.single;
      flat = omega (arith, ap levels e, levels-join (line_of os) (entry_of o), r);
      apart = ap crossed e ∙ crossed-join (line_of os) (entry_of o) ∙ or_both _ _ f.apart w.apart;
    }

-- an order at a place
abbrev at_place : List Resting → ℕ → Resting
at_place os i = get_or os i empty_row

module _ (mo ml : ℕ) (os : List Resting) (i : ℕ) (w : WellFormed mo ml os) (h : i < length os) where
  around-place : os ≡ take i os ++ (at_place os i ∷ drop (suc i) os)
  around-place = split_at os i empty_row h

  front-place : Fits ml (entry_of (at_place os i) ∷ (line_of (take i os) ++ line_of (drop (suc i) os)))
  front-place = to_front ml (take i os) (at_place os i) (drop (suc i) os) (rw (← around-place) (fits_of w))

  sound-place : (some_row_broken (take i os) ≡ false) × (row_broken (at_place os i) ≡ false) × (some_row_broken (drop (suc i) os) ≡ false)
  sound-place = broken-around ml (take i os) (at_place os i) (drop (suc i) os) (ap some_row_broken (sym around-place) ∙ w.sound)

  pub remove-kept : WellFormed mo ml (remove_at os i)
  remove-kept =
      let f = front-place in
      let s = sound-place in
      let e : line_of (take i os ++ drop (suc i) os) ≡ line_of (take i os) ++ line_of (drop (suc i) os) = line_append (take i os) (drop (suc i) os) in
      let x = entry_of (at_place os i) in
      let l = line_of (take i os) ++ line_of (drop (suc i) os) in
      let k : length (remove_at os i) ≡ length os - 1 = length-remove os i h in
      let r : remove_at os i ≡ take i os ++ drop (suc i) os = remove_eq os i in
      record {
        few = omega (arith, k, w.few);
        sound = ap some_row_broken r ∙ broken_append (take i os) (drop (suc i) os) ∙ or_both _ _ s.0 s.2;
        single = ap (λ (y : List Resting). id_twice (line_of y)) r ∙ ap id_twice e ∙ (or_no (rests x.id l) (id_twice l) f.single).1;
        flat = omega (arith, ap (λ (y : List Resting). levels (line_of y)) r, ap levels e, levels-drop x l, f.flat);
        apart = ap (λ (y : List Resting). crossed (line_of y)) r ∙ ap crossed e ∙ (or_no (would_cross x.side x.price l) (crossed l) (sym (crossed-front x l) ∙ f.apart)).1;
      }

  pub reduce-kept : (r : ℕ) (mark : Option ℕ) → 0 < r → r ≤ (at_place os i).remaining → WellFormed mo ml (set os i (reduced (at_place os i) r mark))
  reduce-kept r mark p q =
      let s = sound-place in
      let e : set os i (reduced (at_place os i) r mark) ≡ take i os ++ (reduced (at_place os i) r mark ∷ drop (suc i) os) = set_split os i _ h in
      let k = from_front ml (take i os) (reduced (at_place os i) r mark) (drop (suc i) os) (same mark front-place) in
      record {
        few = omega (arith, length-set os i (reduced (at_place os i) r mark), w.few);
        sound = ap some_row_broken e ∙ broken_append (take i os) _ ∙ or_both _ _ s.0 (or_both _ _ (row-sound _ (sound mark (sound_row _ s.1))) s.2);
        single = ap (λ (y : List Resting). id_twice (line_of y)) e ∙ k.single;
        flat = omega (arith, ap (λ (y : List Resting). levels (line_of y)) e, k.flat);
        apart = ap (λ (y : List Resting). crossed (line_of y)) e ∙ k.apart;
      }
    where
      same : (m : Option ℕ) → Fits ml (entry_of (at_place os i) ∷ (line_of (take i os) ++ line_of (drop (suc i) os)))
          → Fits ml (entry_of (reduced (at_place os i) r m) ∷ (line_of (take i os) ++ line_of (drop (suc i) os)))
      same None f = record { single = f.single; flat = f.flat; apart = f.apart }
      same (Some t) f = record { single = f.single; flat = f.flat; apart = f.apart }

      left_over : SoundRow (at_place os i) → InRange r
      left_over t = record { low = p; high = omega (arith, q, t.remaining.high) }

      sound : (m : Option ℕ) → SoundRow (at_place os i) → SoundRow (reduced (at_place os i) r m)
      sound None t = record { kind = t.kind; price = t.price; remaining = left_over t; flag = t.flag }
      sound (Some u) t = record { kind = t.kind; price = t.price; remaining = left_over t; flag = refl }

-- the order that a search found loses size, and leaves at zero
pub cut-kept : (mo ml : ℕ) (ws : List ℕ) (n : ℕ) (d : OrderId) (i r : ℕ) (mark : Option ℕ) → WellFormed mo ml (rows_of ws n) → find_row (rows_of ws n) d 0 ≡ Some i
    → r ≤ (row_at ws i).remaining → WellFormed mo ml (cut_rows d r mark (rows_of ws n))
cut-kept mo ml ws n d i r mark w h q = go (eqb r 0) refl
  where
    f : FoundAt ws n d i
    f = found_at ws n d i h

    inside : i < length (rows_of ws n)
    inside = omega (arith, f.inside, length-rows ws 0 n)

    there : get_or (rows_of ws n) i empty_row ≡ row_at ws i
    there = get_d_rows ws n i empty_row f.inside

    go : (b : Bool) → eqb r 0 ≡ b → WellFormed mo ml (cut_rows d r mark (rows_of ws n))
    go true z =
        let e : r ≡ 0 = eqb-true r 0 z in
        rw (e, f.gone mark) (remove-kept mo ml (rows_of ws n) i w inside)
    go false z =
        let p : r ≡ 0 → ⊥ = eqb-false r 0 z in
        let k = reduce-kept mo ml (rows_of ws n) i w inside r mark (omega (arith, p)) (rw there q) in
        rw (f.left r mark z) (rw there at k)

-- ---- number 3

pub broken_not : (mo ml : ℕ) (os : List Resting) → length os ≤ mo → rows_broken ml os ≡ false → WellFormed mo ml os
broken_not mo ml os f h =
    let a = or_no (some_row_broken os) (id_twice (line_of os) || (ltb ml (levels (line_of os)) || crossed (line_of os))) h in
    let b = or_no (id_twice (line_of os)) (ltb ml (levels (line_of os)) || crossed (line_of os)) a.1 in
    let d = or_no (ltb ml (levels (line_of os))) (crossed (line_of os)) b.1 in
    record { few = f; sound = a.0; single = b.0; flat = ltb-false ml (levels (line_of os)) d.0; apart = d.1 }

pub not-broken : (mo ml : ℕ) (os : List Resting) → WellFormed mo ml os → rows_broken ml os ≡ false
not-broken mo ml os w =
    or_both _ _ w.sound (or_both _ _ w.single (or_both _ _ (le-ltb ml (levels (line_of os)) w.flat) w.apart))

-- what a caller has once the test on lent words is passed
pub words-formed : (ml : ℕ) (ws : List ℕ) (n : ℕ) → words_broken ml ws n ≡ false → Lent ws n × WellFormed most_rows ml (rows_of ws n)
words-formed ml ws n h =
    let a = or_no (ltb most_rows n) (ltb (length ws) (row_words * n) || rows_broken ml (rows_of ws n)) h in
    let b = or_no (ltb (length ws) (row_words * n)) (rows_broken ml (rows_of ws n)) a.1 in
    let few : n ≤ most_rows = ltb-false most_rows n a.0 in (
      record { room = ltb-false (length ws) (row_words * n) b.0; few = few },
      broken_not most_rows ml (rows_of ws n) (omega (arith, few, length-rows ws 0 n)) b.1,
    )

-- ---- an accepted snapshot

side-back : (s : L3Side) → side_of (snapshot_kind s) ≡ s
unfolding side_of
side-back Buy = refl
side-back Sell = refl

kind-small : (s : L3Side) → ltb 3 (snapshot_kind s) ≡ false
kind-small Buy = refl
kind-small Sell = refl

-- the line of its rows is the snapshot's
pub line-snapshot : (t : ℕ) (l : List Entry) → line_of (map (snapshot_row t) l) ≡ l
line-snapshot t [] = refl
line-snapshot t (e ∷ l) =
    ap₂ ◌∷◌ (λ k. record { id = e.id; side = side-back e.side k; price = e.price; remaining = e.remaining }) (line-snapshot t l)

snapshot-sound : (t : ℕ) (l : List Entry) → some_out_of_range l ≡ false → some_row_broken (map (snapshot_row t) l) ≡ false
snapshot-sound t [] h = refl
snapshot-sound t (e ∷ l) h =
    let a = or_no (out_of_range e.price || out_of_range e.remaining) (some_out_of_range l) h in
    let b = or_no (out_of_range e.price) (out_of_range e.remaining) a.0 in
    or_both _ _
    (row-sound (snapshot_row t e)
    (record {
      kind = kind-small e.side;
      price = in-range e.price b.0;
      remaining = in-range e.remaining b.1;
      flag = refl;
    }))
    (snapshot-sound t l a.1)

pub snapshot-kept : (mo ml t : ℕ) (l : List Entry) → SnapshotFits mo ml l → WellFormed mo ml (map (snapshot_row t) l)
snapshot-kept mo ml t l f =
    record {
      few = omega (arith, length-map l (snapshot_row t), f.few);
      sound = snapshot-sound t l f.sound;
      single = ap id_twice (line-snapshot t l) ∙ f.single;
      flat = omega (arith, ap levels (line-snapshot t l), f.flat);
      apart = ap crossed (line-snapshot t l) ∙ f.apart;
    }

-- an empty book
pub empty-formed : (mo ml : ℕ) → WellFormed mo ml []
empty-formed mo ml = record { few = omega arith; sound = refl; single = refl; flat = omega arith; apart = refl }

-- ---- a level's sum

-- each order adds at most the largest amount
pub volume_most : (s : L3Side) (p : ℕ) (os : List Resting) → some_row_broken os ≡ false → volume s p (line_of os) ≤ length os * amount_limit
volume_most s p [] h = omega arith
volume_most s p (o ∷ os) h =
    let d = or_no (row_broken o) (some_row_broken os) h in
    go (same_level (side_of o.kind) o.price s p) (volume_most s p os d.1) (sound_row o d.0).remaining.high
  where
    go : (b : Bool) → volume s p (line_of os) ≤ length os * amount_limit → o.remaining ≤ amount_limit
        → cond b (o.remaining + volume s p (line_of os)) (volume s p (line_of os)) ≤ suc (length os) * amount_limit
    go true ih q = omega arith
    go false ih q = omega arith

-- 01, Values in the domain: "A level sum never exceeds 4.096 × 10^18": it fits a word, even a signed one
pub level-bound : (mo ml : ℕ) (os : List Resting) (s : L3Side) (p : ℕ) → mo ≤ most_rows → WellFormed mo ml os
    → (volume s p (line_of os) ≤ 4096000000000000000) × (volume s p (line_of os) < 2 ^ 63)
level-bound mo ml os s p h w =
    let v = volume_most s p os w.sound in
    let f = w.few in
    (omega (arith, v, f), omega (arith, v, f))
