-- The orders ahead, one more at a time: what their tally is, and how large it grows.
-- Assumes nothing.
use Rattle.std.specs.Prelude.{Option, Some, None}
use Prim.Native.Nat.{ℕ, zero, suc, ◌+◌, ◌*◌, ◌-◌, ◌≤◌, ◌<◌}
use mathlib.Core.Path.{◌≡◌, refl, sym, ap, ◌∙◌}
use mathlib.Core.Bool.{Bool, true, false, cond}
use mathlib.Core.List.{List, [], ◌∷◌}
use native.Mathlib.Omega.{arith}
use lib.Dec.{ltb, eqb}
use lib.ListN.{length}
use Rattle.laws.proofs.Bools.{or_no, or_both}
use Rattle.message.specs.declared.L3Side.{L3Side}
use Rattle.message.specs.declared.OrderId.{OrderId}
use Rattle.message.specs.Same.{same_id}
use Rattle.message.specs.Values.{amount_limit}
use Rattle.book.specs.declared.Resting.{Resting}
use Rattle.book.specs.Line.{same_level}
use Rattle.book.specs.Rows.{most_rows, row_at, rows_from, rows_of, side_of, id_of, find_row}
use Rattle.book.specs.Broken.{row_broken, some_row_broken}
use Rattle.book.proofs.Rows.{rows_step}
use Rattle.book.proofs.Kept.{sound_row, sound-from}
use Rattle.book_queue.specs.Queue.{rows_at}
use Rattle.book_queue.proofs.Orders.{at_most}
use Rattle.queue.specs.Ahead.{row_with, entered_at, AheadEntry, entry_at, entries_from, joined, still_ahead, before, sizes, snapshot_sizes, observed_sizes, tally_of}
use Rattle.queue.specs.Tallies.{no_tally, tally_with, tally_joined, Small}
use Rattle.queue.specs.Estimates.{list_bound}

-- ---- a search of the rows

found_from : (ws : List ℕ) (d : OrderId) (i k j : ℕ) → find_row (rows_from ws i k) d i ≡ Some j → row_with d (rows_from ws i k) ≡ Some (row_at ws j)
unfolding rows_from
found_from ws d i zero j h = let z : ◌≡◌ {A = ℕ} 0 1 = cc in absurd (omega arith)
found_from ws d i (suc k) j h = go (same_id (id_of (row_at ws i)) d) (found_from ws d (i + 1) k j) h
  where
    go : (b : Bool) → (find_row (rows_from ws (i + 1) k) d (i + 1) ≡ Some j → row_with d (rows_from ws (i + 1) k) ≡ Some (row_at ws j)) → cond b (Some i) (find_row (rows_from ws (i + 1) k) d (i + 1)) ≡ Some j
        → cond b (Some (row_at ws i)) (row_with d (rows_from ws (i + 1) k)) ≡ Some (row_at ws j)
    go true ih e = let q : i ≡ j = cc in rw q
    go false ih e = ih e

missed-from : (ws : List ℕ) (d : OrderId) (i k : ℕ) → find_row (rows_from ws i k) d i ≡ None → row_with d (rows_from ws i k) ≡ None
unfolding rows_from
missed-from ws d i zero h = refl
missed-from ws d i (suc k) h = go (same_id (id_of (row_at ws i)) d) (missed-from ws d (i + 1) k) h
  where
    go : (b : Bool) → (find_row (rows_from ws (i + 1) k) d (i + 1) ≡ None → row_with d (rows_from ws (i + 1) k) ≡ None) → cond b (Some i) (find_row (rows_from ws (i + 1) k) d (i + 1)) ≡ None
        → cond b (Some (row_at ws i)) (row_with d (rows_from ws (i + 1) k)) ≡ None
    go true ih e = let z : ◌≡◌ {A = ℕ} 0 1 = cc in absurd (omega arith)
    go false ih e = ih e

module _ (ws : List ℕ) (n : ℕ) (d : OrderId) (r : Option ℕ) (e : r ≡ find_row (rows_of ws n) d 0) where
  pub row-found : (j : ℕ) → r ≡ Some j → row_with d (rows_of ws n) ≡ Some (row_at ws j)
  row-found j h = found_from ws d 0 n j (sym e ∙ h)

  pub row_missed : r ≡ None → row_with d (rows_of ws n) ≡ None
  row_missed h = missed-from ws d 0 n (sym e ∙ h)

-- ---- rows that count are rows of the book: sound, and no more than may count

pub with-sound : (d : OrderId) (os : List Resting) (o : Resting) → some_row_broken os ≡ false → row_with d os ≡ Some o → row_broken o ≡ false
with-sound d [] o h e = let z : ◌≡◌ {A = ℕ} 0 1 = cc in absurd (omega arith)
with-sound d (x ∷ os) o h e = go (same_id (id_of x) d) (with-sound d os o (or_no (row_broken x) (some_row_broken os) h).1) e
  where
    go : (b : Bool) → (row_with d os ≡ Some o → row_broken o ≡ false) → cond b (Some x) (row_with d os) ≡ Some o → row_broken o ≡ false
    go true ih q = let p : x ≡ o = cc in rw (← p) (or_no (row_broken x) (some_row_broken os) h).0
    go false ih q = ih q

pub entered-some : (t : ℕ) (r : Option Resting) (o : Resting) → entered_at t r ≡ Some o → r ≡ Some o
entered-some t None o e = let z : ◌≡◌ {A = ℕ} 0 1 = cc in absurd (omega arith)
entered-some t (Some x) o e = go (eqb x.entered_at t) e
  where
    go : (b : Bool) → cond b (Some x) None ≡ Some o → ◌≡◌ {A = Option Resting} (Some x) (Some o)
    go true q = q
    go false q = let z : ◌≡◌ {A = ℕ} 0 1 = cc in absurd (omega arith)

still-sound : (os : List Resting) (l : List AheadEntry) → some_row_broken os ≡ false → some_row_broken (still_ahead os l) ≡ false
still-sound os [] h = refl
still-sound os (e ∷ l) h = go (entered_at e.entered (row_with e.id os)) refl (still-sound os l h)
  where
    go : (r : Option Resting) → entered_at e.entered (row_with e.id os) ≡ r → some_row_broken (still_ahead os l) ≡ false
        → some_row_broken (joined r (still_ahead os l)) ≡ false
    go None q ih = ih
    go (Some o) q ih =
        or_both (row_broken o) (some_row_broken (still_ahead os l))
        (with-sound e.id os o h (entered-some e.entered (row_with e.id os) o q))
        ih

still_few : (os : List Resting) (l : List AheadEntry) → length (still_ahead os l) ≤ length l
still_few os [] = omega arith
still_few os (e ∷ l) = go (entered_at e.entered (row_with e.id os)) (still_few os l)
  where
    go : (r : Option Resting) → length (still_ahead os l) ≤ length l → length (joined r (still_ahead os l)) ≤ suc (length l)
    go None ih = omega arith
    go (Some o) ih = omega arith

at-sound : (s : L3Side) (p : ℕ) (os : List Resting) → some_row_broken os ≡ false → some_row_broken (rows_at s p os) ≡ false
at-sound s p [] h = refl
at-sound s p (o ∷ os) h = go (same_level (side_of o.kind) o.price s p) (at-sound s p os (or_no (row_broken o) (some_row_broken os) h).1)
  where
    go : (b : Bool) → some_row_broken (rows_at s p os) ≡ false → some_row_broken (cond b (o ∷ rows_at s p os) (rows_at s p os)) ≡ false
    go true ih = or_both (row_broken o) (some_row_broken (rows_at s p os)) (or_no (row_broken o) (some_row_broken os) h).0 ih
    go false ih = ih

before-sound : (d : OrderId) (os : List Resting) → some_row_broken os ≡ false → some_row_broken (before d os) ≡ false
before-sound d [] h = refl
before-sound d (o ∷ os) h = go (same_id (id_of o) d) (before-sound d os (or_no (row_broken o) (some_row_broken os) h).1)
  where
    go : (b : Bool) → some_row_broken (before d os) ≡ false → some_row_broken (cond b [] (o ∷ before d os)) ≡ false
    go true ih = refl
    go false ih = or_both (row_broken o) (some_row_broken (before d os)) (or_no (row_broken o) (some_row_broken os) h).0 ih

before_few : (d : OrderId) (os : List Resting) → length (before d os) ≤ length os
before_few d [] = omega arith
before_few d (o ∷ os) = go (same_id (id_of o) d) (before_few d os)
  where
    go : (b : Bool) → length (before d os) ≤ length os → length (cond b [] (o ∷ before d os)) ≤ suc (length os)
    go true ih = omega arith
    go false ih = omega arith

-- ---- sums

pub size_most : (o : Resting) → row_broken o ≡ false → o.remaining ≤ amount_limit
size_most o h = (sound_row o h).remaining.high

pub price_most : (o : Resting) → row_broken o ≡ false → o.price ≤ amount_limit
price_most o h = (sound_row o h).price.high

-- what an order adds to either sum
pub part_most : (o : Resting) → (cond (ltb o.kind 2) o.remaining 0 ≤ o.remaining) × (cond (ltb o.kind 2) 0 o.remaining ≤ o.remaining)
part_most o = go (ltb o.kind 2)
  where
    go : (b : Bool) → (cond b o.remaining 0 ≤ o.remaining) × (cond b 0 o.remaining ≤ o.remaining)
    go true = (omega arith, omega arith)
    go false = (omega arith, omega arith)

-- a row of sound rows
pub row-sound_at : (ws : List ℕ) (n j : ℕ) → j < n → some_row_broken (rows_of ws n) ≡ false → row_broken (row_at ws j) ≡ false
row-sound_at ws n j h q =
    (or_no (row_broken (row_at ws j)) (some_row_broken (rows_from ws (j + 1) (n - (j + 1))))
    (sym (ap some_row_broken (rows_step ws n j h)) ∙ sound-from ws n j (omega arith) q)).0

sizes_most : (os : List Resting) → some_row_broken os ≡ false → sizes os ≤ length os * amount_limit
sizes_most [] h = omega arith
sizes_most (o ∷ os) h =
    let k = or_no (row_broken o) (some_row_broken os) h in
    let a = size_most o k.0 in
    let b = sizes_most os k.1 in
    omega (arith, a, b)

-- an order from a snapshot was not observed: the two sums make up the volume
pub sizes-split : (os : List Resting) → snapshot_sizes os + observed_sizes os ≡ sizes os
sizes-split [] = refl
sizes-split (o ∷ os) = go (ltb o.kind 2) (sizes-split os)
  where
    go : (b : Bool) → snapshot_sizes os + observed_sizes os ≡ sizes os
        → cond b o.remaining 0 + snapshot_sizes os + (cond b 0 o.remaining + observed_sizes os) ≡ o.remaining + sizes os
    go true ih = omega (arith, ih)
    go false ih = omega (arith, ih)

-- 01, Values in the domain: every sum fits a word
pub tally-small : (t : ℕ) (os : List Resting) → some_row_broken os ≡ false → length os ≤ most_rows → Small (tally_of t os)
tally-small t os h k =
    let a = sizes_most os h in
    let b = sizes-split os in
    record { volume = omega (arith, a); from_snapshot = omega (arith, a, b); observed = omega (arith, a, b); orders = k }

-- ---- an ahead-list, entry by entry

length-entries : (ws : List ℕ) (i k : ℕ) → length (entries_from ws i k) ≡ k
unfolding entries_from
length-entries ws i zero = refl
length-entries ws i (suc k) = ap suc (length-entries ws (i + 1) k)

pub entries_prev : (ws : List ℕ) (k i j : ℕ) → j + 1 ≡ i → i ≤ k → entries_from ws j (k - j) ≡ entry_at ws j ∷ entries_from ws i (k - i)
unfolding entries_from
entries_prev ws k i j h q =
    let e : k - j ≡ suc (k - i) = omega arith in
    rw (e, h)

pub entries-done : (ws : List ℕ) (k : ℕ) → entries_from ws k (k - k) ≡ []
unfolding entries_from
entries-done ws k = let e : k - k ≡ 0 = omega arith in rw e

pub joined-tally : (t : ℕ) (r : Option Resting) (os : List Resting) → tally_of t (joined r os) ≡ tally_joined t r (tally_of t os)
joined-tally t None os = refl
joined-tally t (Some o) os = refl

pub still-small : (t : ℕ) (os : List Resting) (ws : List ℕ) (i k : ℕ) → some_row_broken os ≡ false → k ≤ list_bound
    → Small (tally_of t (still_ahead os (entries_from ws i k)))
still-small t os ws i k h q =
    tally-small t (still_ahead os (entries_from ws i k)) (still-sound os (entries_from ws i k) h)
    (omega (arith, q, still_few os (entries_from ws i k), length-entries ws i k))

-- ---- the orders before our own, row by row

pub before-tally : (t : ℕ) (s : L3Side) (p : ℕ) (d : OrderId) (o : Resting) (os : List Resting)
    → tally_of t (before d (rows_at s p (o ∷ os)))
    ≡ cond (same_level (side_of o.kind) o.price s p) (cond (same_id (id_of o) d) no_tally (tally_with t o (tally_of t (before d (rows_at s p os))))) (tally_of t (before d (rows_at s p os)))
before-tally t s p d o os = go (same_level (side_of o.kind) o.price s p) (same_id (id_of o) d) refl
  where
    go : (a b : Bool) → same_id (id_of o) d ≡ b → tally_of t (before d (cond a (o ∷ rows_at s p os) (rows_at s p os)))
        ≡ cond a (cond b no_tally (tally_with t o (tally_of t (before d (rows_at s p os))))) (tally_of t (before d (rows_at s p os)))
    go true true e = rw e
    go true false e = rw e
    go false b e = refl

pub before_small : (t : ℕ) (s : L3Side) (p : ℕ) (d : OrderId) (os : List Resting) → some_row_broken os ≡ false → length os ≤ most_rows
    → Small (tally_of t (before d (rows_at s p os)))
before_small t s p d os h q =
    tally-small t (before d (rows_at s p os)) (before-sound d (rows_at s p os) (at-sound s p os h))
    (omega (arith, q, before_few d (rows_at s p os), at_most s p os))
