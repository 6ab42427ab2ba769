-- Laws of the orders at a side and price: one row more at the back, and the words written of them.
-- Assumes nothing.
use Prim.Native.Nat.{ℕ, suc, ◌+◌, ◌*◌, ◌-◌, ◌≤◌, ◌<◌}
use mathlib.Core.Path.{◌≡◌, refl, sym, ap, ◌∙◌}
use mathlib.Core.Bool.{Bool, true, false, cond}
use mathlib.Core.List.{List, [], ◌∷◌, ◌++◌, append_assoc, append-nil}
use native.Mathlib.Nat.{zero-add}
use native.Mathlib.Omega.{arith}
use lib.ListN.{length, take, drop, length-append}
use Rattle.message.specs.declared.L3Side.{L3Side}
use Rattle.message.specs.declared.OrderId.{OrderId}
use Rattle.book.specs.declared.Resting.{Resting}
use Rattle.book.specs.Line.{same_level, queue}
use Rattle.book.specs.Rows.{row_at, rows_from, rows_of, side_of, id_of, line_of}
use Rattle.book.proofs.Rows.{rows_split}
use Rattle.book_levels.specs.Levels.{written}
use Rattle.book_levels.proofs.Writing.{written-more}
use Rattle.book_queue.specs.declared.EntryForm.{EntryForm}
use Rattle.book_queue.specs.declared.EntryForm.TheVariants.{Queue, Ahead}
use Rattle.book_queue.specs.Queue.{rows_at, entry_width, entry_words, entries_words}

-- ---- how many there are, and how many words

pub at_most : (s : L3Side) (p : ℕ) (os : List Resting) → length (rows_at s p os) ≤ length os
at_most s p [] = omega arith
at_most s p (o ∷ os) = go (same_level (side_of o.kind) o.price s p) (at_most s p os)
  where
    go : (b : Bool) → length (rows_at s p os) ≤ length os → length (cond b (o ∷ rows_at s p os) (rows_at s p os)) ≤ suc (length os)
    go true ih = omega arith
    go false ih = omega arith

width-entry : (f : EntryForm) (o : Resting) → length (entry_words f o) ≡ entry_width f
width-entry Queue o = refl
width-entry Ahead o = refl

pub width-entries : (f : EntryForm) (os : List Resting) → length (entries_words f os) ≡ entry_width f * length os
width-entries Queue [] = refl
width-entries Ahead [] = refl
width-entries Queue (o ∷ os) = let ih = width-entries Queue os in omega (arith, ih)
width-entries Ahead (o ∷ os) = let ih = width-entries Ahead os in omega (arith, ih)

-- ---- the sum rule's queue order is that of the rows there

-- what the ledger's queue order has of an order
abbrev pub id_and_size : Resting → (OrderId × ℕ)
id_and_size o = (id_of o, o.remaining)

abbrev pub shown_queue : List Resting → List (OrderId × ℕ)
shown_queue [] = []
shown_queue (o ∷ os) = id_and_size o ∷ shown_queue os

-- 01, The ledger: "queue order their ids and remaining in order of arrival"
pub queue-read : (s : L3Side) (p : ℕ) (os : List Resting) → shown_queue (rows_at s p os) ≡ queue s p (line_of os)
queue-read s p [] = refl
queue-read s p (o ∷ os) = go (same_level (side_of o.kind) o.price s p) (queue-read s p os)
  where
    go : (b : Bool) → shown_queue (rows_at s p os) ≡ queue s p (line_of os)
        → shown_queue (cond b (o ∷ rows_at s p os) (rows_at s p os)) ≡ cond b (id_and_size o ∷ queue s p (line_of os)) (queue s p (line_of os))
    go true ih = ap (λ (l : List (OrderId × ℕ)). id_and_size o ∷ l) ih
    go false ih = ih

-- ---- written row by row

at_append : (s : L3Side) (p : ℕ) (l m : List Resting) → rows_at s p (l ++ m) ≡ rows_at s p l ++ rows_at s p m
at_append s p [] m = refl
at_append s p (o ∷ l) m = go (same_level (side_of o.kind) o.price s p) (at_append s p l m)
  where
    go : (b : Bool) → rows_at s p (l ++ m) ≡ rows_at s p l ++ rows_at s p m
        → cond b (o ∷ rows_at s p (l ++ m)) (rows_at s p (l ++ m)) ≡ cond b (o ∷ rows_at s p l) (rows_at s p l) ++ rows_at s p m
    go true ih = ap (λ (x : List Resting). o ∷ x) ih
    go false ih = ih

entries_append : (f : EntryForm) (l m : List Resting) → entries_words f (l ++ m) ≡ entries_words f l ++ entries_words f m
entries_append f [] m = refl
entries_append f (o ∷ l) m =
    ap (λ (x : List ℕ). entry_words f o ++ x) (entries_append f l m) ∙ sym (append_assoc (entry_words f o) (entries_words f l) (entries_words f m))

-- the words of the orders there among the first i rows
abbrev pub so_far : EntryForm → L3Side → ℕ → List ℕ → ℕ → List ℕ
so_far f s p ws i = entries_words f (rows_at s p (rows_of ws i))

-- a loop has written them, up to word `at`
pub record Writes (f : EntryForm) (s : L3Side) (p : ℕ) (ws : List ℕ) (n : ℕ) (out₀ out : List ℕ) (at i : ℕ) : Type 0 where
  pub some : i ≤ n
  pub place : at ≡ length (so_far f s p ws i)
  pub words : out ≡ written (so_far f s p ws i) out₀

pub writes_start : (f : EntryForm) (s : L3Side) (p : ℕ) (ws : List ℕ) (n : ℕ) (out : List ℕ) → Writes f s p ws n out out 0 0
unfolding rows_from
writes_start f s p ws n out = record { some = omega arith; place = refl; words = refl }

module _ (f : EntryForm) (s : L3Side) (p : ℕ) (ws : List ℕ) (n : ℕ) (out₀ out : List ℕ) (at i : ℕ) (w : Writes f s p ws n out₀ out at i) (h : i < n) where
  next-rows : rows_of ws (i + 1) ≡ rows_of ws i ++ (row_at ws i ∷ [])
  unfolding rows_from
  next-rows = rows_split ws 0 i 1 ∙ rw (zero-add i)

  rest-rows : rows_of ws n ≡ rows_of ws (i + 1) ++ rows_from ws (i + 1) (n - (i + 1))
  rest-rows =
      let k : i + 1 + (n - (i + 1)) ≡ n = omega arith in
      ap (rows_from ws 0) (sym k) ∙ rows_split ws 0 (i + 1) (n - (i + 1)) ∙ rw (zero-add (i + 1))

  -- the words of row i
  abbrev own : Bool → List ℕ
  own b = cond b (entry_words f (row_at ws i)) []

  more : so_far f s p ws (i + 1) ≡ so_far f s p ws i ++ own (same_level (side_of (row_at ws i).kind) (row_at ws i).price s p)
  more =
      ap (λ (x : List Resting). entries_words f (rows_at s p x)) next-rows
      ∙ ap (entries_words f) (at_append s p (rows_of ws i) (row_at ws i ∷ []))
      ∙ entries_append f (rows_at s p (rows_of ws i)) (rows_at s p (row_at ws i ∷ []))
      ∙ ap (λ (x : List ℕ). so_far f s p ws i ++ x) (one (same_level (side_of (row_at ws i).kind) (row_at ws i).price s p))
    where
      one : (b : Bool) → entries_words f (cond b (row_at ws i ∷ []) []) ≡ own b
      one true = append-nil (entry_words f (row_at ws i))
      one false = refl

  place_after : cond (same_level (side_of (row_at ws i).kind) (row_at ws i).price s p) (at + entry_width f) at ≡ length (so_far f s p ws (i + 1))
  place_after = go (same_level (side_of (row_at ws i).kind) (row_at ws i).price s p) ∙ sym (ap length more ∙ length-append (so_far f s p ws i) (own (same_level (side_of (row_at ws i).kind) (row_at ws i).price s p)))
    where
      go : (b : Bool) → cond b (at + entry_width f) at ≡ length (so_far f s p ws i) + length (own b)
      go true = rw (w.place, width-entry f (row_at ws i))
      go false = rw w.place (omega arith)

  words-after : cond (same_level (side_of (row_at ws i).kind) (row_at ws i).price s p) (take at out ++ entry_words f (row_at ws i) ++ drop (at + entry_width f) out) out ≡ written (so_far f s p ws (i + 1)) out₀
  words-after = go (same_level (side_of (row_at ws i).kind) (row_at ws i).price s p) ∙ ap (λ (x : List ℕ). written x out₀) (sym more)
    where
      go : (b : Bool) → cond b (take at out ++ entry_words f (row_at ws i) ++ drop (at + entry_width f) out) out ≡ written (so_far f s p ws i ++ own b) out₀
      go true =
          rw (w.words, w.place)
          (written-more (so_far f s p ws i) (entry_words f (row_at ws i)) out₀ (length (so_far f s p ws i)) (entry_width f) (length (so_far f s p ws i) + entry_width f) refl (width-entry f (row_at ws i)) refl)
      go false = rw (append-nil (so_far f s p ws i)) w.words

  -- row i is written, if it is at the level
  pub writes-next : (at' : ℕ) (out' : List ℕ) → at' ≡ cond (same_level (side_of (row_at ws i).kind) (row_at ws i).price s p) (at + entry_width f) at
      → out' ≡ cond (same_level (side_of (row_at ws i).kind) (row_at ws i).price s p) (take at out ++ entry_words f (row_at ws i) ++ drop (at + entry_width f) out) out
      → Writes f s p ws n out₀ out' at' (i + 1)
  writes-next at' out' e q = record { some = omega arith; place = e ∙ place_after; words = q ∙ words-after }

  -- what is written by then is part of the whole
  pub writes-room : cond (same_level (side_of (row_at ws i).kind) (row_at ws i).price s p) (at + entry_width f) at ≤ length (so_far f s p ws n)
  writes-room =
      let q : so_far f s p ws n ≡ so_far f s p ws (i + 1) ++ entries_words f (rows_at s p (rows_from ws (i + 1) (n - (i + 1)))) =
      ap (λ (l : List Resting). entries_words f (rows_at s p l)) rest-rows
      ∙ ap (entries_words f) (at_append s p (rows_of ws (i + 1)) (rows_from ws (i + 1) (n - (i + 1))))
      ∙ entries_append f (rows_at s p (rows_of ws (i + 1))) (rows_at s p (rows_from ws (i + 1) (n - (i + 1)))) in
      let z = ap length q ∙ length-append (so_far f s p ws (i + 1)) (entries_words f (rows_at s p (rows_from ws (i + 1) (n - (i + 1))))) in
      omega (arith, place_after, z)
