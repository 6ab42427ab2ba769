-- Laws of rows: what reading and writing a row, and the list of rows, have to do with the words.
-- Assumes nothing.
use Prim.Native.Nat.{ℕ, zero, suc, ◌+◌, ◌*◌, ◌-◌, ◌<◌, ◌≤◌}
use mathlib.Core.Path.{◌≡◌, refl, sym, ap, ap₂, ◌∙◌}
use mathlib.Core.List.{List, [], ◌∷◌, ◌++◌}
use native.Mathlib.Nat.{add-zero, zero-add, suc-add}
use native.Mathlib.Omega.{arith}
use lib.Dec.{lit<}
use lib.ListN.{length, get_or, take, drop, set, length-append, length-drop}
use lib.Seq.{set_at, get_or_at, take-nil, length-take-le}
use Rattle.laws.proofs.Splice.{splice-length, splice-before, splice_in, splice-past, splice-rest}
use Rattle.std.specs.List.{CopiedTo, SameBelow, list_any, range_with_len, find}
use Rattle.std.specs.Prelude.{Some}
use Rattle.book.specs.declared.Resting.{Resting}
use Rattle.book.specs.Rows.{row_words, row_at, rows_from, set_row, words_of, remove_at, id_of, find_row}
use Rattle.message.specs.declared.OrderId.{OrderId}
use Rattle.message.specs.Same.{same_id}
use mathlib.Core.Bool.{Bool, false, ◌||◌, cond}

-- ---- a row

pub row_path : {a b : Resting} → a.high ≡ b.high → a.low ≡ b.low → a.price ≡ b.price → a.remaining ≡ b.remaining
    → a.kind ≡ b.kind → a.entered_at ≡ b.entered_at → a.decreased ≡ b.decreased → a.decreased_at ≡ b.decreased_at → a ≡ b
row_path p0 p1 p2 p3 p4 p5 p6 p7 =
    λ k. record { high = p0 k; low = p1 k; price = p2 k; remaining = p3 k; kind = p4 k; entered_at = p5 k; decreased = p6 k; decreased_at = p7 k }

-- two rows with the same words are the same order
pub row_same : (ws vs : List ℕ) (i j : ℕ) → ((f : ℕ) → f < 8 → get_or ws (row_words * i + f) 0 ≡ get_or vs (row_words * j + f) 0) → row_at ws i ≡ row_at vs j
row_same ws vs i j h =
    row_path (simp add-zero at (h 0 (lit< tt))) (h 1 (lit< tt)) (h 2 (lit< tt)) (h 3 (lit< tt)) (h 4 (lit< tt)) (h 5 (lit< tt)) (h 6 (lit< tt)) (h 7 (lit< tt))

module _ (ws : List ℕ) (i : ℕ) (o : Resting) (fits : row_words * i + 8 ≤ length ws) where
  pub length-set_row : length (set_row ws i o) ≡ length ws
  unfolding set_row
  length-set_row = splice-length ws (words_of o) (row_words * i) (row_words * i + 8) refl fits

  pub set_row-same : row_at (set_row ws i o) i ≡ o
  unfolding set_row
  set_row-same =
      let at : (f : ℕ) → f < 8 → get_or (set_row ws i o) (row_words * i + f) 0 ≡ get_or (words_of o) f 0 = splice_in ws (words_of o) (row_words * i) (row_words * i + 8) refl fits 0 in
      row_path (simp add-zero at (at 0 (lit< tt))) (at 1 (lit< tt)) (at 2 (lit< tt)) (at 3 (lit< tt)) (at 4 (lit< tt)) (at 5 (lit< tt)) (at 6 (lit< tt)) (at 7 (lit< tt))

  pub set_row-before : (j : ℕ) → j < i → row_at (set_row ws i o) j ≡ row_at ws j
  unfolding set_row
  set_row-before j h =
      row_same (set_row ws i o) ws j j (λ f hf. splice-before ws (words_of o) (row_words * i) (row_words * i + 8) refl fits 0 (row_words * j + f) (omega arith))

  pub set_row-after : (j : ℕ) → i < j → row_at (set_row ws i o) j ≡ row_at ws j
  unfolding set_row
  set_row-after j h =
      row_same (set_row ws i o) ws j j (λ f hf. splice-past ws (words_of o) (row_words * i) (row_words * i + 8) refl fits 0 (row_words * j + f) (omega arith))

-- ---- the list of orders

-- one row off the front, as a loop that counts up meets it
pub rows_step : (ws : List ℕ) (n i : ℕ) → i < n → rows_from ws i (n - i) ≡ row_at ws i ∷ rows_from ws (i + 1) (n - (i + 1))
unfolding rows_from
rows_step ws n i h = let e : n - i ≡ suc (n - (i + 1)) = omega arith in rw e

-- the same, with the row as a value that was read there
pub rows_next : (ws : List ℕ) (n i : ℕ) (o : Resting) → i < n → o ≡ row_at ws i → rows_from ws i (n - i) ≡ o ∷ rows_from ws (i + 1) (n - (i + 1))
rows_next ws n i o h e = rw e (rows_step ws n i h)

-- the same, as a loop that counts down meets it
pub rows_prev : (ws : List ℕ) (n i j : ℕ) (o : Resting) → j + 1 ≡ i → i ≤ n → o ≡ row_at ws j → rows_from ws j (n - j) ≡ o ∷ rows_from ws i (n - i)
rows_prev ws n i j o e h q = rw (← e) (rows_next ws n j o (omega arith) q)

-- no row left
pub rows-done : (ws : List ℕ) (n i : ℕ) → n ≤ i → rows_from ws i (n - i) ≡ []
unfolding rows_from
rows-done ws n i h = let e : n - i ≡ 0 = omega arith in rw e

pub length-rows : (ws : List ℕ) (i k : ℕ) → length (rows_from ws i k) ≡ k
unfolding rows_from
length-rows ws i zero = refl
length-rows ws i (suc k) = ap suc (length-rows ws (i + 1) k)

-- equal rows, equal lists
pub rows_same : (ws vs : List ℕ) (i j k : ℕ) → ((f : ℕ) → f < k → row_at ws (i + f) ≡ row_at vs (j + f)) → rows_from ws i k ≡ rows_from vs j k
unfolding rows_from
rows_same ws vs i j zero h = refl
rows_same ws vs i j (suc k) h =
    ap₂ ◌∷◌ (simp add-zero at (h 0 (omega arith)))
    (rows_same ws vs (i + 1) (j + 1) k λ f hf.
    let p : i + 1 + f ≡ i + suc f = omega arith in
    let q : j + 1 + f ≡ j + suc f = omega arith in
    rw (p, q) (h (suc f) (omega arith)))

pub rows_split : (ws : List ℕ) (i a b : ℕ) → rows_from ws i (a + b) ≡ rows_from ws i a ++ rows_from ws (i + a) b
unfolding rows_from
rows_split ws i zero b = simp (add-zero, zero-add)
rows_split ws i (suc a) b =
    let p : i + suc a ≡ i + 1 + a = omega arith in
    rw (suc-add, p, rows_split ws (i + 1) a b)

-- row i, between those before it and those after it
pub rows-around : (ws : List ℕ) (n i : ℕ) → i < n → rows_from ws 0 n ≡ rows_from ws 0 i ++ row_at ws i ∷ rows_from ws (i + 1) (n - (i + 1))
rows-around ws n i h =
    let p : n ≡ i + (n - i) = omega arith in
    ap (rows_from ws 0) p ∙ rows_split ws 0 i (n - i) ∙ rw (zero-add, rows_step ws n i h)

-- a row of the list is a row of the words
pub get_d_rows : (ws : List ℕ) (n i : ℕ) (d : Resting) → i < n → get_or (rows_from ws 0 n) i d ≡ row_at ws i
get_d_rows ws n i d h = rw (rows-around ws n i h, get_or_at (rows_from ws 0 i) _ _ d i (length-rows ws 0 i))

module _ (ws : List ℕ) (n i : ℕ) (o : Resting) (fits : row_words * n ≤ length ws) (h : i < n) where
  before_same : rows_from (set_row ws i o) 0 i ≡ rows_from ws 0 i
  before_same = rows_same _ _ 0 0 i (λ f hf. rw zero-add (set_row-before ws i o (omega arith) f hf))

  -- writing a row is writing the list's element
  pub rows_set : rows_from (set_row ws i o) 0 n ≡ set (rows_from ws 0 n) i o
  rows_set =
      rw (
        rows-around (set_row ws i o) n i h,
        rows-around ws n i h,
        set_at (rows_from ws 0 i) _ _ o i (length-rows ws 0 i),
        before_same,
        set_row-same ws i o (omega arith),
        rows_same (set_row ws i o) ws (i + 1) (i + 1) (n - (i + 1)) (λ f hf. set_row-after ws i o (omega arith) (i + 1 + f) (omega arith)),
      )

  -- and leaves the words after the list as they were
  pub rest_set : drop (row_words * n) (set_row ws i o) ≡ drop (row_words * n) ws
  unfolding set_row
  rest_set = splice-rest ws (words_of o) (row_words * i) (row_words * i + 8) refl (omega arith) (row_words * n) (omega arith)

-- writing the row after the last is adding an order
pub rows_push : (ws : List ℕ) (n : ℕ) (o : Resting) → row_words * n + 8 ≤ length ws → rows_from (set_row ws n o) 0 (n + 1) ≡ rows_from ws 0 n ++ (o ∷ [])
rows_push ws n o fits =
    rows-around (set_row ws n o) (n + 1) n (omega arith)
    ∙ rw (before_same ws (n + 1) n o (omega arith) (omega arith), set_row-same ws n o fits, rows-done (set_row ws n o) (n + 1) (n + 1) (omega arith))

-- ---- tests of rows, by place

-- some row of the list passes a test where one by place does
pub any_rows : (test : Resting → Bool) (some : List Resting → Bool) → some [] ≡ false → ((o : Resting) (os : List Resting) → some (o ∷ os) ≡ (test o || some os))
    → (ws : List ℕ) (i k : ℕ) → list_any (λ j. test (row_at ws j)) (range_with_len i k) ≡ some (rows_from ws i k)
unfolding rows_from
any_rows test some none more ws i zero = sym none
any_rows test some none more ws i (suc k) =
    ap (λ b. test (row_at ws i) || b) (any_rows test some none more ws (i + 1) k) ∙ sym (more (row_at ws i) (rows_from ws (i + 1) k))

-- and the first that has an id is the first place that has it
pub find_rows : (d : OrderId) (ws : List ℕ) (i k : ℕ) → find (λ j. same_id (id_of (row_at ws j)) d) (range_with_len i k) ≡ find_row (rows_from ws i k) d i
unfolding rows_from
find_rows d ws i zero = refl
find_rows d ws i (suc k) = ap (cond (same_id (id_of (row_at ws i)) d) (Some i)) (find_rows d ws (i + 1) k)

-- ---- a row taken out

pub remove_eq : (os : List Resting) (i : ℕ) → remove_at os i ≡ take i os ++ drop (suc i) os
remove_eq [] i = sym (rw take-nil)
remove_eq (o ∷ os) zero = refl
remove_eq (o ∷ os) (suc i) = ap {B = List Resting} (λ r. o ∷ r) (remove_eq os i)

remove_here : (a : List Resting) (o : Resting) (b : List Resting) → remove_at (a ++ o ∷ b) (length a) ≡ a ++ b
remove_here [] o b = refl
remove_here (x ∷ a) o b = ap {B = List Resting} (λ r. x ∷ r) (remove_here a o b)

-- the words of the rows behind row i moved down by one row, and the last row written
pub rows_shift : (ws vs : List ℕ) (n i : ℕ) (o : Resting) → row_words * n ≤ length vs → i < n → SameBelow ws vs (row_words * i)
    → CopiedTo ws vs (row_words * (i + 1)) (row_words * i) (row_words * n - row_words * (i + 1))
    → rows_from (set_row vs (n - 1) o) 0 n ≡ remove_at (rows_from ws 0 n) i ++ (o ∷ [])
rows_shift ws vs n i o fits h below copied =
    let e : n - 1 + 1 ≡ n = omega arith in
    let p : n - 1 ≡ i + (n - (i + 1)) = omega arith in
    let front : rows_from vs 0 i ≡ rows_from ws 0 i =
    rows_same vs ws 0 0 i (λ f hf. row_same vs ws (0 + f) (0 + f) (λ w hw. below (row_words * (0 + f) + w) 0 (omega arith))) in
    let back : rows_from vs i (n - (i + 1)) ≡ rows_from ws (i + 1) (n - (i + 1)) =
    rows_same vs ws i (i + 1) (n - (i + 1)) (λ f hf.
    row_same vs ws (i + f) (i + 1 + f) (λ w hw.
    copied (row_words * (i + f) + w) 0 (omega arith) (omega arith) ∙ ap (λ x. get_or ws x 0) (omega arith))) in
    let kept : rows_from vs 0 (n - 1) ≡ remove_at (rows_from ws 0 n) i =
    ap (rows_from vs 0) p ∙ rows_split vs 0 i (n - (i + 1)) ∙ rw (zero-add, front, back, rows-around ws n i h)
    (sym (rw (length-rows ws 0 i) at (remove_here (rows_from ws 0 i) (row_at ws i) (rows_from ws (i + 1) (n - (i + 1)))))) in
    ap (rows_from (set_row vs (n - 1) o) 0) (sym e) ∙ rows_push vs (n - 1) o (omega arith) ∙ ap (λ l. l ++ (o ∷ [])) kept

pub length-remove : (os : List Resting) (i : ℕ) → i < length os → length (remove_at os i) ≡ length os - 1
length-remove os i h = rw remove_eq (simp (length-append, length-drop, length-take-le i os (omega arith)) (omega arith))
