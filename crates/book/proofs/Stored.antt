-- What the code does to the words, as `stored`: a row joined, a row rewritten, a row taken out; and what a search tells.
-- Assumes nothing.
use Rattle.std.specs.Prelude.{Option, Some, None}
use Prim.Native.Nat.{ℕ, zero, suc, ◌+◌, ◌*◌, ◌-◌, ◌<◌, ◌≤◌, max}
use mathlib.Core.Path.{◌≡◌, refl, sym, ap, ap₂, ◌∙◌}
use mathlib.Core.Bool.{Bool, true, false, cond}
use mathlib.Core.List.{List, [], ◌∷◌, ◌++◌, append_assoc, append-nil}
use native.Mathlib.Nat.{add-zero, zero-add, sub-zero}
use native.Mathlib.Numerals.{add-one}
use native.Mathlib.Omega.{arith}
use lib.Dec.{eqb}
use lib.ListN.{length, get_or, drop, set, replicate, length-append, length-drop, length-set, length-replicate}
use lib.Seq.{drop-cons, get_or-append-add}
use Rattle.message.specs.declared.OrderId.{OrderId}
use Rattle.message.specs.Same.{same_id}
use Rattle.book.specs.declared.Resting.{Resting}
use Rattle.book.specs.Line.{find}
use Rattle.book.specs.Rows.{row_words, empty_row, row_at, rows_from, rows_of, set_row, words_of, encode_all, stored, remove_at, id_of, entry_of, line_of, find_row, reduced, cut_rows}
use Rattle.book.proofs.Rows.{row_same, rows_set, rest_set, rows_push, length-rows, length-set_row, length-remove, get_d_rows}

pub encode_append : (a b : List Resting) → encode_all (a ++ b) ≡ encode_all a ++ encode_all b
encode_append [] b = refl
encode_append (o ∷ a) b = ap (λ (x : List ℕ). words_of o ++ x) (encode_append a b)

-- a row's words, off the front of the words from there on
next_word : (ws : List ℕ) (j k : ℕ) → j + 1 ≡ k → j < length ws → drop j ws ≡ get_or ws j 0 ∷ drop k ws
next_word ws j k e h = rw (← e, add-one j) (drop-cons ws j 0 h)

drop-row_at : (ws : List ℕ) (i : ℕ) → row_words * i + 8 ≤ length ws → drop (row_words * i) ws ≡ words_of (row_at ws i) ++ drop (row_words * (i + 1)) ws
drop-row_at ws i h =
    let e : row_words * (i + 1) ≡ row_words * i + 8 = omega arith in
    rw (
      e,
      next_word ws (row_words * i) (row_words * i + 1) refl (omega arith),
      next_word ws (row_words * i + 1) (row_words * i + 2) (omega arith) (omega arith),
      next_word ws (row_words * i + 2) (row_words * i + 3) (omega arith) (omega arith),
      next_word ws (row_words * i + 3) (row_words * i + 4) (omega arith) (omega arith),
      next_word ws (row_words * i + 4) (row_words * i + 5) (omega arith) (omega arith),
      next_word ws (row_words * i + 5) (row_words * i + 6) (omega arith) (omega arith),
      next_word ws (row_words * i + 6) (row_words * i + 7) (omega arith) (omega arith),
      next_word ws (row_words * i + 7) (row_words * i + 8) (omega arith) (omega arith),
    )

-- rows decoded and encoded again are the words
encode-rows : (ws : List ℕ) (i k : ℕ) → row_words * (i + k) ≤ length ws → encode_all (rows_from ws i k) ++ drop (row_words * (i + k)) ws ≡ drop (row_words * i) ws
unfolding rows_from
encode-rows ws i zero h = rw add-zero
encode-rows ws i (suc k) h =
    let e : i + suc k ≡ i + 1 + k = omega arith in
    rw e
    (ap (λ (x : List ℕ). words_of (row_at ws i) ++ x) (encode-rows ws (i + 1) k (omega arith)) ∙ sym (drop-row_at ws i (omega arith)))

-- words whose first m rows are `os` and then zeros, and which are untouched beyond
pub stored_is : (ws vs : List ℕ) (n m : ℕ) (os zs : List Resting) → m ≡ max n (length os) → row_words * m ≤ length vs → rows_of vs m ≡ os ++ zs
    → encode_all zs ≡ replicate (row_words * (n - length os)) 0 → drop (row_words * m) vs ≡ drop (row_words * m) ws → vs ≡ stored ws n os
unfolding stored
stored_is ws vs n m os zs e fits lines zeros rest =
    let w = encode-rows vs 0 m (simp zero-add (omega arith)) in
    let v = rw (zero-add, lines, encode_append os zs, zeros, rest, append_assoc) at w in
    rw (← e) (sym v)

-- the orders as they were leave the words as they were
pub stored_same : (ws : List ℕ) (n : ℕ) → row_words * n ≤ length ws → ws ≡ stored ws n (rows_of ws n)
stored_same ws n h =
    let l = length-rows ws 0 n in
    stored_is ws ws n n (rows_of ws n) [] (omega arith) h (sym (append-nil (rows_of ws n)))
    (let z : row_words * (n - length (rows_of ws n)) ≡ 0 = omega arith in rw z)
    refl

pub stored_push : (ws : List ℕ) (n : ℕ) (o : Resting) → row_words * n + 8 ≤ length ws → set_row ws n o ≡ stored ws n (rows_of ws n ++ (o ∷ []))
stored_push ws n o h =
    let l = length-rows ws 0 n in
    let k : length (rows_of ws n ++ (o ∷ [])) ≡ n + 1 = simp length-append (omega arith) in
    stored_is ws (set_row ws n o) n (n + 1) (rows_of ws n ++ (o ∷ [])) [] (omega arith) (rw (length-set_row ws n o h) (omega arith))
    (rows_push ws n o h ∙ sym (append-nil (rows_of ws n ++ (o ∷ []))))
    (let z : row_words * (n - length (rows_of ws n ++ (o ∷ []))) ≡ 0 = omega arith in rw z)
    (rest_set ws (n + 1) n o (omega arith) (omega arith))

pub stored_set : (ws : List ℕ) (n i : ℕ) (o : Resting) → row_words * n ≤ length ws → i < n → set_row ws i o ≡ stored ws n (set (rows_of ws n) i o)
stored_set ws n i o h q =
    let k : length (set (rows_of ws n) i o) ≡ n = simp length-set (length-rows ws 0 n) in
    stored_is ws (set_row ws i o) n n (set (rows_of ws n) i o) [] (omega arith) (rw (length-set_row ws i o (omega arith)) (omega arith))
    (rows_set ws n i o h q ∙ sym (append-nil (set (rows_of ws n) i o)))
    (let z : row_words * (n - length (set (rows_of ws n) i o)) ≡ 0 = omega arith in rw z)
    (rest_set ws n i o h q)

pub stored-remove : (ws vs : List ℕ) (n i : ℕ) → row_words * n ≤ length vs → i < n → rows_of vs n ≡ remove_at (rows_of ws n) i ++ (empty_row ∷ [])
    → drop (row_words * n) vs ≡ drop (row_words * n) ws → vs ≡ stored ws n (remove_at (rows_of ws n) i)
stored-remove ws vs n i h q lines rest =
    let l = length-rows ws 0 n in
    let k : length (remove_at (rows_of ws n) i) ≡ n - 1 = length-remove (rows_of ws n) i (omega arith) ∙ ap (λ (x : ℕ). x - 1) l in
    stored_is ws vs n n (remove_at (rows_of ws n) i) (empty_row ∷ []) (omega arith) h lines
    (let z : row_words * (n - length (remove_at (rows_of ws n) i)) ≡ 8 = omega arith in rw z)
    rest

-- ---- laws of `stored`

rows_at : (p : List ℕ) (i : ℕ) (os : List Resting) (rest : List ℕ) → length p ≡ row_words * i → rows_from (p ++ (encode_all os ++ rest)) i (length os) ≡ os
unfolding rows_from
rows_at p i [] rest e = refl
rows_at p i (o ∷ os) rest e =
    ap₂ ◌∷◌
    (row_same (p ++ (encode_all (o ∷ os) ++ rest)) (encode_all (o ∷ os) ++ rest) i 0
    (λ f h. let z : row_words * 0 + f ≡ f = omega arith in rw (← e, z) (get_or-append-add p (encode_all (o ∷ os) ++ rest) f 0)))
    (rw (append_assoc p (words_of o) (encode_all os ++ rest)) at (rows_at (p ++ words_of o) (i + 1) os rest (simp length-append (omega arith))))

-- decode after store: the rows that were stored are the rows that are read
pub rows-stored : (ws : List ℕ) (n : ℕ) (os : List Resting) → rows_of (stored ws n os) (length os) ≡ os
unfolding stored
rows-stored ws n os = rows_at [] 0 os _ refl

pub length_encode : (os : List Resting) → length (encode_all os) ≡ row_words * length os
length_encode [] = refl
length_encode (o ∷ os) = omega (arith, length_encode os)

-- the length is kept
pub length-stored : (ws : List ℕ) (n : ℕ) (os : List Resting) → row_words * n ≤ length ws → row_words * length os ≤ length ws → length (stored ws n os) ≡ length ws
unfolding stored
length-stored ws n os h k =
    simp (length-append, length-drop) (omega (arith, length_encode os, length-replicate {A = ℕ} (row_words * (n - length os)) 0))

-- ---- what a search tells

-- element i is the first of that id
record First (os : List Resting) (d : OrderId) (i : ℕ) : Type 0 where
  inside : i < length os
  entry : find d (line_of os) ≡ Some (entry_of (get_or os i empty_row))
  gone : (mark : Option ℕ) → cut_rows d 0 mark os ≡ remove_at os i
  left : (r : ℕ) (mark : Option ℕ) → eqb r 0 ≡ false → cut_rows d r mark os ≡ set os i (reduced (get_or os i empty_row) r mark)

first_at : (os : List Resting) (d : OrderId) (k j : ℕ) → find_row os d k ≡ Some j → (k ≤ j) × First os d (j - k)
first_at [] d k j h = let z : ◌≡◌ {A = ℕ} 0 1 = cc in absurd (omega arith)
first_at (o ∷ os) d k j h = go (same_id (id_of o) d) refl h (first_at os d (k + 1) j)
  where
    go : (b : Bool) → same_id (id_of o) d ≡ b → cond b (Some k) (find_row os d (k + 1)) ≡ Some j
        → (find_row os d (k + 1) ≡ Some j → (k + 1 ≤ j) × First os d (j - (k + 1))) → (k ≤ j) × First (o ∷ os) d (j - k)
    go true t h ih =
        let e : k ≡ j = cc in
        let z : j - k ≡ 0 = omega arith in
        (omega arith, rw z (record { inside = omega arith; entry = rw t; gone = λ mark. rw t; left = λ r mark q. rw (t, q) }))
    go false t h ih =
        let f = ih h in
        let z : j - k ≡ suc (j - (k + 1)) = omega arith in (
          omega arith,
          rw z
              (record {
                inside = omega (arith, f.1.inside);
                entry = rw t f.1.entry;
                gone = λ mark. rw t (ap (λ (l : List Resting). o ∷ l) (f.1.gone mark));
                left = λ r mark q. rw t (ap (λ (l : List Resting). o ∷ l) (f.1.left r mark q));
              }),
        )

-- row i is the first of that id
pub record FoundAt (ws : List ℕ) (n : ℕ) (d : OrderId) (i : ℕ) : Type 0 where
  pub inside : i < n
  pub entry : find d (line_of (rows_of ws n)) ≡ Some (entry_of (row_at ws i))
  pub gone : (mark : Option ℕ) → cut_rows d 0 mark (rows_of ws n) ≡ remove_at (rows_of ws n) i
  pub left : (r : ℕ) (mark : Option ℕ) → eqb r 0 ≡ false
      → cut_rows d r mark (rows_of ws n) ≡ set (rows_of ws n) i (reduced (row_at ws i) r mark)

pub found_at : (ws : List ℕ) (n : ℕ) (d : OrderId) (i : ℕ) → find_row (rows_of ws n) d 0 ≡ Some i → FoundAt ws n d i
found_at ws n d i h =
    let f = rw sub-zero at (first_at (rows_of ws n) d 0 i h).1 in
    let q : i < n = omega (arith, f.inside, length-rows ws 0 n) in
    let e : get_or (rows_of ws n) i empty_row ≡ row_at ws i = get_d_rows ws n i empty_row q in
    record {
      inside = q;
      entry = f.entry ∙ ap (λ (o : Resting). Some (entry_of o)) e;
      gone = f.gone;
      left = λ r mark z. f.left r mark z ∙ ap (λ (o : Resting). set (rows_of ws n) i (reduced o r mark)) e;
    }

pub found_none : (os : List Resting) (d : OrderId) (k : ℕ) → find_row os d k ≡ None → find d (line_of os) ≡ None
found_none [] d k h = refl
found_none (o ∷ os) d k h = go (same_id (id_of o) d) h (found_none os d (k + 1))
  where
    go : (b : Bool) → cond b (Some k) (find_row os d (k + 1)) ≡ None → (find_row os d (k + 1) ≡ None → find d (line_of os) ≡ None)
        → cond b (Some (entry_of o)) (find d (line_of os)) ≡ None
    go true h ih = let z : ◌≡◌ {A = ℕ} 0 1 = cc in absurd (omega arith)
    go false h ih = ih h
