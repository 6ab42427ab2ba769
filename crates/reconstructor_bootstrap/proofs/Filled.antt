-- Words that are filled with rows from the first on.
-- Assumes nothing.
use Prim.Native.Nat.{ℕ, zero, suc, ◌+◌, ◌*◌, ◌-◌, ◌≤◌, max}
use mathlib.Core.Path.{◌≡◌, refl, sym, ap, ◌∙◌}
use mathlib.Core.List.{List, [], ◌∷◌, ◌++◌, append_assoc, append-nil}
use native.Mathlib.Nat.{sub_self}
use native.Mathlib.Omega.{arith}
use lib.ListN.{length, drop, replicate, replicate-append-replicate}
use lib.Seq.{drop-drop}
use Rattle.book.specs.declared.Resting.{Resting}
use Rattle.book.specs.Rows.{row_words, rows_from, rows_of, set_row, encode_all, stored, empty_row}
use Rattle.book.proofs.Rows.{rows_push, rest_set, length-set_row}
use Rattle.book.proofs.Stored.{stored_is}

-- the first i rows are `os`, and the words beyond them are those of `ws`
pub record Filled (ws vs : List ℕ) (i : ℕ) (os : List Resting) : Type 0 where
  pub same : length vs ≡ length ws
  pub rows : rows_of vs i ≡ os
  pub rest : drop (row_words * i) vs ≡ drop (row_words * i) ws

pub filled_none : (ws : List ℕ) → Filled ws ws 0 []
unfolding rows_from
filled_none ws = record { same = refl; rows = refl; rest = refl }

-- what is untouched beyond more rows
later : (ws vs : List ℕ) (i k : ℕ) → i ≤ k → drop (row_words * i) vs ≡ drop (row_words * i) ws → drop (row_words * k) vs ≡ drop (row_words * k) ws
later ws vs i k h e =
    let q : row_words * k ≡ row_words * i + row_words * (k - i) = omega arith in
    rw q (sym (drop-drop (row_words * (k - i)) (row_words * i) vs) ∙ ap (drop (row_words * (k - i))) e ∙ drop-drop (row_words * (k - i)) (row_words * i) ws)

-- filled, and filled on
pub filled_on : (ws vs us : List ℕ) (i k : ℕ) (os ps : List Resting) → i ≤ k → Filled ws vs i os → Filled vs us k ps → Filled ws us k ps
filled_on ws vs us i k os ps h f g =
    record { same = g.same ∙ f.same; rows = g.rows; rest = g.rest ∙ later ws vs i k h f.rest }

pub filled_next : (ws vs us : List ℕ) (i : ℕ) (os : List Resting) (o : Resting) → row_words * i + 8 ≤ length ws → us ≡ set_row vs i o → Filled ws vs i os → Filled ws us (i + 1) (os ++ (o ∷ []))
filled_next ws vs us i os o h e f =
    let k : row_words * i + 8 ≤ length vs = omega (arith, f.same) in
    rw e
    (record {
      same = length-set_row vs i o k ∙ f.same;
      rows = rows_push vs i o k ∙ ap (λ (x : List Resting). x ++ (o ∷ [])) f.rows;
      rest = rest_set vs (i + 1) i o (omega arith) (omega arith) ∙ later ws vs i (i + 1) (omega arith) f.rest;
    })

-- ---- cleared rows behind them

abbrev pub blanks : ℕ → List Resting
blanks k = replicate k empty_row

pub blanks-none : (os : List Resting) (n : ℕ) → os ≡ os ++ blanks (n - n)
blanks-none os n = rw sub_self (sym (append-nil os))

pub blanks-next : (os : List Resting) (n k : ℕ) → n ≤ k → os ++ blanks (k + 1 - n) ≡ (os ++ blanks (k - n)) ++ (empty_row ∷ [])
blanks-next os n k h =
    let e : k + 1 - n ≡ k - n + 1 = omega arith in
    rw (e, ← (replicate-append-replicate {A = Resting} (k - n) 1 empty_row)) (sym (append_assoc os (blanks (k - n)) (empty_row ∷ [])))

encode-blanks : (k : ℕ) → encode_all (blanks k) ≡ replicate (row_words * k) 0
encode-blanks zero = refl
encode-blanks (suc k) =
    let e : row_words * suc k ≡ 8 + row_words * k = omega arith in
    rw (e, ← (replicate-append-replicate {A = ℕ} 8 (row_words * k) 0)) (ap (λ (x : List ℕ). replicate 8 0 ++ x) (encode-blanks k))

pub filled-stored : (ws vs : List ℕ) (former n k : ℕ) (os : List Resting) → length os ≡ n → k ≡ max former n → row_words * k ≤ length ws
    → Filled ws vs k (os ++ blanks (k - n)) → vs ≡ stored ws former os
filled-stored ws vs former n k os e q h f =
    let z : row_words * (k - n) ≡ row_words * (former - length os) = omega arith in
    stored_is ws vs former k os (blanks (k - n)) (omega arith) (omega (arith, f.same)) f.rows (encode-blanks (k - n) ∙ ap (λ (x : ℕ). replicate x 0) z) f.rest
