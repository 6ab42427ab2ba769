-- A block as a call leaves it: what two writes come to, and that a state whose words were lent is written as those words.
-- Assumes nothing.
use Prim.Native.Nat.{ℕ, ◌≤◌, ◌<◌}
use native.Mathlib.Omega.{arith}
use mathlib.Core.Path.{◌≡◌, refl, sym, ap, ◌∙◌}
use mathlib.Core.Bool.{Bool, true, false}
use mathlib.Core.List.{List, ◌++◌}
use lib.ListN.{length, take, drop, get_or, set, length-append, length-drop, take-append-drop}
use lib.Seq.{length-take-le, take_at, take-add, sets, sets-eq, set-get_or, get_or-set_other}
use Rattle.reconstructor_state.specs.declared.Status.{Status}
use Rattle.reconstructor_state.specs.declared.BookReconstructor.{BookReconstructor}
use Rattle.reconstructor_counts.specs.Counts.{saturated, counted_at}
use Rattle.reconstructor_state.specs.State.{with_counts}
use Rattle.host_words.specs.Block.{book_of, status_after, rest_list, restored, raised}
use Rattle.laws.proofs.Splice.{splice-rest}

pub status-left : (st : List ℕ) → st ≡ take 6 st ++ take 7 (drop 6 st) ++ drop 13 st
status-left st = sym (ap (λ l. l ++ drop 13 st) (sym (take-add 6 7 st)) ∙ take-append-drop 13 st)

module _ (st : List ℕ) (long : 27 ≤ length st) where
  pub length-after : (sets : Bool) (s : Status) → length (status_after st sets s) ≡ 7
  length-after true s = refl
  length-after false s = length-take-le 7 (drop 6 st) (rw (length-drop 6 st) (omega arith))

  pub two_stores : (st₁ m r : List ℕ) → st₁ ≡ take 6 st ++ m ++ drop 13 st → length m ≡ 7 → take 13 st₁ ++ r ++ drop 27 st₁ ≡ take 6 st ++ m ++ r ++ drop 27 st
  two_stores st₁ m r e k =
      let six : length (take 6 st) ≡ 6 = length-take-le 6 st (omega arith) in
      let front : length (take 6 st ++ m) ≡ 13 = length-append (take 6 st) m ∙ omega arith in
      rw (e, take_at (take 6 st ++ m) (drop 13 st) 13 front, splice-rest st m 6 13 (omega arith) (omega arith) 27 (omega arith)) refl

  unset : (b : BookReconstructor) → restored st false b ≡ sets st 13 (rest_list b)
  unfolding restored
  unset b = ap (λ l. l ++ rest_list b ++ drop 27 st) (sym (take-add 6 7 st)) ∙ sym (sets-eq (rest_list b) st 13 (omega arith))

  -- without setting the status, the state that the words are is written as those words
  pub block_same : restored st false (book_of st) ≡ st
  unfolding book_of
  block_same = unset (book_of st) ∙ simp set-get_or

  -- and one count more is written in that count's word alone
  past : (i : ℕ) (a : ℕ) (j : ℕ) → i < j → set (set st i a) j (get_or st j 0) ≡ set st i a
  past i a j h = ap (set (set st i a) j) (sym (get_or-set_other st i j a 0 (λ e. omega (arith, e, h)))) ∙ set-get_or (set st i a) j 0

  pub raised-dropped : restored st false (with_counts (book_of st) (counted_at 8 (book_of st).counts)) ≡ raised st 23
  unfolding book_of
  raised-dropped =
      let up = saturated (get_or st 23 0) in
      unset (with_counts (book_of st) (counted_at 8 (book_of st).counts)) ∙ simp (set-get_or, past 23 up 24 (omega arith), past 23 up 25 (omega arith), past 23 up 26 (omega arith))

  pub raised-skipped : restored st false (with_counts (book_of st) (counted_at 9 (book_of st).counts)) ≡ raised st 24
  unfolding book_of
  raised-skipped = unset (with_counts (book_of st) (counted_at 9 (book_of st).counts)) ∙ simp (set-get_or, past 24 (saturated (get_or st 24 0)) 25 (omega arith), past 24 (saturated (get_or st 24 0)) 26 (omega arith))

  pub raised-product : restored st false (with_counts (book_of st) (counted_at 10 (book_of st).counts)) ≡ raised st 25
  unfolding book_of
  raised-product = unset (with_counts (book_of st) (counted_at 10 (book_of st).counts)) ∙ simp (set-get_or, past 25 (saturated (get_or st 25 0)) 26 (omega arith))

  pub raised-snapshots : restored st false (with_counts (book_of st) (counted_at 11 (book_of st).counts)) ≡ raised st 26
  unfolding book_of
  raised-snapshots = unset (with_counts (book_of st) (counted_at 11 (book_of st).counts)) ∙ simp set-get_or
