-- What an index tells of the rows, and what keeps it an index: an order marked, bounds widened, an order joined or cut.
-- Assumes nothing.
use Rattle.std.specs.Prelude.{Option, Some, None}
use Prim.Native.Nat.{ℕ, zero, suc, ◌+◌, ◌<◌, ◌≤◌}
use mathlib.Core.Path.{◌≡◌, refl, sym, ap, ◌∙◌}
use mathlib.Core.Bool.{Bool, true, false, ◌||◌, ◌&&◌, cond}
use mathlib.Core.List.{List, [], ◌∷◌, ◌++◌}
use native.Mathlib.Nat.{add-zero, zero-add}
use native.Mathlib.Numerals.{add-one}
use native.Mathlib.Omega.{arith}
use lib.Dec.{eqb, leb, ltb}
use lib.ListN.{length, get_or, set, length-set}
use lib.Seq.{get_or-set_same}
use borrow.Author.Tests.{ltb-true, ltb-false, leb-true, eqb-true, eqb-false, lt-ltb, le-leb, lt-leb, ne_eqb}
use Rattle.laws.proofs.Bools.{absurd_bool, and_yes, or_no, or_both, or-true}
use Rattle.message.specs.declared.L3Side.{L3Side}
use Rattle.message.specs.declared.L3Side.TheVariants.{Buy, Sell}
use Rattle.message.specs.declared.OrderId.{OrderId}
use Rattle.message.specs.Same.{same_side, same_id}
use Rattle.book.specs.declared.Resting.{Resting}
use Rattle.book.specs.Line.{rests, better, best, meet, would_cross}
use Rattle.book.specs.Rows.{empty_row, row_at, rows_from, rows_of, id_of, entry_of, line_of, side_of, find_row, reduced, cut_rows}
use Rattle.book.specs.Broken.{id_twice}
use Rattle.book.proofs.Rows.{rows-around, rows-done, length-rows, get_d_rows}
use Rattle.book.proofs.Moves.{rests-front}
use Rattle.book_buckets.specs.Buckets.{bucket_of}
use Rattle.book_buckets.proofs.Chains.{bucket_lt}
use Rattle.book_index.specs.declared.Bounds.{Bounds}
use Rattle.book_index.specs.Index.{key_for, marked, bounded, row_marked, row_bounded, all, Indexed, marked_at, widened, clear_of, clears}

pub and_both : (a b : Bool) → a ≡ true → b ≡ true → (a && b) ≡ true
and_both true b p q = q
and_both false b p q = p

-- ---- a test of all orders

module _ (f : Resting → Bool) where
  pub all-joined : (os : List Resting) (o : Resting) → all f os ≡ true → f o ≡ true → all f (os ++ (o ∷ [])) ≡ true
  all-joined [] o h q = and_both (f o) true q refl
  all-joined (x ∷ os) o h q =
      let d = and_yes (f x) (all f os) h in
      and_both (f x) (all f (os ++ (o ∷ []))) d.0 (all-joined os o d.1 q)

  pub all_weaker : (g : Resting → Bool) → ((o : Resting) → f o ≡ true → g o ≡ true) → (os : List Resting) → all f os ≡ true → all g os ≡ true
  all_weaker g w [] h = refl
  all_weaker g w (o ∷ os) h =
      let d = and_yes (f o) (all f os) h in
      and_both (g o) (all g os) (w o d.0) (all_weaker g w os d.1)

  -- one that looks at neither the size nor the mark of a decrease
  module _ (same : (o : Resting) (r : ℕ) (mark : Option ℕ) → f (reduced o r mark) ≡ f o) where
    pub all_cut : (d : OrderId) (r : ℕ) (mark : Option ℕ) (os : List Resting) → all f os ≡ true → all f (cut_rows d r mark os) ≡ true
    all_cut d r mark [] h = refl
    all_cut d r mark (o ∷ os) h =
        let e = and_yes (f o) (all f os) h in
        go (same_id (id_of o) d) (eqb r 0) e.0 e.1 (all_cut d r mark os e.1)
      where
        go : (a b : Bool) → f o ≡ true → all f os ≡ true → all f (cut_rows d r mark os) ≡ true
            → all f (cond a (cond b os (reduced o r mark ∷ os)) (o ∷ cut_rows d r mark os)) ≡ true
        go true true p q ih = q
        go true false p q ih = and_both (f (reduced o r mark)) (all f os) (same o r mark ∙ p) q
        go false b p q ih = and_both (f o) (all f (cut_rows d r mark os)) p ih

pub marked-same : (places : List ℕ) (o : Resting) (r : ℕ) (mark : Option ℕ) → row_marked places (reduced o r mark) ≡ row_marked places o
marked-same places o r None = refl
marked-same places o r (Some t) = refl

pub bounded-same : (b : Option Bounds) (o : Resting) (r : ℕ) (mark : Option ℕ) → row_bounded b (reduced o r mark) ≡ row_bounded b o
bounded-same b o r None = refl
bounded-same b o r (Some t) = refl

none-marked : (d : OrderId) → marked [] d ≡ true
unfolding marked
none-marked d = refl

none-bounded : (s : L3Side) (p : ℕ) → bounded None s p ≡ true
unfolding bounded
none-bounded s p = refl

-- no places and no bounds say nothing of any orders
pub unindexed : (os : List Resting) → id_twice (line_of os) ≡ false → Indexed [] None os
unindexed os single = record { few = omega arith; marks = unmarked os; within = unbounded os; single = single }
  where
    unmarked : (os : List Resting) → all (row_marked []) os ≡ true
    unmarked [] = refl
    unmarked (o ∷ os) = and_both (row_marked [] o) (all (row_marked []) os) (none-marked (id_of o)) (unmarked os)

    unbounded : (os : List Resting) → all (row_bounded None) os ≡ true
    unbounded [] = refl
    unbounded (o ∷ os) =
        and_both (row_bounded None o) (all (row_bounded None) os) (none-bounded (side_of o.kind) o.price) (unbounded os)

-- ---- places

id_path : {a b : OrderId} → a.high ≡ b.high → a.low ≡ b.low → a ≡ b
id_path p q = λ k. record { high = p k; low = q k }

same_id-eq : (a b : OrderId) → same_id a b ≡ true → a ≡ b
unfolding same_id
same_id-eq a b h =
    let d = and_yes (eqb a.high b.high) (eqb a.low b.low) h in
    id_path (eqb-true _ _ d.0) (eqb-true _ _ d.1)

-- an order of that id would be marked
pub unmarked-none : (places : List ℕ) (d : OrderId) → marked places d ≡ false → (os : List Resting) (k : ℕ) → all (row_marked places) os ≡ true
    → find_row os d k ≡ None
unmarked-none places d u [] k h = refl
unmarked-none places d u (o ∷ os) k h =
    let e = and_yes (row_marked places o) (all (row_marked places) os) h in
    go (same_id (id_of o) d) refl e.0 (unmarked-none places d u os (k + 1) e.1)
  where
    go : (t : Bool) → same_id (id_of o) d ≡ t → marked places (id_of o) ≡ true → find_row os d (k + 1) ≡ None → cond t (Some k) (find_row os d (k + 1)) ≡ None
    go true p q ih = absurd_bool (sym q ∙ ap (marked places) (same_id-eq (id_of o) d p) ∙ u)
    go false p q ih = ih

rests_at : (os : List Resting) (d : OrderId) (i : ℕ) → i < length os → same_id (id_of (get_or os i empty_row)) d ≡ true → rests d (line_of os) ≡ true
rests_at [] d i h p = absurd (omega arith)
rests_at (o ∷ os) d zero h p = rests-front d (entry_of o) (line_of os) ∙ rw p
rests_at (o ∷ os) d (suc i) h p =
    rests-front d (entry_of o) (line_of os) ∙ rw (rests_at os d i (omega arith) p) (or-true (same_id (id_of o) d))

-- where ids are distinct, an order of that id is the first
pub first_is : (os : List Resting) (d : OrderId) (k i : ℕ) → id_twice (line_of os) ≡ false → i < length os
    → same_id (id_of (get_or os i empty_row)) d ≡ true → find_row os d k ≡ Some (k + i)
first_is [] d k i t h p = absurd (omega arith)
first_is (o ∷ os) d k zero t h p = rw (p, add-zero)
first_is (o ∷ os) d k (suc i) t h p =
    let e = or_no (rests (id_of o) (line_of os)) (id_twice (line_of os)) t in
    go (same_id (id_of o) d) refl e.0 (first_is os d (k + 1) i e.1 (omega arith) p)
  where
    go : (b : Bool) → same_id (id_of o) d ≡ b → rests (id_of o) (line_of os) ≡ false → find_row os d (k + 1) ≡ Some (k + 1 + i)
        → cond b (Some k) (find_row os d (k + 1)) ≡ Some (k + suc i)
    go true q n ih =
        absurd_bool (sym (rests_at os d i (omega arith) p) ∙ ap (λ (x : OrderId). rests x (line_of os)) (sym (same_id-eq (id_of o) d q)) ∙ n)
    go false q n ih = ih ∙ ap Some (let z : k + 1 + i ≡ k + suc i = omega arith in z)

-- the same of a row
pub near_is : (ws : List ℕ) (n i : ℕ) (d : OrderId) → id_twice (line_of (rows_of ws n)) ≡ false → i < n → same_id (id_of (row_at ws i)) d ≡ true
    → Some i ≡ find_row (rows_of ws n) d 0
near_is ws n i d t h p =
    let e : get_or (rows_of ws n) i empty_row ≡ row_at ws i = get_d_rows ws n i empty_row h in
    sym (first_is (rows_of ws n) d 0 i t (omega (arith, length-rows ws 0 n)) (ap (λ (o : Resting). same_id (id_of o) d) e ∙ p) ∙ ap Some (zero-add i))

-- an id whose bucket has no place is not marked
pub no_place : (places : List ℕ) (d : OrderId) → 0 < length places → get_or places (bucket_of (key_for d) (length places)) 0 ≡ 0 → marked places d ≡ false
unfolding marked
no_place places d h e = or_both _ _ (ne_eqb (length places) 0 (λ z. omega (arith, h, z))) (rw e)

-- a place given to one id takes none away
place_kept : (l : List ℕ) (i j k : ℕ) → 0 < get_or l j 0 → 0 < get_or (set l i (suc k)) j 0
place_kept [] i j k h = h
place_kept (x ∷ l) zero zero k h = omega arith
place_kept (x ∷ l) zero (suc j) k h = h
place_kept (x ∷ l) (suc i) zero k h = h
place_kept (x ∷ l) (suc i) (suc j) k h = place_kept l i j k h

module _ (places : List ℕ) (k : ℕ) (d : OrderId) where
  at-kept : (e : OrderId) (z : Bool) → (z || ltb 0 (get_or places (bucket_of (key_for e) (length places)) 0)) ≡ true
      → (z || ltb 0 (get_or (set places (bucket_of (key_for d) (length places)) (suc k)) (bucket_of (key_for e) (length places)) 0)) ≡ true
  at-kept e true h = refl
  at-kept e false h = lt-ltb _ _ (place_kept places _ _ k (ltb-true _ _ h))

  pub marked-kept : (e : OrderId) → marked places e ≡ true → marked (marked_at places k d) e ≡ true
  unfolding marked marked_at
  marked-kept e h = rw (add-one k, length-set places (bucket_of (key_for d) (length places)) (suc k)) (at-kept e (eqb (length places) 0) h)

  at_now : (z : Bool) → eqb (length places) 0 ≡ z
      → (z || ltb 0 (get_or (set places (bucket_of (key_for d) (length places)) (suc k)) (bucket_of (key_for d) (length places)) 0)) ≡ true
  at_now true e = refl
  at_now false e =
      let n = eqb-false (length places) 0 e in
      rw (get_or-set_same places (bucket_of (key_for d) (length places)) (suc k) 0 (bucket_lt (key_for d) (length places) (omega (arith, n))))
      (lt-ltb 0 (suc k) (omega arith))

  pub marked_now : marked (marked_at places k d) d ≡ true
  unfolding marked marked_at
  marked_now = rw (add-one k, length-set places (bucket_of (key_for d) (length places)) (suc k)) (at_now (eqb (length places) 0) refl)

pub marks-kept : (places : List ℕ) (k : ℕ) (d : OrderId) (os : List Resting) → all (row_marked places) os ≡ true → all (row_marked (marked_at places k d)) os ≡ true
marks-kept places k d os h = all_weaker (row_marked places) (row_marked (marked_at places k d)) (λ o. marked-kept places k d (id_of o)) os h

-- rows marked one by one
pub marks-none : (ws places : List ℕ) → all (row_marked places) (rows_of ws 0) ≡ true
unfolding rows_from
marks-none ws places = refl

pub marks-next : (ws : List ℕ) (i : ℕ) (o : Resting) (places next : List ℕ) → o ≡ row_at ws i → next ≡ marked_at places i (id_of o)
    → all (row_marked places) (rows_of ws i) ≡ true → all (row_marked next) (rows_of ws (i + 1)) ≡ true
marks-next ws i o places next e q h =
    rw (rows-around ws (i + 1) i (omega arith), rows-done ws (i + 1) (i + 1) (omega arith), ← e, q)
    (all-joined (row_marked (marked_at places i (id_of o))) (rows_of ws i) o (marks-kept places i (id_of o) (rows_of ws i) h) (marked_now places i (id_of o)))

-- ---- bounds

-- the larger, and the smaller, of two
raised : (a b q : ℕ) → leb q a ≡ true → leb q (cond (ltb a b) b a) ≡ true
raised a b q h = go (ltb a b) refl
  where
    go : (t : Bool) → ltb a b ≡ t → leb q (cond t b a) ≡ true
    go true e = le-leb q b (omega (arith, ltb-true a b e, leb-true q a h))
    go false e = h

lowered : (a b q : ℕ) → leb a q ≡ true → leb (cond (ltb b a) b a) q ≡ true
lowered a b q h = go (ltb b a) refl
  where
    go : (t : Bool) → ltb b a ≡ t → leb (cond t b a) q ≡ true
    go true e = le-leb b q (omega (arith, ltb-true b a e, leb-true a q h))
    go false e = h

pub bounded-kept : (b : Bounds) (s : L3Side) (p : ℕ) (t : L3Side) (q : ℕ) → bounded (Some b) t q ≡ true → bounded (Some (widened b s p)) t q ≡ true
unfolding bounded widened
bounded-kept b Buy p Buy q h = raised b.high_bid p q h
bounded-kept b Buy p Sell q h = h
bounded-kept b Sell p Buy q h = h
bounded-kept b Sell p Sell q h = lowered b.low_ask p q h

raised_now : (a b : ℕ) (t : Bool) → ltb a b ≡ t → leb b (cond t b a) ≡ true
raised_now a b true e = le-leb b b (omega arith)
raised_now a b false e = le-leb b a (ltb-false a b e)

lowered_now : (a b : ℕ) (t : Bool) → ltb b a ≡ t → leb (cond t b a) b ≡ true
lowered_now a b true e = le-leb b b (omega arith)
lowered_now a b false e = le-leb a b (ltb-false b a e)

pub bounded_now : (b : Bounds) (s : L3Side) (p : ℕ) → bounded (Some (widened b s p)) s p ≡ true
unfolding bounded widened
bounded_now b Buy p = raised_now b.high_bid p (ltb b.high_bid p) refl
bounded_now b Sell p = lowered_now b.low_ask p (ltb p b.low_ask) refl

pub within-kept : (b : Bounds) (s : L3Side) (p : ℕ) (os : List Resting) → all (row_bounded (Some b)) os ≡ true → all (row_bounded (Some (widened b s p))) os ≡ true
within-kept b s p os h =
    all_weaker (row_bounded (Some b)) (row_bounded (Some (widened b s p))) (λ o. bounded-kept b s p (side_of o.kind) o.price) os h

-- an open that is clear of them does not cross
module _ (b : Bounds) (p : ℕ) where
  above : (x : ℕ) (r : Option ℕ) → p < b.low_ask → bounded (Some b) Sell x ≡ true → meet (Some p) r ≡ false → meet (Some p) (better Sell x r) ≡ false
  unfolding bounded
  above x r lt h m = go r (leb-true b.low_ask x h) m
    where
      go : (r : Option ℕ) → b.low_ask ≤ x → meet (Some p) r ≡ false → meet (Some p) (better Sell x r) ≡ false
      go None q m = lt-leb x p (omega arith)
      go (Some y) q m = pick (ltb x y)
        where
          pick : (t : Bool) → leb (cond t x y) p ≡ false
          pick true = lt-leb x p (omega arith)
          pick false = m

  below : (x : ℕ) (r : Option ℕ) → b.high_bid < p → bounded (Some b) Buy x ≡ true → meet r (Some p) ≡ false → meet (better Buy x r) (Some p) ≡ false
  unfolding bounded
  below x r lt h m = go r (leb-true x b.high_bid h) m
    where
      go : (r : Option ℕ) → x ≤ b.high_bid → meet r (Some p) ≡ false → meet (better Buy x r) (Some p) ≡ false
      go None q m = lt-leb p x (omega arith)
      go (Some y) q m = pick (ltb y x)
        where
          pick : (t : Bool) → leb p (cond t x y) ≡ false
          pick true = lt-leb p x (omega arith)
          pick false = m

  sells : p < b.low_ask → (os : List Resting) → all (row_bounded (Some b)) os ≡ true → meet (Some p) (best Sell (line_of os)) ≡ false
  sells lt [] h = refl
  sells lt (o ∷ os) h =
      let d = and_yes (row_bounded (Some b) o) (all (row_bounded (Some b)) os) h in
      go (side_of o.kind) d.0 (sells lt os d.1)
    where
      go : (s : L3Side) → bounded (Some b) s o.price ≡ true → meet (Some p) (best Sell (line_of os)) ≡ false
          → meet (Some p) (cond (same_side s Sell) (better Sell o.price (best Sell (line_of os))) (best Sell (line_of os))) ≡ false
      go Buy q ih = ih
      go Sell q ih = above o.price (best Sell (line_of os)) lt q ih

  buys : b.high_bid < p → (os : List Resting) → all (row_bounded (Some b)) os ≡ true → meet (best Buy (line_of os)) (Some p) ≡ false
  buys lt [] h = refl
  buys lt (o ∷ os) h =
      let d = and_yes (row_bounded (Some b) o) (all (row_bounded (Some b)) os) h in
      go (side_of o.kind) d.0 (buys lt os d.1)
    where
      go : (s : L3Side) → bounded (Some b) s o.price ≡ true → meet (best Buy (line_of os)) (Some p) ≡ false
          → meet (cond (same_side s Buy) (better Buy o.price (best Buy (line_of os))) (best Buy (line_of os))) (Some p) ≡ false
      go Sell q ih = ih
      go Buy q ih = below o.price (best Buy (line_of os)) lt q ih

pub clear_apart : (b : Option Bounds) (s : L3Side) (p : ℕ) (os : List Resting) → all (row_bounded b) os ≡ true → clears b s p ≡ true → would_cross s p (line_of os) ≡ false
unfolding clears clear_of
clear_apart None s p os h q = absurd_bool (sym q)
clear_apart (Some b) Buy p os h q = sells b p (ltb-true p b.low_ask q) os h
clear_apart (Some b) Sell p os h q = buys b p (ltb-true b.high_bid p q) os h
