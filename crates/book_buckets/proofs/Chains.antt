-- Laws of chains: walking a chain visits every row that can have the key.
-- Assumes nothing.
use Prim.Native.Nat.{ℕ, zero, suc, ◌+◌, ◌*◌, ◌-◌, ◌<◌, ◌≤◌}
use mathlib.Core.Path.{◌≡◌, refl, sym, ap, ◌∙◌}
use mathlib.Core.Bool.{Bool, true, false, ◌||◌, cond}
use mathlib.Core.List.{List, [], ◌∷◌}
use native.Mathlib.Omega.{arith}
use native.Mathlib.Numerals.{add-one}
use native.Mathlib.Nat.{mul-lt-mul_of_pos_right}
use lib.Dec.{eqb}
use lib.ListN.{length, get_or, set, replicate, length-replicate, get_or-replicate}
use lib.Seq.{get_or-set_same, get_or-set_other}
use borrow.Author.Tests.{eqb-true, eqb-false, eq-eqb}
use Rattle.laws.proofs.Bools.{and_yes}
use Rattle.book.specs.declared.Resting.{Resting}
use Rattle.book.specs.Rows.{row_at, rows_from, rows_of}
use Rattle.book.proofs.Rows.{length-rows}
use Rattle.book_row_keys.specs.declared.Key.{Key}
use Rattle.book_row_keys.specs.declared.KeyKind.{KeyKind}
use Rattle.book_row_keys.specs.Keys.{key_of, same_key, has_key, count_keys}
use Rattle.book_buckets.specs.Buckets.{rest_of, spread_of, bucket_of, skip_to, link_of, Headed, Chained, Empty}

key_path : {a b : Key} → a.high ≡ b.high → a.low ≡ b.low → a ≡ b
key_path p q = λ k. record { high = p k; low = q k }

pub same_eq : (a b : Key) → same_key a b ≡ true → a ≡ b
same_eq a b h =
    let d = and_yes (eqb a.high b.high) (eqb a.low b.low) h in
    key_path (eqb-true _ _ d.0) (eqb-true _ _ d.1)

-- the last rows, one more
pub rest-step : (ws : List ℕ) (n j v : ℕ) → j ≡ suc v → j ≤ n → rest_of ws n j ≡ row_at ws (n - j) ∷ rest_of ws n v
unfolding rows_from
rest-step ws n j v e h =
    let p : n - suc v + 1 ≡ n - v = omega arith in
    rw (e, p)

pub rest-none : (ws : List ℕ) (n : ℕ) → rest_of ws n 0 ≡ []
unfolding rows_from
rest-none ws n = refl

pub length_rest : (ws : List ℕ) (n k : ℕ) → length (rest_of ws n k) ≡ k
length_rest ws n k = length-rows ws (n - k) k

pub spread_lt : (key : Key) → spread_of key < 4294967296
unfolding spread_of
spread_lt key = omega arith

pub product_lt : (s m : ℕ) → s < 4294967296 → 0 < m → s * m < m * 4294967296
product_lt s m h p = omega (arith, mul-lt-mul_of_pos_right h p)

pub bucket_lt : (key : Key) (m : ℕ) → 0 < m → bucket_of key m < m
unfolding bucket_of
bucket_lt key m p = omega (arith, product_lt (spread_of key) m (spread_lt key) p)

module _ (kind : KeyKind) (m b : ℕ) where
  -- what is skipped cannot have a key of the bucket
  pub skip_has : (key : Key) → bucket_of key m ≡ b → (l : List Resting) → has_key (key_of kind) key l ≡ has_key (key_of kind) key (skip_to kind m b l)
  skip_has key e [] = refl
  skip_has key e (o ∷ os) = go (eqb (bucket_of (key_of kind o) m) b) (same_key (key_of kind o) key) refl refl (skip_has key e os)
    where
      go : (s t : Bool) → eqb (bucket_of (key_of kind o) m) b ≡ s → same_key (key_of kind o) key ≡ t
          → has_key (key_of kind) key os ≡ has_key (key_of kind) key (skip_to kind m b os)
          → (t || has_key (key_of kind) key os) ≡ has_key (key_of kind) key (cond s (o ∷ os) (skip_to kind m b os))
      go true t p q ih = rw q
      go false false p q ih = ih
      go false true p q ih =
          let k : key_of kind o ≡ key = same_eq _ _ q in
          let z : eqb (bucket_of (key_of kind o) m) b ≡ true = eq-eqb _ _ (ap (λ x. bucket_of x m) k ∙ e) in
          cc

  pub skip-headed : (l : List Resting) → Headed kind m b (skip_to kind m b l)
  skip-headed [] = tt
  skip-headed (o ∷ os) = go (eqb (bucket_of (key_of kind o) m) b) refl (skip-headed os)
    where
      go : (s : Bool) → eqb (bucket_of (key_of kind o) m) b ≡ s → Headed kind m b (skip_to kind m b os)
          → Headed kind m b (cond s (o ∷ os) (skip_to kind m b os))
      go true p ih = eqb-true _ _ p
      go false p ih = ih

  pub link_le : (l : List Resting) → link_of kind m b l ≤ length l
  link_le [] = omega arith
  link_le (o ∷ os) = go (eqb (bucket_of (key_of kind o) m) b) (link_le os)
    where
      go : (s : Bool) → link_of kind m b os ≤ length os → length (cond s (o ∷ os) (skip_to kind m b os)) ≤ suc (length os)
      go true ih = omega arith
      go false ih = omega arith

  -- a link leads to what it was made of
  pub skip-rest : (ws : List ℕ) (n k : ℕ) → k ≤ n → rest_of ws n (link_of kind m b (rest_of ws n k)) ≡ skip_to kind m b (rest_of ws n k)
  skip-rest ws n zero h = rw (rest-none ws n) (rest-none ws n)
  skip-rest ws n (suc k) h =
      let step : rest_of ws n (suc k) ≡ row_at ws (n - suc k) ∷ rest_of ws n k = rest-step ws n (suc k) k refl h in
      rw step (go (eqb (bucket_of (key_of kind (row_at ws (n - suc k))) m) b) step (skip-rest ws n k (omega arith)))
    where
      go : (s : Bool) → rest_of ws n (suc k) ≡ row_at ws (n - suc k) ∷ rest_of ws n k
          → rest_of ws n (link_of kind m b (rest_of ws n k)) ≡ skip_to kind m b (rest_of ws n k)
          → rest_of ws n (length (cond s (row_at ws (n - suc k) ∷ rest_of ws n k) (skip_to kind m b (rest_of ws n k))))
          ≡ cond s (row_at ws (n - suc k) ∷ rest_of ws n k) (skip_to kind m b (rest_of ws n k))
      go true step ih = rw (length_rest ws n k) step
      go false step ih = ih

-- a turn of the walk, at the link j = v + 1, in the chain of the key's bucket
module _ (ws : List ℕ) (n : ℕ) (kind : KeyKind) (m : ℕ) (key : Key) (next : List ℕ) (j v : ℕ) (e : j ≡ suc v) (h : j ≤ n)
    (ch : (u : ℕ) → u < j → get_or next u 0 ≡ link_of kind m (bucket_of (key_of kind (row_at ws (n - suc u))) m) (rest_of ws n u))
    (hd : Headed kind m (bucket_of key m) (rest_of ws n j)) where
  bucket-here : bucket_of (key_of kind (row_at ws (n - j))) m ≡ bucket_of key m
  bucket-here = rw (rest-step ws n j v e h) at hd

  next_link : get_or next v 0 ≡ link_of kind m (bucket_of key m) (rest_of ws n v)
  next_link =
      ch v (omega arith)
      ∙ ap (λ x. link_of kind m (bucket_of (key_of kind (row_at ws (n - x))) m) (rest_of ws n v)) (sym e)
      ∙ ap (λ x. link_of kind m x (rest_of ws n v)) bucket-here

  walk_le : get_or next v 0 ≤ v
  walk_le = omega (arith, next_link, link_le kind m (bucket_of key m) (rest_of ws n v), length_rest ws n v)

  walk-rest : rest_of ws n (get_or next v 0) ≡ skip_to kind m (bucket_of key m) (rest_of ws n v)
  walk-rest = ap (rest_of ws n) next_link ∙ skip-rest kind m (bucket_of key m) ws n v (omega arith)

  walk-headed : Headed kind m (bucket_of key m) (rest_of ws n (get_or next v 0))
  walk-headed = rw walk-rest (skip-headed kind m (bucket_of key m) (rest_of ws n v))

  walk-miss : same_key (key_of kind (row_at ws (n - j))) key ≡ false
      → has_key (key_of kind) key (rest_of ws n j) ≡ has_key (key_of kind) key (rest_of ws n (get_or next v 0))
  walk-miss p = rw (rest-step ws n j v e h, p, walk-rest) (skip_has kind m (bucket_of key m) key refl (rest_of ws n v))

  walk_hit : same_key (key_of kind (row_at ws (n - j))) key ≡ true → has_key (key_of kind) key (rest_of ws n j) ≡ true
  walk_hit p = rw (rest-step ws n j v e h, p)

-- what a walk that has come to link j knows of the next link
pub record Turn (ws : List ℕ) (n : ℕ) (kind : KeyKind) (m : ℕ) (key : Key) (next : List ℕ) (j : ℕ) : Type 0 where
  pub less : get_or next (j - 1) 0 < j
  pub headed : Headed kind m (bucket_of key m) (rest_of ws n (get_or next (j - 1) 0))
  pub hit : same_key (key_of kind (row_at ws (n - j))) key ≡ true → has_key (key_of kind) key (rest_of ws n j) ≡ true
  pub miss : same_key (key_of kind (row_at ws (n - j))) key ≡ false
      → has_key (key_of kind) key (rest_of ws n j) ≡ has_key (key_of kind) key (rest_of ws n (get_or next (j - 1) 0))

pub turn : (ws : List ℕ) (n : ℕ) (kind : KeyKind) (m : ℕ) (key : Key) (next : List ℕ) (first j : ℕ) → 0 < j → j ≤ first → first ≤ n
    → Chained ws n kind m next first → Headed kind m (bucket_of key m) (rest_of ws n j) → Turn ws n kind m key next j
turn ws n kind m key next first j p q h ch hd =
    let e : j ≡ suc (j - 1) = omega arith in
    let ch' : (u : ℕ) → u < j → get_or next u 0 ≡ link_of kind m (bucket_of (key_of kind (row_at ws (n - suc u))) m) (rest_of ws n u) =
    λ u hu. ch u (omega arith) in
    record {
      less = omega (arith, walk_le ws n kind m key next j (j - 1) e (omega arith) ch' hd);
      headed = walk-headed ws n kind m key next j (j - 1) e (omega arith) ch' hd;
      hit = walk_hit ws n kind m key next j (j - 1) e (omega arith) ch' hd;
      miss = walk-miss ws n kind m key next j (j - 1) e (omega arith) ch' hd;
    }

pub rest-next : (ws : List ℕ) (n k : ℕ) → k < n → rest_of ws n (k + 1) ≡ row_at ws (n - (k + 1)) ∷ rest_of ws n k
rest-next ws n k h = rest-step ws n (k + 1) k (add-one k) (omega arith)

pub rest_all : (ws : List ℕ) (n k : ℕ) → k ≡ n → rest_of ws n k ≡ rows_of ws n
rest_all ws n k e = let z : n - n ≡ 0 = omega arith in rw (e, z)

-- each bucket has its link to the last k rows
abbrev pub Heads : List ℕ → ℕ → KeyKind → ℕ → List ℕ → ℕ → Type 0
Heads ws n kind m heads k = (b : ℕ) → b < m → get_or heads b 0 ≡ link_of kind m b (rest_of ws n k)

pub empty-zeros : (k : ℕ) → Empty (replicate {A = ℕ} k 0)
empty-zeros k b h = get_or-replicate {A = ℕ} k b 0 0 (omega (arith, length-replicate {A = ℕ} k 0))

-- no row is linked yet
pub heads-none : (ws : List ℕ) (n : ℕ) (kind : KeyKind) (m : ℕ) (heads : List ℕ) → Empty heads → m ≤ length heads → Heads ws n kind m heads 0
heads-none ws n kind m heads e h b hb = rw (rest-none ws n) (e b (omega arith))

-- a turn: row n - (k + 1), with the key `key`, goes into its bucket b
module _ (ws : List ℕ) (n : ℕ) (kind : KeyKind) (m k b : ℕ) (key : Key) (h : k < n)
    (ek : key ≡ key_of kind (row_at ws (n - (k + 1)))) (eb : b ≡ bucket_of key m) where
  bucket_is : bucket_of (key_of kind (row_at ws (n - (k + 1)))) m ≡ b
  bucket_is = ap (λ x. bucket_of x m) (sym ek) ∙ sym eb

  heads-next : (heads : List ℕ) → Heads ws n kind m heads k → b < length heads → Heads ws n kind m (set heads b (k + 1)) (k + 1)
  heads-next heads hs hb c hc = rw (rest-next ws n k h, bucket_is) (go (eqb b c) refl)
    where
      go : (t : Bool) → eqb b c ≡ t
          → get_or (set heads b (k + 1)) c 0 ≡ length (cond t (row_at ws (n - (k + 1)) ∷ rest_of ws n k) (skip_to kind m c (rest_of ws n k)))
      go true p =
          let q : c ≡ b = sym (eqb-true _ _ p) in
          rw (q, get_or-set_same heads b (k + 1) 0 hb, length_rest ws n k, add-one k)
      go false p = get_or-set_other heads b c (k + 1) 0 (λ q. eqb-false b c p (sym q)) ∙ hs c hc

  chain_next : (next : List ℕ) (link : ℕ) → Chained ws n kind m next k → k < length next → link ≡ link_of kind m b (rest_of ws n k)
      → Chained ws n kind m (set next k link) (k + 1)
  chain_next next link ch hk el v hv = go (eqb v k) refl
    where
      go : (t : Bool) → eqb v k ≡ t
          → get_or (set next k link) v 0 ≡ link_of kind m (bucket_of (key_of kind (row_at ws (n - suc v))) m) (rest_of ws n v)
      go true p =
          let q : v ≡ k = eqb-true _ _ p in
          rw (q, get_or-set_same next k link 0 hk, ← (add-one k), bucket_is) el
      go false p =
          let q : v ≡ k → ⊥ = eqb-false _ _ p in
          get_or-set_other next k v link 0 q ∙ ch v (omega (arith, q))

  -- what the walk is handed
  first_le : (link : ℕ) → link ≡ link_of kind m b (rest_of ws n k) → link ≤ k
  first_le link el = omega (arith, el, link_le kind m b (rest_of ws n k), length_rest ws n k)

  first-headed : (link : ℕ) → link ≡ link_of kind m b (rest_of ws n k) → Headed kind m (bucket_of key m) (rest_of ws n link)
  first-headed link el = rw (el, skip-rest kind m b ws n k (omega arith), ← eb) (skip-headed kind m b (rest_of ws n k))

  -- what it answers
  first_has : (link : ℕ) → link ≡ link_of kind m b (rest_of ws n k)
      → has_key (key_of kind) key (rest_of ws n link) ≡ has_key (key_of kind) (key_of kind (row_at ws (n - (k + 1)))) (rest_of ws n k)
  first_has link el =
      rw (el, skip-rest kind m b ws n k (omega arith), ← ek) (sym (skip_has kind m b key (sym eb) (rest_of ws n k)))

  count_old : has_key (key_of kind) (key_of kind (row_at ws (n - (k + 1)))) (rest_of ws n k) ≡ true
      → count_keys (key_of kind) (rest_of ws n (k + 1)) ≡ count_keys (key_of kind) (rest_of ws n k)
  count_old p = rw (rest-next ws n k h, p)

  count_new : has_key (key_of kind) (key_of kind (row_at ws (n - (k + 1)))) (rest_of ws n k) ≡ false
      → count_keys (key_of kind) (rest_of ws n (k + 1)) ≡ suc (count_keys (key_of kind) (rest_of ws n k))
  count_new p = rw (rest-next ws n k h, p)

-- what is known once the row before the last k has its key and bucket, and the bucket's link is read
pub record Link (ws : List ℕ) (n : ℕ) (kind : KeyKind) (m : ℕ) (heads next : List ℕ) (k b : ℕ) (key : Key) (link : ℕ) : Type 0 where
  pub within : link ≤ k
  pub headed : Headed kind m (bucket_of key m) (rest_of ws n link)
  pub old : has_key (key_of kind) key (rest_of ws n link) ≡ true → count_keys (key_of kind) (rest_of ws n (k + 1)) ≡ count_keys (key_of kind) (rest_of ws n k)
  pub new : has_key (key_of kind) key (rest_of ws n link) ≡ false → count_keys (key_of kind) (rest_of ws n (k + 1)) ≡ suc (count_keys (key_of kind) (rest_of ws n k))
  pub heads-then : Heads ws n kind m (set heads b (k + 1)) (k + 1)
  pub chained-then : Chained ws n kind m (set next k link) (k + 1)

pub linked : (ws : List ℕ) (n : ℕ) (kind : KeyKind) (m : ℕ) (heads next : List ℕ) (k b : ℕ) (key : Key) → k < n → key ≡ key_of kind (row_at ws (n - (k + 1)))
    → b ≡ bucket_of key m → b < m → m ≤ length heads → k < length next → Heads ws n kind m heads k → Chained ws n kind m next k
    → Link ws n kind m heads next k b key (get_or heads b 0)
linked ws n kind m heads next k b key h ek eb hb hm hk hs ch =
    let el : get_or heads b 0 ≡ link_of kind m b (rest_of ws n k) = hs b hb in
    let has = first_has ws n kind m k b key h ek eb (get_or heads b 0) el in
    record {
      within = first_le ws n kind m k b key h ek eb (get_or heads b 0) el;
      headed = first-headed ws n kind m k b key h ek eb (get_or heads b 0) el;
      old = λ p. count_old ws n kind m k b key h ek eb (sym has ∙ p);
      new = λ p. count_new ws n kind m k b key h ek eb (sym has ∙ p);
      heads-then = heads-next ws n kind m k b key h ek eb heads hs (omega arith);
      chained-then = chain_next ws n kind m k b key h ek eb next (get_or heads b 0) ch hk el;
    }
