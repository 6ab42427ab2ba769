-- What a number of distinct keys says of ids and of levels.
-- Assumes nothing.
use Rattle.std.specs.Prelude.{Option, Some}
use Prim.Native.Nat.{ℕ, suc, ◌+◌, ◌%◌, ◌≤◌}
use mathlib.Core.Path.{◌≡◌, refl, sym, ap, ap₂, ◌∙◌}
use mathlib.Core.Bool.{Bool, true, false, not, ◌&&◌, ◌||◌, cond}
use mathlib.Core.List.{List, [], ◌∷◌}
use native.Mathlib.Omega.{arith}
use lib.Dec.{eqb}
use lib.ListN.{length}
use borrow.Author.Tests.{eqb-true, eqb-false, eq-eqb, ne_eqb}
use Rattle.laws.proofs.Bools.{eqb_suc}
use Rattle.message.specs.declared.L3Side.{L3Side}
use Rattle.message.specs.declared.L3Side.TheVariants.{Buy, Sell}
use Rattle.message.specs.Same.{same_side, same_id}
use Rattle.book.specs.declared.Resting.{Resting}
use Rattle.book.specs.Line.{Entry, present, find, rests, has_level, levels, side_levels}
use Rattle.book.specs.Rows.{side_of, id_of, entry_of, line_of}
use Rattle.book.specs.Broken.{id_twice}
use Rattle.book_row_keys.specs.declared.Key.{Key}
use Rattle.book_row_keys.specs.declared.KeyKind.TheVariants.{Id, Level, LevelOf}
use Rattle.book_row_keys.specs.Keys.{key_of, same_key, has_key, count_keys}
use Rattle.book_keys.specs.Others.{some_other}

-- ---- ids

rests_key : (o : Resting) (os : List Resting) → rests (id_of o) (line_of os) ≡ has_key (key_of Id) (key_of Id o) os
unfolding same_id
rests_key o [] = refl
rests_key o (a ∷ os) =
    go (eqb a.high o.high && eqb a.low o.low) (find (id_of o) (line_of os))
    ∙ ap (λ (x : Bool). (eqb a.high o.high && eqb a.low o.low) || x) (rests_key o os)
  where
    go : (b : Bool) (x : Option Entry) → present (cond b (Some (entry_of a)) x) ≡ (b || present x)
    go true x = refl
    go false x = refl

count_le : (f : Resting → Key) (l : List Resting) → count_keys f l ≤ length l
count_le f [] = omega arith
count_le f (o ∷ os) = go (has_key f (f o) os) (count_le f os)
  where
    go : (b : Bool) → count_keys f os ≤ length os → cond b (count_keys f os) (suc (count_keys f os)) ≤ suc (length os)
    go true ih = omega arith
    go false ih = omega arith

-- an id rests twice exactly where there are fewer ids than orders
pub twice_keys : (os : List Resting) → id_twice (line_of os) ≡ not (eqb (count_keys (key_of Id) os) (length os))
twice_keys [] = refl
twice_keys (o ∷ os) =
    ap₂ ◌||◌ (rests_key o os) (twice_keys os) ∙ go (has_key (key_of Id) (key_of Id o) os)
  where
    go : (b : Bool) → (b || not (eqb (count_keys (key_of Id) os) (length os))) ≡ not (eqb (cond b (count_keys (key_of Id) os) (suc (count_keys (key_of Id) os))) (suc (length os)))
    go true = sym (ap not (ne_eqb (count_keys (key_of Id) os) (suc (length os)) (λ q. omega (arith, q, count_le (key_of Id) os))))
    go false = ap not (eqb_suc (count_keys (key_of Id) os) (length os))

-- ---- levels

side_key : (a b : ℕ) → same_side (side_of a) (side_of b) ≡ eqb (a % 2) (b % 2)
unfolding side_of
side_key a b = go (eqb (a % 2) 0) (eqb (b % 2) 0) refl refl
  where
    go : (s t : Bool) → eqb (a % 2) 0 ≡ s → eqb (b % 2) 0 ≡ t → same_side (cond s Buy Sell) (cond t Buy Sell) ≡ eqb (a % 2) (b % 2)
    go true true p q = sym (eq-eqb (a % 2) (b % 2) (eqb-true (a % 2) 0 p ∙ sym (eqb-true (b % 2) 0 q)))
    go true false p q = sym (ne_eqb (a % 2) (b % 2) (λ e. eqb-false (b % 2) 0 q (sym e ∙ eqb-true (a % 2) 0 p)))
    go false true p q = sym (ne_eqb (a % 2) (b % 2) (λ e. eqb-false (a % 2) 0 p (e ∙ eqb-true (b % 2) 0 q)))
    go false false p q =
        let x : a % 2 ≡ 0 → ⊥ = eqb-false (a % 2) 0 p in
        let y : b % 2 ≡ 0 → ⊥ = eqb-false (b % 2) 0 q in
        sym (eq-eqb (a % 2) (b % 2) (omega (arith, x, y)))

level_key : (o : Resting) (os : List Resting) → has_level (side_of o.kind) o.price (line_of os) ≡ has_key (key_of Level) (key_of Level o) os
level_key o [] = refl
level_key o (a ∷ os) =
    ap₂ ◌||◌ (ap (λ (x : Bool). x && eqb a.price o.price) (side_key a.kind o.kind)) (level_key o os)

pub levels_keys : (os : List Resting) → levels (line_of os) ≡ count_keys (key_of Level) os
levels_keys [] = refl
levels_keys (o ∷ os) =
    ap₂ (λ (b : Bool) (x : ℕ). cond b x (suc x)) (level_key o os) (levels_keys os)

-- ---- levels of a side

side-level_key : (s : L3Side) (p : ℕ) (os : List Resting) → has_key (key_of (LevelOf s)) (record { high = 1; low = p }) os ≡ has_level s p (line_of os)
side-level_key s p [] = refl
side-level_key s p (o ∷ os) = ap₂ ◌||◌ (go (same_side (side_of o.kind) s)) (side-level_key s p os)
  where
    go : (b : Bool) → same_key (cond b (record { high = 1; low = o.price }) (record { high = 0; low = 0 })) (record { high = 1; low = p }) ≡ (b && eqb o.price p)
    go true = refl
    go false = refl

other_key : (s : L3Side) (os : List Resting) → has_key (key_of (LevelOf s)) (record { high = 0; low = 0 }) os ≡ some_other s os
other_key s [] = refl
other_key s (o ∷ os) = ap₂ ◌||◌ (go (same_side (side_of o.kind) s)) (other_key s os)
  where
    go : (b : Bool) → same_key (cond b (record { high = 1; low = o.price }) (record { high = 0; low = 0 })) (record { high = 0; low = 0 }) ≡ not b
    go true = refl
    go false = refl

-- the others have one key together
pub side_keys : (s : L3Side) (os : List Resting) → count_keys (key_of (LevelOf s)) os ≡ side_levels s (line_of os) + cond (some_other s os) 1 0
side_keys s [] = refl
side_keys s (o ∷ os) = go (same_side (side_of o.kind) s) (side_keys s os)
  where
    more : (b : Bool) (n x : ℕ) → cond b (n + x) (suc (n + x)) ≡ cond b n (suc n) + x
    more true n x = refl
    more false n x = omega arith

    one : (b : Bool) (n : ℕ) → cond b (n + cond b 1 0) (suc (n + cond b 1 0)) ≡ n + 1
    one true n = refl
    one false n = omega arith

    go : (b : Bool) → count_keys (key_of (LevelOf s)) os ≡ side_levels s (line_of os) + cond (some_other s os) 1 0
        → cond (has_key (key_of (LevelOf s)) (cond b (record { high = 1; low = o.price }) (record { high = 0; low = 0 })) os) (count_keys (key_of (LevelOf s)) os) (suc (count_keys (key_of (LevelOf s)) os))
        ≡ cond b (cond (has_level s o.price (line_of os)) (side_levels s (line_of os)) (suc (side_levels s (line_of os)))) (side_levels s (line_of os)) + cond (not b || some_other s os) 1 0
    go true ih =
        rw (side-level_key s o.price os, ih) (more (has_level s o.price (line_of os)) (side_levels s (line_of os)) (cond (some_other s os) 1 0))
    go false ih = rw (other_key s os, ih) (one (some_other s os) (side_levels s (line_of os)))
