-- What the tests of number 3 say of a line does not depend on where an order stands in it: each law brings an order to the front.
-- Assumes nothing.
use Rattle.std.specs.Prelude.{Option, Some, None}
use Prim.Native.Nat.{ℕ, suc, max, min, ◌≤◌}
use mathlib.Core.Path.{◌≡◌, refl, sym, ap, ap₂, ◌∙◌}
use mathlib.Core.Bool.{Bool, true, false, ◌&&◌, ◌||◌, cond}
use mathlib.Core.List.{List, [], ◌∷◌, ◌++◌, append-nil}
use native.Mathlib.Omega.{arith}
use lib.Dec.{eqb, ltb, leb}
use lib.ListN.{length}
use borrow.Author.Tests.{eqb-true, ltb-true, ltb-false, leb-true, leb-false, le-leb, lt-leb}
use Rattle.laws.proofs.Bools.{absurd_bool, or_swap, and_yes, eqb_swap}
use Rattle.message.specs.declared.L3Side.{L3Side}
use Rattle.message.specs.declared.L3Side.TheVariants.{Buy, Sell}
use Rattle.message.specs.declared.OrderId.{OrderId}
use Rattle.message.specs.Same.{same_side, same_id}
use Rattle.book.specs.Line.{Entry, find, present, rests, same_level, has_level, levels, ahead, better, best, meet, crossed, would_cross}
use Rattle.book.specs.Broken.{id_twice}

-- ---- ids

id_swap : (a b : OrderId) → same_id a b ≡ same_id b a
unfolding same_id
id_swap a b = ap₂ ◌&&◌ (eqb_swap a.high b.high) (eqb_swap a.low b.low)

-- resting, one order at a time
pub rests-front : (d : OrderId) (x : Entry) (l : List Entry) → rests d (x ∷ l) ≡ (same_id x.id d || rests d l)
rests-front d x l = go (same_id x.id d)
  where
    go : (b : Bool) → present (cond b (Some x) (find d l)) ≡ (b || rests d l)
    go true = refl
    go false = refl

rests-move : (d : OrderId) (b : List Entry) (x : Entry) (a : List Entry) → rests d (b ++ (x ∷ a)) ≡ (same_id x.id d || rests d (b ++ a))
rests-move d [] x a = rests-front d x a
rests-move d (y ∷ b) x a =
    rests-front d y (b ++ (x ∷ a))
    ∙ ap (λ (t : Bool). same_id y.id d || t) (rests-move d b x a)
    ∙ or_swap (same_id y.id d) (same_id x.id d) (rests d (b ++ a))
    ∙ ap (λ (t : Bool). same_id x.id d || t) (sym (rests-front d y (b ++ a)))

or_mix : (s p q r : Bool) → ((s || p) || (q || r)) ≡ ((s || q) || (p || r))
or_mix true p q r = refl
or_mix false p q r = or_swap p q r

pub twice-move : (b : List Entry) (x : Entry) (a : List Entry) → id_twice (b ++ (x ∷ a)) ≡ id_twice (x ∷ (b ++ a))
twice-move [] x a = refl
twice-move (y ∷ b) x a =
    ap₂ ◌||◌ (rests-move y.id b x a) (twice-move b x a)
    ∙ or_mix (same_id x.id y.id) (rests y.id (b ++ a)) (rests x.id (b ++ a)) (id_twice (b ++ a))
    ∙ ap (λ (t : Bool). (t || rests x.id (b ++ a)) || (rests y.id (b ++ a) || id_twice (b ++ a))) (id_swap x.id y.id)
    ∙ ap (λ (t : Bool). t || (rests y.id (b ++ a) || id_twice (b ++ a))) (sym (rests-front x.id y (b ++ a)))

-- ---- levels

pub same-sides : (a b : L3Side) → same_side a b ≡ true → a ≡ b
same-sides Buy Buy h = refl
same-sides Buy Sell h = absurd_bool (sym h)
same-sides Sell Buy h = absurd_bool (sym h)
same-sides Sell Sell h = refl

side_swap : (a b : L3Side) → same_side a b ≡ same_side b a
side_swap Buy Buy = refl
side_swap Buy Sell = refl
side_swap Sell Buy = refl
side_swap Sell Sell = refl

level_swap : (a b : Entry) → same_level a.side a.price b.side b.price ≡ same_level b.side b.price a.side a.price
level_swap a b = ap₂ ◌&&◌ (side_swap a.side b.side) (eqb_swap a.price b.price)

level-move : (s : L3Side) (p : ℕ) (b : List Entry) (x : Entry) (a : List Entry)
    → has_level s p (b ++ (x ∷ a)) ≡ (same_level x.side x.price s p || has_level s p (b ++ a))
level-move s p [] x a = refl
level-move s p (y ∷ b) x a =
    rw (level-move s p b x a)
    (or_swap (same_level y.side y.price s p) (same_level x.side x.price s p) (has_level s p (b ++ a)))

-- of one level: in any line they find the same
level_like : (a b : Entry) (l : List Entry) → same_level a.side a.price b.side b.price ≡ true
    → has_level a.side a.price l ≡ has_level b.side b.price l
level_like a b l h =
    let d = and_yes (same_side a.side b.side) (eqb a.price b.price) h in
    ap₂ (λ s p. has_level s p l) (same-sides a.side b.side d.0) (eqb-true a.price b.price d.1)

either_way : (s t u : Bool) (n : ℕ) → (s ≡ true → t ≡ u)
    → cond (s || u) (cond t n (suc n)) (suc (cond t n (suc n))) ≡ cond (s || t) (cond u n (suc n)) (suc (cond u n (suc n)))
either_way true t u n h = ap (λ x. cond x n (suc n)) (h refl)
either_way false true true n h = refl
either_way false true false n h = refl
either_way false false true n h = refl
either_way false false false n h = refl

pub levels-move : (b : List Entry) (x : Entry) (a : List Entry) → levels (b ++ (x ∷ a)) ≡ levels (x ∷ (b ++ a))
levels-move [] x a = refl
levels-move (y ∷ b) x a =
    rw (level-move y.side y.price b x a, levels-move b x a, level_swap x y)
    (either_way (same_level y.side y.price x.side x.price) (has_level x.side x.price (b ++ a)) (has_level y.side y.price (b ++ a))
    (levels (b ++ a))
    (λ h. sym (level_like y x (b ++ a) h)))

pub levels-drop : (x : Entry) (l : List Entry) → levels l ≤ levels (x ∷ l)
levels-drop x l = go (has_level x.side x.price l)
  where
    go : (b : Bool) → levels l ≤ cond b (levels l) (suc (levels l))
    go true = omega arith
    go false = omega arith

-- no more levels than orders
pub levels_most : (l : List Entry) → levels l ≤ length l
levels_most [] = omega arith
levels_most (x ∷ l) = go (has_level x.side x.price l) (levels_most l)
  where
    go : (b : Bool) → levels l ≤ length l → cond b (levels l) (suc (levels l)) ≤ suc (length l)
    go true ih = omega arith
    go false ih = omega arith

-- ---- best prices

-- the better of two prices is the greater buy, the lesser sell
abbrev pub ahead_of : L3Side → ℕ → ℕ → ℕ
ahead_of Buy p q = max p q
ahead_of Sell p q = min p q

pub ahead_is : (s : L3Side) (p q : ℕ) → cond (ahead s p q) p q ≡ ahead_of s p q
ahead_is Buy p q = go (ltb q p) refl
  where
    go : (b : Bool) → ltb q p ≡ b → cond b p q ≡ max p q
    go true e = omega (arith, ltb-true q p e)
    go false e = omega (arith, ltb-false q p e)
ahead_is Sell p q = go (ltb p q) refl
  where
    go : (b : Bool) → ltb p q ≡ b → cond b p q ≡ min p q
    go true e = omega (arith, ltb-true p q e)
    go false e = omega (arith, ltb-false p q e)

pub ahead_two : (s : L3Side) (p q : ℕ) → ahead_of s p q ≡ ahead_of s q p
ahead_two Buy p q = omega arith
ahead_two Sell p q = omega arith

ahead-three : (s : L3Side) (p q r : ℕ) → ahead_of s p (ahead_of s q r) ≡ ahead_of s q (ahead_of s p r)
ahead-three Buy p q r = omega arith
ahead-three Sell p q r = omega arith

better_swap : (s : L3Side) (p q : ℕ) (r : Option ℕ) → better s p (better s q r) ≡ better s q (better s p r)
better_swap s p q None = ap Some (ahead_is s p q ∙ ahead_two s p q ∙ sym (ahead_is s q p))
better_swap s p q (Some r) =
    ap Some
    (ap (λ x. cond (ahead s p x) p x) (ahead_is s q r)
    ∙ ahead_is s p (ahead_of s q r)
    ∙ ahead-three s p q r
    ∙ sym (ap (λ x. cond (ahead s q x) q x) (ahead_is s p r) ∙ ahead_is s q (ahead_of s p r)))

best-move : (s : L3Side) (b : List Entry) (x : Entry) (a : List Entry) → best s (b ++ (x ∷ a)) ≡ best s (x ∷ (b ++ a))
best-move s [] x a = refl
best-move s (y ∷ b) x a = rw (best-move s b x a) (go (same_side y.side s) (same_side x.side s) (best s (b ++ a)))
  where
    go : (t u : Bool) (r : Option ℕ)
        → cond t (better s y.price (cond u (better s x.price r) r)) (cond u (better s x.price r) r)
        ≡ cond u (better s x.price (cond t (better s y.price r) r)) (cond t (better s y.price r) r)
    go true true r = better_swap s y.price x.price r
    go true false r = refl
    go false true r = refl
    go false false r = refl

pub crossed-move : (b : List Entry) (x : Entry) (a : List Entry) → crossed (b ++ (x ∷ a)) ≡ crossed (x ∷ (b ++ a))
crossed-move b x a = ap₂ meet (best-move Buy b x a) (best-move Sell b x a)

-- a buy at a price meets where that price or the rest does
meet_buy : (p : ℕ) (b a : Option ℕ) → meet (better Buy p b) a ≡ (meet (Some p) a || meet b a)
meet_buy p None None = refl
meet_buy p None (Some a) = go (leb a p)
  where
    go : (t : Bool) → t ≡ (t || false)
    go true = refl
    go false = refl
meet_buy p (Some b) None = refl
meet_buy p (Some b) (Some a) = ap (leb a) (ahead_is Buy p b) ∙ go (leb a p) (leb a b) refl refl
  where
    go : (s t : Bool) → leb a p ≡ s → leb a b ≡ t → leb a (max p b) ≡ (s || t)
    go true t e f = le-leb a (max p b) (omega (arith, leb-true a p e))
    go false true e f = le-leb a (max p b) (omega (arith, leb-true a b f))
    go false false e f = lt-leb a (max p b) (omega (arith, leb-false a p e, leb-false a b f))

meet_sell : (p : ℕ) (b a : Option ℕ) → meet b (better Sell p a) ≡ (meet b (Some p) || meet b a)
meet_sell p None a = refl
meet_sell p (Some b) None = go (leb p b)
  where
    go : (t : Bool) → t ≡ (t || false)
    go true = refl
    go false = refl
meet_sell p (Some b) (Some a) = ap (λ x. leb x b) (ahead_is Sell p a) ∙ go (leb p b) (leb a b) refl refl
  where
    go : (s t : Bool) → leb p b ≡ s → leb a b ≡ t → leb (min p a) b ≡ (s || t)
    go true t e f = le-leb (min p a) b (omega (arith, leb-true p b e))
    go false true e f = le-leb (min p a) b (omega (arith, leb-true a b f))
    go false false e f = lt-leb (min p a) b (omega (arith, leb-false p b e, leb-false a b f))

-- an order more: it crosses, or the rest did
pub crossed-front : (x : Entry) (l : List Entry) → crossed (x ∷ l) ≡ (would_cross x.side x.price l || crossed l)
crossed-front x l = go x.side
  where
    go : (s : L3Side)
        → meet (cond (same_side s Buy) (better Buy x.price (best Buy l)) (best Buy l)) (cond (same_side s Sell) (better Sell x.price (best Sell l)) (best Sell l))
        ≡ (would_cross s x.price l || crossed l)
    go Buy = meet_buy x.price (best Buy l) (best Sell l)
    go Sell = meet_sell x.price (best Buy l) (best Sell l)

-- ---- an order that joins the back

pub twice-join : (l : List Entry) (x : Entry) → id_twice (l ++ (x ∷ [])) ≡ (rests x.id l || id_twice l)
twice-join l x = twice-move l x [] ∙ ap (λ (y : List Entry). id_twice (x ∷ y)) (append-nil l)

pub levels-join : (l : List Entry) (x : Entry) → levels (l ++ (x ∷ [])) ≡ levels (x ∷ l)
levels-join l x = levels-move l x [] ∙ ap (λ (y : List Entry). levels (x ∷ y)) (append-nil l)

pub crossed-join : (l : List Entry) (x : Entry) → crossed (l ++ (x ∷ [])) ≡ (would_cross x.side x.price l || crossed l)
crossed-join l x = crossed-move l x [] ∙ ap (λ (y : List Entry). crossed (x ∷ y)) (append-nil l) ∙ crossed-front x l
