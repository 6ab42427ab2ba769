-- Among sound rows, the best buy is at or above the best sell exactly where the numbers of one pass say so.
-- Assumes nothing.
use Rattle.std.specs.Prelude.{Option, Some, None}
use Prim.Native.Nat.{ℕ, suc, ◌≤◌, max, min}
use Rattle.std.proofs.lemmas.Bool.Decides.{nat_tests}
use mathlib.Core.Path.{◌≡◌, refl, sym, ap₂, ◌∙◌}
use mathlib.Core.Bool.{Bool, true, false, cond}
use mathlib.Core.List.{List, [], ◌∷◌}
use native.Mathlib.Omega.{arith}
use lib.Dec.{leb}
use borrow.Author.Tests.{lt-leb}
use Rattle.laws.proofs.Bools.{or_no}
use Rattle.message.specs.declared.L3Side.{L3Side}
use Rattle.message.specs.declared.L3Side.TheVariants.{Buy, Sell}
use Rattle.message.specs.Same.{same_side}
use Rattle.book.specs.declared.Resting.{Resting}
use Rattle.book.specs.Line.{ahead, better, best, meet, crossed, levels}
use Rattle.book.specs.Rows.{side_of, line_of, rows_of}
use Rattle.message.specs.Values.{amount_limit}
use Rattle.book.specs.Broken.{row_broken, some_row_broken}
use Rattle.book.proofs.Kept.{InRange, sound_row, length-line}
use Rattle.book.proofs.Moves.{levels_most}
use Rattle.book.proofs.Rows.{length-rows}

-- a best price as a number
abbrev or-zero : Option ℕ → ℕ
or-zero None = 0
or-zero (Some p) = p

abbrev or_above : Option ℕ → ℕ
or_above None = suc amount_limit
or_above (Some p) = p

abbrev Ranged : Option ℕ → Type 0
Ranged None = Unit {0}
Ranged (Some p) = InRange p

ranged-better : (s : L3Side) (p : ℕ) (b : Option ℕ) → InRange p → Ranged b → Ranged (better s p b)
ranged-better s p None h k = h
ranged-better s p (Some q) h k = go (ahead s p q)
  where
    go : (t : Bool) → InRange (cond t p q)
    go true = h
    go false = k

ranged : (s : L3Side) (os : List Resting) → some_row_broken os ≡ false → Ranged (best s (line_of os))
ranged s [] h = tt
ranged s (o ∷ os) h = go (same_side (side_of o.kind) s) (ranged s os d.1)
  where
    d : (row_broken o ≡ false) × (some_row_broken os ≡ false)
    d = or_no (row_broken o) (some_row_broken os) h

    go : (b : Bool) → Ranged (best s (line_of os)) → Ranged (cond b (better s o.price (best s (line_of os))) (best s (line_of os)))
    go true ih = ranged-better s o.price (best s (line_of os)) (sound_row o d.0).price ih
    go false ih = ih

max_better : (p : ℕ) (b : Option ℕ) → max (or-zero b) p ≡ or-zero (better Buy p b)
max_better p None = omega arith
max_better p (Some q) = grind (arith, nat_tests)

min_better : (p : ℕ) (b : Option ℕ) → p ≤ amount_limit → min (or_above b) p ≡ or_above (better Sell p b)
min_better p None h = omega arith
min_better p (Some q) h = grind (arith, nat_tests)

-- the highest price of a buy, or 0
abbrev pub highest : List Resting → ℕ
highest [] = 0
highest (o ∷ os) = cond (same_side (side_of o.kind) Buy) (max (highest os) o.price) (highest os)

-- the lowest price of a sell, or one above all
abbrev pub lowest : List Resting → ℕ
lowest [] = suc amount_limit
lowest (o ∷ os) = cond (same_side (side_of o.kind) Sell) (min (lowest os) o.price) (lowest os)

highest_is : (os : List Resting) → highest os ≡ or-zero (best Buy (line_of os))
highest_is [] = refl
highest_is (o ∷ os) = rw (highest_is os) (go (same_side (side_of o.kind) Buy))
  where
    go : (t : Bool)
        → cond t (max (or-zero (best Buy (line_of os))) o.price) (or-zero (best Buy (line_of os)))
        ≡ or-zero (cond t (better Buy o.price (best Buy (line_of os))) (best Buy (line_of os)))
    go true = max_better o.price (best Buy (line_of os))
    go false = refl

lowest_is : (os : List Resting) → some_row_broken os ≡ false → lowest os ≡ or_above (best Sell (line_of os))
lowest_is [] h = refl
lowest_is (o ∷ os) h = rw (lowest_is os d.1) (go (same_side (side_of o.kind) Sell))
  where
    d : (row_broken o ≡ false) × (some_row_broken os ≡ false)
    d = or_no (row_broken o) (some_row_broken os) h

    go : (t : Bool)
        → cond t (min (or_above (best Sell (line_of os))) o.price) (or_above (best Sell (line_of os)))
        ≡ or_above (cond t (better Sell o.price (best Sell (line_of os))) (best Sell (line_of os)))
    go true = min_better o.price (best Sell (line_of os)) (sound_row o d.0).price.high
    go false = refl

meet_is : (b a : Option ℕ) → Ranged b → Ranged a → meet b a ≡ leb (or_above a) (or-zero b)
meet_is None None h k = refl
meet_is None (Some a) h k = sym (lt-leb a 0 k.low)
meet_is (Some b) None h k = sym (lt-leb (suc amount_limit) b (omega (arith, h.high)))
meet_is (Some b) (Some a) h k = refl

pub crossed_is : (os : List Resting) → some_row_broken os ≡ false → crossed (line_of os) ≡ leb (lowest os) (highest os)
crossed_is os h =
    meet_is (best Buy (line_of os)) (best Sell (line_of os)) (ranged Buy os h) (ranged Sell os h)
    ∙ sym (ap₂ leb (lowest_is os h) (highest_is os))

-- there are no more levels than rows
pub levels_within : (ws : List ℕ) (n : ℕ) → levels (line_of (rows_of ws n)) ≤ n
levels_within ws n = omega (arith, levels_most (line_of (rows_of ws n)), length-line (rows_of ws n), length-rows ws 0 n)
