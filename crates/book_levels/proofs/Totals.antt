-- A level's sums: a row more, and how large they grow.
-- Assumes nothing.
use Prim.Native.Nat.{ℕ, suc, ◌+◌, ◌*◌, ◌-◌, ◌≤◌}
use mathlib.Core.Path.{◌≡◌, refl}
use mathlib.Core.Bool.{Bool, true, false, cond}
use mathlib.Core.List.{List, [], ◌∷◌}
use native.Mathlib.Omega.{arith}
use lib.Dec.{ltb}
use lib.ListN.{length}
use Rattle.message.specs.declared.L3Side.{L3Side}
use Rattle.book.specs.declared.Resting.{Resting}
use Rattle.book.specs.Line.{same_level, volume, orders_at}
use Rattle.book.specs.Rows.{most_rows, rows_from, rows_of, side_of, line_of}
use Rattle.message.specs.Values.{amount_limit}
use Rattle.book.specs.Broken.{some_row_broken}
use Rattle.book.proofs.Rows.{length-rows}
use Rattle.book.proofs.Kept.{volume_most, sound-from}
use Rattle.book_levels.specs.declared.Level.{Level}
use Rattle.book_levels.specs.Levels.{unknown_volume, level_at}
use Rattle.book_levels.specs.Marks.{level_with}

pub level-next : (s : L3Side) (p : ℕ) (o : Resting) (os : List Resting) → level_at s p (o ∷ os) ≡ level_with s (level_at s p os) o
level-next s p o os = go (same_level (side_of o.kind) o.price s p)
  where
    go : (b : Bool)
        → record {
          price = p;
          total = cond b (o.remaining + volume s p (line_of os)) (volume s p (line_of os));
          unknown = cond b (cond (ltb o.kind 2) (o.remaining + unknown_volume s p os) (unknown_volume s p os)) (unknown_volume s p os);
          orders = cond b (suc (orders_at s p (line_of os))) (orders_at s p (line_of os));
        }
        ≡ cond b
        (record {
          price = p;
          total = o.remaining + volume s p (line_of os);
          unknown = cond (ltb o.kind 2) (o.remaining + unknown_volume s p os) (unknown_volume s p os);
          orders = suc (orders_at s p (line_of os));
        })
        (level_at s p os)
    go true = refl
    go false = refl

unknown_most : (s : L3Side) (p : ℕ) (os : List Resting) → unknown_volume s p os ≤ volume s p (line_of os)
unknown_most s p [] = omega arith
unknown_most s p (o ∷ os) = go (same_level (side_of o.kind) o.price s p) (ltb o.kind 2) (unknown_most s p os)
  where
    go : (a b : Bool) → unknown_volume s p os ≤ volume s p (line_of os)
        → cond a (cond b (o.remaining + unknown_volume s p os) (unknown_volume s p os)) (unknown_volume s p os)
        ≤ cond a (o.remaining + volume s p (line_of os)) (volume s p (line_of os))
    go true true ih = omega arith
    go true false ih = omega arith
    go false b ih = ih

orders_most : (s : L3Side) (p : ℕ) (os : List Resting) → orders_at s p (line_of os) ≤ length os
orders_most s p [] = omega arith
orders_most s p (o ∷ os) = go (same_level (side_of o.kind) o.price s p) (orders_most s p os)
  where
    go : (b : Bool) → orders_at s p (line_of os) ≤ length os → cond b (suc (orders_at s p (line_of os))) (orders_at s p (line_of os)) ≤ suc (length os)
    go true ih = omega arith
    go false ih = omega arith

-- the sums of the rows from row i on
pub record Small (v : Level) : Type 0 where
  pub total : v.total ≤ most_rows * amount_limit
  pub unknown : v.unknown ≤ most_rows * amount_limit
  pub orders : v.orders ≤ most_rows

pub small-from : (ws : List ℕ) (n i : ℕ) (s : L3Side) (p : ℕ) → n ≤ most_rows → i ≤ n → some_row_broken (rows_of ws n) ≡ false
    → Small (level_at s p (rows_from ws i (n - i)))
small-from ws n i s p few h q =
    let os = rows_from ws i (n - i) in
    let l = length-rows ws i (n - i) in
    let v = volume_most s p os (sound-from ws n i h q) in
    let u = unknown_most s p os in
    let k = orders_most s p os in
    record { total = omega (arith, l, v); unknown = omega (arith, l, v, u); orders = omega (arith, l, k) }
