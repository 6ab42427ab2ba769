-- What is known of the lent lengths once a call goes past its first test.
-- Assumes nothing.
use Prim.Native.Nat.{ℕ, ◌≤◌}
use mathlib.Core.Path.{◌≡◌}
use mathlib.Core.Bool.{false, ◌||◌}
use mathlib.Core.List.{List}
use borrow.Author.Tests.{ltb-false}
use lib.Dec.{ltb}
use lib.ListN.{length}
use Rattle.laws.proofs.Bools.{or_no}

pub lent_two : (xs : List ℕ) (n : ℕ) (ys : List ℕ) (m : ℕ) → (ltb (length xs) n || ltb (length ys) m) ≡ false → (n ≤ length xs) × (m ≤ length ys)
lent_two xs n ys m h =
    let both = or_no (ltb (length xs) n) (ltb (length ys) m) h in
    (ltb-false (length xs) n both.0, ltb-false (length ys) m both.1)
