-- The greater of two numbers is `max`, the smaller `min`, whichever test finds it.
use Prim.Native.Nat.{ℕ, max, min}
use mathlib.Core.Path.{◌≡◌}
use mathlib.Core.Bool.{cond}
use native.Mathlib.Omega.{arith}
use lib.Dec.{ltb}
use Rattle.std.proofs.lemmas.Bool.Decides.{nat_tests}
use Rattle.book_index.specs.Index.{widened}
use Rattle.book_index.proofs.Bounds.widened.Goals as goal

greater : (a b : ℕ) → max a b ≡ cond (ltb a b) b a
greater a b = grind (arith, nat_tests)

lesser : (a b : ℕ) → min a b ≡ cond (ltb b a) b a
lesser a b = grind (arith, nat_tests)

pub returns-in-Buy : goal.returns-in-Buy
unfolding widened
returns-in-Buy c = rw (c.in-Buy.is, c.max.ensures, greater)

pub returns-in-Sell : goal.returns-in-Sell
unfolding widened
returns-in-Sell c = rw (c.in-Sell.is, c.min.ensures, lesser)
