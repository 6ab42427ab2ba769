-- What a test of a signed amount tells of it.
-- Assumes nothing.
use Prim.Native.Nat.{◌≤◌}
use mathlib.Core.Path.{◌≡◌}
use mathlib.Core.Bool.{true}
use native.Mathlib.Omega.{arith}
use borrow.Author.Tests.{leb-true}
use lib.IntN.{ℤ, pos, negsuc}
use Rattle.message.specs.Values.{amount_limit, in_range}
use Rattle.message.specs.Amounts.{nat_of}

pub in_range_most : (x : ℤ) → in_range x ≡ true → nat_of x ≤ amount_limit
unfolding in_range
in_range_most (pos n) h = leb-true n amount_limit h
in_range_most (negsuc n) h = omega arith
