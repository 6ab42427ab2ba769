-- Amounts as the rules use them: signed in a message, and a natural number once accepted. "≤ 0" of 01's rules is `nat_of x ≡ 0`.
use Rattle.std.specs.Prelude.{ℕ, Bool, true, false, not, eqb, ℤ, pos, negsuc, Option, Some, None}

-- an amount above zero, as a number; 0 where it is not
abbrev pub nat_of : ℤ → ℕ
nat_of (pos n) = n
nat_of (negsuc n) = 0

-- 01, number 42: "new size < 0"
abbrev pub negative : ℤ → Bool
negative (pos n) = false
negative (negsuc n) = true

unfoldable pub differs : ℤ → ℕ → Bool
differs (pos n) m = not (eqb n m)
differs (negsuc n) m = true

-- 01, Done and Change: "a given price differs"
unfoldable pub given_differs : Option ℤ → ℕ → Bool
given_differs None m = false
given_differs (Some x) m = differs x m

-- 01, Done: "36 if remaining is absent or differs"
unfoldable pub absent_or_differs : Option ℤ → ℕ → Bool
absent_or_differs None m = true
absent_or_differs (Some x) m = differs x m
