-- A number in decimal digits, as bytes: the first digit first, no zero in front, and 0 is `0`.
use Rattle.std.specs.Prelude.{ℕ, zero, suc, ◌+◌, ◌/◌, ◌%◌, cond, List, [], ◌∷◌, ◌++◌, ltb}

-- the byte of a digit: `0` is 48
abbrev pub digit : ℕ → ℕ
digit d = 48 + d

-- the digits of n: those of its tens, and then its ones. There are no more of them than n and one, so as many steps are enough
unfoldable pub decimal_in : ℕ → ℕ → List ℕ
decimal_in zero n = []
decimal_in (suc steps) n = cond (ltb n 10) (digit n ∷ []) (decimal_in steps (n / 10) ++ (digit (n % 10) ∷ []))

unfoldable pub decimal : ℕ → List ℕ
decimal n = decimal_in (n + 1) n

-- how many the largest 64-bit number has, 18446744073709551615
abbrev pub most_digits : ℕ
most_digits = 20
