-- Bits of a number, and bits that words of any width hold.
use Rattle.std.specs.Prelude.{ℕ, ◌/◌, ◌%◌, ◌^◌, Bool, List, eqb, get_or, set}
use Rattle.std.specs.Int.Bits.{bit_or}

-- whether bit b of a number is 1
unfoldable pub bit : ℕ → ℕ → Bool
bit b n = eqb ((n / (2 ^ b)) % 2) 1

-- whether bit i of words of `width` bits each is 1: it is in word i / width, counted from the lowest
unfoldable pub bit_in : ℕ → List ℕ → ℕ → Bool
bit_in width ws i = bit (i % width) (get_or ws (i / width) 0)

-- the words with bit i set, where word i / width is there
unfoldable pub with_bit : ℕ → List ℕ → ℕ → List ℕ
with_bit width ws i = set ws (i / width) (bit_or (get_or ws (i / width) 0) (2 ^ (i % width)))
