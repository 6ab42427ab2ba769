-- Numbers in bytes. 01, "Rows and pieces": integers are little-endian, amounts two's complement, ids 16 bytes in text order (id high is
-- the first eight, big-endian).
use Rattle.std.specs.Prelude.{ℕ, zero, suc, ◌+◌, ◌*◌, ◌/◌, ◌%◌, ◌<◌, List, [], ◌∷◌, reverse, take, drop}

-- every element is a byte
abbrev pub AllBytes : List ℕ → Type 0
AllBytes [] = Unit {0}
AllBytes (b ∷ bs) = (b < 256) × AllBytes bs

-- the k bytes of s from place i on
unfoldable pub part : List ℕ → ℕ → ℕ → List ℕ
part s i k = take k (drop i s)

-- the number in little-endian bytes
unfoldable pub little : List ℕ → ℕ
little [] = 0
little (b ∷ bs) = b + 256 * little bs

-- the number in big-endian bytes
unfoldable pub big : List ℕ → ℕ
big bs = little (reverse bs)

-- a number's k little-endian bytes
unfoldable pub little_bytes : ℕ → ℕ → List ℕ
little_bytes zero n = []
little_bytes (suc k) n = n % 256 ∷ little_bytes k (n / 256)

-- a number's k big-endian bytes
unfoldable pub big_bytes : ℕ → ℕ → List ℕ
big_bytes k n = reverse (little_bytes k n)
