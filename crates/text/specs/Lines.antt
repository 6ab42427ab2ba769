-- Lines of text. 02, paper 1: "lines of decimal numbers with one space between, each ended by byte 10".
use Rattle.std.specs.Prelude.{ℕ, ◌+◌, List, [], ◌∷◌, ◌++◌}
use Rattle.text.specs.Decimal.{most_digits}

abbrev pub space : ℕ
space = 32

-- words, each behind a space
abbrev pub spaced : List (List ℕ) → List ℕ
spaced [] = []
spaced (w ∷ ws) = space ∷ (w ++ spaced ws)

-- the most that a 64-bit number takes so
abbrev pub most_spaced : ℕ
most_spaced = 1 + most_digits

-- a line: its first word, the others, byte 10
abbrev pub line : List ℕ → List (List ℕ) → List ℕ
line w ws = w ++ (spaced ws ++ (10 ∷ []))
