-- What makes bytes the decimal digits of a number. No promise names it: `decimal_is` shows that it holds of `decimal`, which they name.
use Rattle.std.specs.Prelude.{ℕ, ◌+◌, ◌*◌, ◌-◌, ◌≤◌, ◌<◌, ◌≡◌, List, [], ◌∷◌, get_or}

-- the number that one reads, from the first digit on, having read k
abbrev pub number_from : ℕ → List ℕ → ℕ
number_from k [] = k
number_from k (b ∷ bs) = number_from (10 * k + (b - 48)) bs

abbrev pub AllDigits : List ℕ → Type 0
AllDigits [] = Unit {0}
AllDigits (b ∷ bs) = (48 ≤ b) × (b ≤ 57) × AllDigits bs

pub record IsDecimal (n : ℕ) (bytes : List ℕ) : Type 0 where
  pub digits : AllDigits bytes
  pub number : number_from 0 bytes ≡ n
  -- no zero in front; 0 is `0`
  pub first : 0 < n → 48 < get_or bytes 0 0
  pub zeros : n ≡ 0 → bytes ≡ 48 ∷ []
