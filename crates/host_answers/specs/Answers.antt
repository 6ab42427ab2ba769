-- What an exported read answers and writes of a told answer: its number, and the values of a success. 01, Reads: "7 last".
use Rattle.std.specs.Prelude.{ℕ, cond, List, eqb, ltb, length}
use Rattle.message.specs.Told.{Told}
use Rattle.book_levels.specs.Levels.{written}

-- the number, and the words afterwards
pub record Answered : Type 0 where
  pub number : ℕ
  pub out : List ℕ

abbrev pub answered : ℕ → List ℕ → Answered
answered k out = record { number = k; out = out }

-- 7: "output too small": nothing is written. Else 0, and the words past the values stay
abbrev pub given : List ℕ → List ℕ → Answered
given values out = cond (ltb (length out) (length values)) (answered 7 out) (answered 0 (written values out))

-- "a refusal changes no state and no buffer"
abbrev pub told_in : Told → List ℕ → Answered
told_in t out = cond (eqb t.number 0) (given t.values out) (answered t.number out)

-- the number where a part of the output that the answer needs has no room: 7, unless another one is told before
abbrev pub lastly : ℕ → ℕ
lastly k = cond (eqb k 0) 7 k
