-- What a clause says of a function that a call is given to store its answer by.
use Rattle.std.specs.Prelude.{◌≡◌, ℕ, List}
use Rattle.std.specs.Fn.{Once}
use denote.Ref.{MutBor}

-- given the words `out` and an answer, it may tell the number k and leave `after` there
pub record StoresAt {F A : Type 0} (g : Once F (MutBor (List ℕ) × (A × Unit {0})) (ℕ × (MutBor (List ℕ) × Unit {0}))) (f : F) (out : List ℕ) (answer : A) (k : ℕ) (after : List ℕ) : Type 0 where
  pub lent : MutBor (List ℕ)
  pub lent-is : lent.now ≡ out
  pub left : MutBor (List ℕ)
  pub left-is : left.now ≡ after
  pub met : g.post f (lent, (answer, tt)) (k, (left, tt))
