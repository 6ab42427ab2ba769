-- What a clause says of a function that a level call is given to read by.
use Rattle.std.specs.Prelude.{◌≡◌, ℕ, List}
use Rattle.std.specs.Fn.{Once}
use denote.Ref.{Bor, MutBor}
use Rattle.message.specs.declared.L3Side.{L3Side}
use Rattle.reconstructor_state.specs.declared.BookReconstructor.{BookReconstructor}

-- given a book, its rows, scratch, a side and the words `out`, it may answer a, and leave `scratch'` and `out'` there
pub record ReadsAt {F A : Type 0}
    (g : Once F (BookReconstructor × (Bor (List ℕ) × (MutBor (List ℕ) × (L3Side × (MutBor (List ℕ) × Unit {0}))))) (A × (MutBor (List ℕ) × (MutBor (List ℕ) × Unit {0}))))
    (f : F) (b : BookReconstructor) (ws sc : List ℕ) (s : L3Side) (out : List ℕ) (a : A) (sc' out' : List ℕ) : Type 0 where
  pub rows : Bor (List ℕ)
  pub rows-are : rows.now ≡ ws
  pub scratch : MutBor (List ℕ)
  pub scratch-is : scratch.now ≡ sc
  pub lent : MutBor (List ℕ)
  pub lent-is : lent.now ≡ out
  pub left : MutBor (List ℕ)
  pub left-is : left.now ≡ sc'
  pub written : MutBor (List ℕ)
  pub written-is : written.now ≡ out'
  pub met : g.post f (b, (rows, (scratch, (s, (lent, tt))))) (a, (left, (written, tt)))
