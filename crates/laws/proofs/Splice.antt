-- Laws of lists that the kit lacks: a list with a part replaced.
use Prim.Native.Nat.{ℕ, ◌+◌, ◌-◌, ◌<◌, ◌≤◌}
use mathlib.Core.Path.{◌≡◌, ◌∙◌}
use mathlib.Core.List.{List, ◌++◌, append_assoc}
use native.Mathlib.Omega.{arith}
use lib.ListN.{length, get_or, take, drop, length-append, length-drop, get_or-append}
use lib.Seq.{length-take-le, get_or-take, get_or-drop, get_or-append-add, drop-append-add, drop-drop}

module _ {A : Type 0} where
  at_add : (p q : List A) (n k : ℕ) (d : A) → length p ≡ n → get_or (p ++ q) (n + k) d ≡ get_or q k d
  at_add p q n k d e = rw (← e) (get_or-append-add p q k d)

  pub drop_add : (p q : List A) (n k : ℕ) → length p ≡ n → drop (n + k) (p ++ q) ≡ drop k q
  drop_add p q n k e = rw (← e) (drop-append-add p q k)

-- ---- a list with a part replaced: `take a l ++ m ++ drop b l`

module _ {A : Type 0} (l m : List A) (a b : ℕ) (e : a + length m ≡ b) (fits : b ≤ length l) where
  len-front : length (take a l) ≡ a
  len-front = length-take-le a l (omega arith)

  len_two : length (take a l ++ m) ≡ b
  len_two = simp (length-append, len-front) e

  pub splice-length : length (take a l ++ m ++ drop b l) ≡ length l
  splice-length = simp (length-append, length-drop, len-front) (omega arith)

  pub splice-before : (d : A) (j : ℕ) → j < a → get_or (take a l ++ m ++ drop b l) j d ≡ get_or l j d
  splice-before d j h =
      let h' : j < length (take a l) = rw len-front h in
      rw (append_assoc, get_or-append (take a l) (m ++ drop b l) d j h', get_or-take)

  pub splice_in : (d : A) (k : ℕ) → k < length m → get_or (take a l ++ m ++ drop b l) (a + k) d ≡ get_or m k d
  splice_in d k h = rw append_assoc (at_add (take a l) (m ++ drop b l) a k d len-front ∙ get_or-append m (drop b l) d k h)

  pub splice-past : (d : A) (j : ℕ) → b ≤ j → get_or (take a l ++ m ++ drop b l) j d ≡ get_or l j d
  splice-past d j h =
      let q : j ≡ b + (j - b) = omega arith in
      rw q (at_add (take a l ++ m) (drop b l) b (j - b) d len_two ∙ get_or-drop b l (j - b) d)

  pub splice-rest : (j : ℕ) → b ≤ j → drop j (take a l ++ m ++ drop b l) ≡ drop j l
  splice-rest j h =
      let q : j ≡ b + (j - b) = omega arith in
      rw q (drop_add (take a l ++ m) (drop b l) b (j - b) len_two ∙ drop-drop (j - b) b l)
