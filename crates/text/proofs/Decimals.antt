-- The digits of a number: that they are its digits, and how many there are. Each law goes by tens: it holds of a number of one digit, and of any other if it
-- holds of its tens.
-- Assumes nothing.
use Prim.Native.Nat.{ℕ, zero, suc, ◌+◌, ◌*◌, ◌-◌, ◌/◌, ◌%◌, ◌≤◌, ◌<◌}
use native.Mathlib.Numerals.{add-one}
use native.Mathlib.Omega.{arith}
use mathlib.Core.Path.{◌≡◌, refl, ap, ◌∙◌}
use mathlib.Core.Bool.{Bool, true, false}
use mathlib.Core.List.{List, [], ◌∷◌, ◌++◌, append_assoc, append-nil}
use borrow.Author.Tests.{ltb-true, ltb-false, lt-ltb, le-ltb, ne_eqb}
use lib.Dec.{ltb}
use lib.ListN.{length, get_or, length-append}
use Rattle.std.specs.Fmt.{digit_glyph, digits_onto, digits}
use Rattle.std.specs.Fmt.{decimal as Fmt·decimal}
use Rattle.text.specs.Decimal.{digit, decimal_in, decimal, most_digits}
use Rattle.text.specs.Digits.{number_from, AllDigits, IsDecimal}

-- ---- by tens

module _ (P : ℕ → Type 0) (one : (n : ℕ) → n ≤ 9 → P n) (more : (n : ℕ) → 9 < n → P (n / 10) → P n) where
  by-tens_in : (steps n : ℕ) → n < steps → P n
  by-tens_in zero n h = absurd (omega arith)
  by-tens_in (suc s) n h = go (ltb n 10) refl (λ q. by-tens_in s (n / 10) (omega arith))
    where
      go : (b : Bool) → ltb n 10 ≡ b → (9 < n → P (n / 10)) → P n
      go true e r = one n (omega (arith, ltb-true n 10 e))
      go false e r = let q : 9 < n = omega (arith, ltb-false n 10 e) in more n q (r q)

  by-tens : (n : ℕ) → P n
  by-tens n = by-tens_in (n + 1) n (omega arith)

-- ---- one digit, or those of the tens and one more

steps-same : (n s t : ℕ) → n < s → n < t → decimal_in s n ≡ decimal_in t n
unfolding decimal_in
steps-same = by-tens (λ n. (s t : ℕ) → n < s → n < t → decimal_in s n ≡ decimal_in t n) one more
  where
    one : (n : ℕ) → n ≤ 9 → (s t : ℕ) → n < s → n < t → decimal_in s n ≡ decimal_in t n
    one n h zero t p q = absurd (omega arith)
    one n h (suc s) zero p q = absurd (omega arith)
    one n h (suc s) (suc t) p q = rw (lt-ltb n 10 (omega arith))

    more : (n : ℕ) → 9 < n → ((s t : ℕ) → n / 10 < s → n / 10 < t → decimal_in s (n / 10) ≡ decimal_in t (n / 10)) → (s t : ℕ) → n < s → n < t → decimal_in s n ≡ decimal_in t n
    more n h r zero t p q = absurd (omega arith)
    more n h r (suc s) zero p q = absurd (omega arith)
    more n h r (suc s) (suc t) p q = rw (le-ltb n 10 (omega arith)) (ap (λ (l : List ℕ). l ++ (digit (n % 10) ∷ [])) (r s t (omega arith) (omega arith)))

pub decimal-last : (n : ℕ) → n ≤ 9 → decimal n ≡ digit n ∷ []
unfolding decimal decimal_in
decimal-last n h = rw (add-one n, lt-ltb n 10 (omega arith))

pub decimal-next : (n : ℕ) → 9 < n → decimal n ≡ decimal (n / 10) ++ (digit (n % 10) ∷ [])
unfolding decimal decimal_in
decimal-next n h =
    rw (add-one n, le-ltb n 10 (omega arith)) (ap (λ (l : List ℕ). l ++ (digit (n % 10) ∷ [])) (steps-same (n / 10) n (n / 10 + 1) (omega arith) (omega arith)))

-- ---- they are the number's digits

digits_append : (xs : List ℕ) (d : ℕ) → AllDigits xs → d ≤ 9 → AllDigits (xs ++ (digit d ∷ []))
digits_append [] d a h = (omega arith, omega arith, tt)
digits_append (x ∷ xs) d a h = (a.0, a.1, digits_append xs d a.2 h)

number_append : (xs : List ℕ) (k d : ℕ) → number_from k (xs ++ (digit d ∷ [])) ≡ 10 * number_from k xs + d
number_append [] k d = omega arith
number_append (x ∷ xs) k d = number_append xs (10 * k + (x - 48)) d

first_append : (xs : List ℕ) (d : ℕ) → 48 < get_or xs 0 0 → get_or (xs ++ (digit d ∷ [])) 0 0 ≡ get_or xs 0 0
first_append [] d h = absurd (omega arith)
first_append (x ∷ xs) d h = refl

pub decimal_is : (n : ℕ) → IsDecimal n (decimal n)
decimal_is = by-tens (λ n. IsDecimal n (decimal n)) one more
  where
    one : (n : ℕ) → n ≤ 9 → IsDecimal n (decimal n)
    one n h = rw (decimal-last n h) (record { digits = (omega arith, omega arith, tt); number = omega arith; first = λ q. omega arith; zeros = λ q. rw q })

    more : (n : ℕ) → 9 < n → IsDecimal (n / 10) (decimal (n / 10)) → IsDecimal n (decimal n)
    more n h r =
        rw (decimal-next n h)
        (record {
          digits = digits_append (decimal (n / 10)) (n % 10) r.digits (omega arith);
          number = number_append (decimal (n / 10)) 0 (n % 10) ∙ rw r.number (omega arith);
          first = λ q. rw (first_append (decimal (n / 10)) (n % 10) (r.first (omega arith))) (r.first (omega arith));
          zeros = λ q. absurd (omega arith);
        })

-- ---- how many there are

pub decimal-some : (n : ℕ) → 1 ≤ length (decimal n)
decimal-some = by-tens (λ n. 1 ≤ length (decimal n)) (λ n h. rw (decimal-last n h) (omega arith))
    (λ n h r. rw (decimal-next n h) (rw (length-append (decimal (n / 10)) (digit (n % 10) ∷ [])) (omega arith)))

-- ---- they are what std prints

-- ten to the power of k + 1
abbrev tens : ℕ → ℕ
tens zero = 10
tens (suc k) = 10 * tens k

glyph : (d : ℕ) → d < 10 → digit_glyph false d ≡ digit d
glyph d h = rw (lt-ltb d 10 h)

printed_last : (k n : ℕ) (ds : List ℕ) → n ≤ 9 → digits_onto (suc k) 10 false n ds ≡ decimal n ++ ds
printed_last k n ds h =
    let z : n / 10 ≡ 0 = omega arith in
    let r : n % 10 ≡ n = omega arith in
    rw (z, r, glyph n (omega arith), decimal-last n h)

printed_onto : (k n : ℕ) (ds : List ℕ) → n < tens k → digits_onto (suc k) 10 false n ds ≡ decimal n ++ ds
printed_onto zero n ds h = printed_last zero n ds (omega arith)
printed_onto (suc k) n ds h = go (ltb n 10) refl (λ _. printed_onto k (n / 10) (digit_glyph false (n % 10) ∷ ds) (omega arith))
  where
    go : (b : Bool) → ltb n 10 ≡ b → (9 < n → digits_onto (suc k) 10 false (n / 10) (digit_glyph false (n % 10) ∷ ds) ≡ decimal (n / 10) ++ (digit_glyph false (n % 10) ∷ ds))
        → digits_onto (suc (suc k)) 10 false n ds ≡ decimal n ++ ds
    go true e more = printed_last (suc k) n ds (omega (arith, ltb-true n 10 e))
    go false e more =
        let many : 9 < n = omega (arith, ltb-false n 10 e) in
        rw (ne_eqb (n / 10) 0 (λ q. omega arith), more many, glyph (n % 10) (omega arith), decimal-next n many, append_assoc)

pub printed : (n : ℕ) → n < 18446744073709551616 → Fmt·decimal n ≡ decimal n
unfolding digits
printed n h = printed_onto 63 n [] (omega arith) ∙ append-nil (decimal n)

-- ---- how many there are

decimal_most : (k n : ℕ) → n < tens k → length (decimal n) ≤ suc k
decimal_most zero n h = rw (decimal-last n (omega arith)) (omega arith)
decimal_most (suc k) n h = go (ltb n 10) refl (decimal_most k (n / 10) (omega arith))
  where
    go : (b : Bool) → ltb n 10 ≡ b → length (decimal (n / 10)) ≤ suc k → length (decimal n) ≤ suc (suc k)
    go true e r = rw (decimal-last n (omega (arith, ltb-true n 10 e))) (omega arith)
    go false e r = rw (decimal-next n (omega (arith, ltb-false n 10 e))) (rw (length-append (decimal (n / 10)) (digit (n % 10) ∷ [])) (omega arith))

-- of a 64-bit number
pub decimal-short : (n : ℕ) → n < 18446744073709551616 → length (decimal n) ≤ most_digits
decimal-short n h = decimal_most 19 n (omega arith)
