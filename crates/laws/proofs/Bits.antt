-- Laws of bits: of one number, and of words of any width. A bit is set, or the words are zeroed, and no other bit changes.
-- Assumes nothing.
use Prim.Native.Nat.{ℕ, zero, suc, ◌+◌, ◌*◌, ◌/◌, ◌%◌, ◌^◌, ◌<◌}
use mathlib.Core.Path.{◌≡◌, refl, sym, ap, ap₂, ◌∙◌}
use mathlib.Core.Bool.{Bool, true, false, ◌||◌}
use mathlib.Core.List.{List, ◌++◌}
use native.Mathlib.Nat.{pow-zero, pow-suc, pow-succ', div-one, div-div-eq-div-mul, zero-div, div-add-mod}
use native.Mathlib.Omega.{arith}
use lib.Bits.{bit_or, or_step, or_zero_r}
use lib.Dec.{eqb}
use lib.ListN.{length, get_or, set, drop, replicate, length-set, length-replicate, get_or-replicate, get_or-append}
use lib.Seq.{get_or-set_same, get_or-set_other, drop-set-lt}
use borrow.Author.Tests.{eqb-true, eqb-false, eq-eqb, ne_eqb}
use Rattle.laws.specs.Bits.{bit, bit_in, with_bit}
use Rattle.laws.proofs.Bools.{eqb_suc}

-- ---- a number's bits, one by one

bit-first : (n : ℕ) → bit 0 n ≡ eqb (n % 2) 1
unfolding bit
bit-first n = rw (pow-zero 2, div-one n)

bit-later : (b n : ℕ) → bit (suc b) n ≡ bit b (n / 2)
unfolding bit
bit-later b n = rw (pow-succ' 2 b, div-div-eq-div-mul n 2 (2 ^ b))

bit-zero : (b : ℕ) → bit b 0 ≡ false
unfolding bit
bit-zero b = rw (zero-div (2 ^ b))

-- ---- a bit set in a number

or_one : (n : ℕ) → bit_or n 1 ≡ n / 2 * 2 + 1
or_one n = or_step n 1 ∙ rw (or_zero_r (n / 2)) (omega arith)

or_even : (n m : ℕ) → bit_or n (m * 2) ≡ bit_or (n / 2) m * 2 + n % 2
or_even n m =
    let a : m * 2 / 2 ≡ m = omega arith in
    let b : m * 2 % 2 ≡ 0 = omega arith in
    or_step n (m * 2) ∙ rw (a, b) (omega arith)

-- by both places together: the first bit is told by the parity, the others are those of the half
pub bit-or : (b n c : ℕ) → bit c (bit_or n (2 ^ b)) ≡ (eqb c b || bit c n)
bit-or zero n zero =
    let z : (n / 2 * 2 + 1) % 2 ≡ 1 = omega arith in
    rw (pow-zero 2, or_one n, bit-first (n / 2 * 2 + 1), z)
bit-or zero n (suc c) =
    let z : (n / 2 * 2 + 1) / 2 ≡ n / 2 = omega arith in
    rw (pow-zero 2, or_one n, bit-later c (n / 2 * 2 + 1), bit-later c n, z, ne_eqb (suc c) 0 (λ q. omega (arith, q)))
bit-or (suc b) n zero =
    let z : (bit_or (n / 2) (2 ^ b) * 2 + n % 2) % 2 ≡ n % 2 = omega arith in
    rw (pow-suc 2 b, or_even n (2 ^ b), bit-first (bit_or (n / 2) (2 ^ b) * 2 + n % 2), bit-first n, z, ne_eqb 0 (suc b) (λ q. omega (arith, q)))
bit-or (suc b) n (suc c) =
    let z : (bit_or (n / 2) (2 ^ b) * 2 + n % 2) / 2 ≡ bit_or (n / 2) (2 ^ b) = omega arith in
    rw (pow-suc 2 b, or_even n (2 ^ b), bit-later c (bit_or (n / 2) (2 ^ b) * 2 + n % 2), bit-later c n, z, ← (eqb_suc c b)) (bit-or b (n / 2) c)

-- ---- bits in words

-- places in the same word are told apart by their bits
same_word : (width i j : ℕ) → j / width ≡ i / width → eqb (j % width) (i % width) ≡ eqb j i
same_word width i j e = go (eqb j i) refl
  where
    go : (t : Bool) → eqb j i ≡ t → eqb (j % width) (i % width) ≡ t
    go true h = eq-eqb (j % width) (i % width) (ap (λ (k : ℕ). k % width) (eqb-true j i h))
    go false h =
        ne_eqb (j % width) (i % width) (λ q.
        eqb-false j i h (sym (div-add-mod j width) ∙ ap₂ (λ (x y : ℕ). width * x + y) e q ∙ div-add-mod i width))

-- bit i set: it is 1, every other bit as it was
pub with-bit : (width : ℕ) (ws : List ℕ) (i j : ℕ) → i / width < length ws → bit_in width (with_bit width ws i) j ≡ (eqb j i || bit_in width ws j)
unfolding bit_in with_bit
with-bit width ws i j h = go (eqb (j / width) (i / width)) refl
  where
    go : (t : Bool) → eqb (j / width) (i / width) ≡ t
        → bit (j % width) (get_or (set ws (i / width) (bit_or (get_or ws (i / width) 0) (2 ^ (i % width)))) (j / width) 0)
        ≡ (eqb j i || bit (j % width) (get_or ws (j / width) 0))
    go true e =
        let q : j / width ≡ i / width = eqb-true (j / width) (i / width) e in
        rw (q, get_or-set_same ws (i / width) (bit_or (get_or ws (i / width) 0) (2 ^ (i % width))) 0 h, ← (same_word width i j q))
        (bit-or (i % width) (get_or ws (i / width) 0) (j % width))
    go false e =
        let q : j / width ≡ i / width → ⊥ = eqb-false (j / width) (i / width) e in
        rw
        (get_or-set_other ws (i / width) (j / width) (bit_or (get_or ws (i / width) 0) (2 ^ (i % width))) 0 q, ne_eqb j i (λ z. q (ap (λ (k : ℕ). k / width) z)))

pub length-with_bit : (width : ℕ) (ws : List ℕ) (i : ℕ) → length (with_bit width ws i) ≡ length ws
unfolding with_bit
length-with_bit width ws i = length-set ws (i / width) _

-- words past the bit's own are as they were
pub drop-with_bit : (width m : ℕ) (ws : List ℕ) (i : ℕ) → i / width < m → drop m (with_bit width ws i) ≡ drop m ws
unfolding with_bit
drop-with_bit width m ws i h = drop-set-lt m ws (i / width) _ h

-- no bit is set in words that are zeroed
pub zeroed_bit : (width m : ℕ) (ws : List ℕ) (i : ℕ) → i / width < m → bit_in width (replicate {A = ℕ} m 0 ++ drop m ws) i ≡ false
unfolding bit_in
zeroed_bit width m ws i h =
    rw
    (get_or-append (replicate {A = ℕ} m 0) (drop m ws) 0 (i / width) (rw (length-replicate {A = ℕ} m 0) h), get_or-replicate {A = ℕ} m (i / width) 0 0 h)
    (bit-zero (i % width))
