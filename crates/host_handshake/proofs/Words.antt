-- A handshake there and back: the words that it leaves are it, and one whose words were lent is written as those words.
-- Assumes nothing.
use Prim.Native.Nat.{ℕ, ◌≤◌}
use mathlib.Core.Path.{◌≡◌, refl, sym, ap}
use mathlib.Core.Bool.{Bool, true, false, not, cond}
use mathlib.Core.List.{List, [], ◌∷◌}
use native.Mathlib.Omega.{arith}
use borrow.Author.Tests.{eqb-true, eqb-false, ltb-false}
use lib.Dec.{eqb, ltb}
use lib.ListN.{length, get_or}
use Rattle.reconstructor_handshake.specs.declared.Handshake.{Handshake}
use Rattle.host_handshake.specs.HandshakeWords.{handshake_of, ended_word, handshake_left}

ended-back : (ended : Bool) → not (eqb (ended_word ended) 0) ≡ ended
ended-back false = refl
ended-back true = refl

pub handshake-back : (ws : List ℕ) (h : Handshake) → handshake_of (handshake_left ws h) ≡ h
unfolding handshake_of handshake_left
handshake-back ws h = rw (ended-back h.ended)

ended_same : (was : ℕ) → ltb 1 was ≡ false → ended_word (not (eqb was 0)) ≡ was
ended_same was bit = go (eqb was 0) refl
  where
    go : (x : Bool) → eqb was 0 ≡ x → cond (not x) 1 0 ≡ was
    go true e = sym (eqb-true was 0 e)
    go false e = let n = eqb-false was 0 e in let m = ltb-false 1 was bit in omega (arith, n, m)

pub handshake-same : (ws : List ℕ) → 4 ≤ length ws → ltb 1 (get_or ws 2 0) ≡ false → handshake_left ws (handshake_of ws) ≡ ws
unfolding handshake_of handshake_left
handshake-same [] h bit = absurd (omega (arith, h))
handshake-same (a ∷ []) h bit = absurd (omega (arith, h))
handshake-same (a ∷ b ∷ []) h bit = absurd (omega (arith, h))
handshake-same (a ∷ b ∷ e ∷ []) h bit = absurd (omega (arith, h))
handshake-same (a ∷ b ∷ e ∷ n ∷ ws) h bit = ap (λ x. a ∷ b ∷ x ∷ n ∷ ws) (ended_same e bit)
