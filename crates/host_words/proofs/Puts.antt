-- A message's header and its event's words, put one behind the other.
-- Assumes nothing.
use Prim.Native.Nat.{ℕ, ◌+◌}
use native.Mathlib.Omega.{arith}
use mathlib.Core.Path.{◌≡◌, refl, ap, ◌∙◌}
use mathlib.Core.List.{List, ◌++◌}
use lib.ListN.{length, take, drop}
use lib.Seq.{take_at, drop-drop, drop-append-add}
use Rattle.message.specs.declared.L3Event.{L3Event}
use Rattle.message.specs.declared.L3Event.TheVariants.{Received, Open, Done, Match, Change, Unsupported}
use Rattle.piece.specs.Words.{event_words}

pub length-event : (e : L3Event) → length (event_words e) ≡ 16
length-event (Received i side) = refl
length-event (Open i side p r) = refl
length-event (Done i side p reason r) = refl
length-event (Match i j side p q) = refl
length-event (Change i side reason p os ns op np nf) = refl
length-event (Unsupported kind) = refl

pub two-puts : (out out₁ h e : List ℕ) → out₁ ≡ take 0 out ++ h ++ drop (0 + length h) out → length h ≡ 5 → length e ≡ 16 →
    take 5 out₁ ++ e ++ drop (5 + length e) out₁ ≡ h ++ e ++ drop 21 out
two-puts out out₁ h e q n k =
    let five : 0 + length h ≡ 5 = omega arith in
    let all : 5 + 16 ≡ length h + 16 = omega arith in
    let first : out₁ ≡ h ++ drop 5 out = q ∙ ap (λ i. h ++ drop i out) five in
    rw (first, k, take_at h (drop 5 out) 5 n)
    (ap (λ l. h ++ e ++ l) (ap (λ i. drop i (h ++ drop 5 out)) all ∙ drop-append-add h (drop 5 out) 16 ∙ drop-drop 16 5 out))
