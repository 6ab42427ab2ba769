-- The lines of a listing, word by word, and how long a listing is.
-- Assumes nothing.
use Rattle.std.specs.Prelude.{Option, Some}
use Prim.Native.Nat.{ℕ, ◌+◌, ◌*◌, ◌≤◌, ◌<◌}
use native.Mathlib.Nat.{add-zero, zero-add}
use native.Mathlib.Numerals.{add-one}
use native.Mathlib.Omega.{arith}
use mathlib.Core.Path.{◌≡◌, sym, ◌∙◌}
use mathlib.Core.List.{List, [], ◌∷◌, map}
use lib.ListN.{length, get_or, drop, drop_of_length-le}
use lib.Seq.{sets, drop-cons}
use Rattle.text.specs.Decimal.{decimal}
use Rattle.text.specs.Lines.{space, spaced}
use Rattle.text.specs.Writes.{Writes}
use Rattle.text.proofs.Texts.{writes_then, writes-word, rest-next}
use Rattle.reconstructor_counts.specs.declared.MessageCounts.{MessageCounts}
use Rattle.reconstructor_segments.specs.declared.Segment.{Segment}
use Rattle.reconstructor_segments.specs.Segments.{no_segment, elapsed}
use Rattle.daybook_segments.specs.declared.Stop.{Stop}
use Rattle.daybook_lines.specs.Most.{most_segment}
use Rattle.daybook_lines.specs.Listed.{segment_word, counts_word, stop_word, end_word, segment_line, segment_lines, counts_in, counts_line, stop_line, ending}

module _ {t t₁ t₂ t₃ t₄ t₅ t₆ t₇ : List ℕ} {a a₁ a₂ a₃ a₄ a₅ a₆ a₇ : ℕ} (place : ℕ) (g : Segment) where
  pub segment-written : Writes t a segment_word t₁ a₁ → Writes t₁ a₁ (space ∷ decimal place) t₂ a₂ → Writes t₂ a₂ (space ∷ decimal g.start_seq) t₃ a₃ → Writes t₃ a₃ (space ∷ decimal g.last_good_seq) t₄ a₄
      → Writes t₄ a₄ (space ∷ end_word g.end) t₅ a₅ → Writes t₅ a₅ (space ∷ decimal (elapsed g)) t₆ a₆ → Writes t₆ a₆ (10 ∷ []) t₇ a₇ → Writes t a (segment_line place g) t₇ a₇
  unfolding segment_line
  segment-written word p s l e d end =
      let five = writes-word [] d end in
      let four = writes-word (decimal (elapsed g) ∷ []) e five in
      let three = writes-word (end_word g.end ∷ decimal (elapsed g) ∷ []) l four in
      let two = writes-word (decimal g.last_good_seq ∷ end_word g.end ∷ decimal (elapsed g) ∷ []) s three in
      writes_then word (writes-word (decimal g.start_seq ∷ decimal g.last_good_seq ∷ end_word g.end ∷ decimal (elapsed g) ∷ []) p two)

module _ {t t₁ t₂ t₃ t₄ : List ℕ} {a a₁ a₂ a₃ a₄ : ℕ} where
  pub stop-written : (piece number : ℕ) → Writes t a stop_word t₁ a₁ → Writes t₁ a₁ (space ∷ decimal piece) t₂ a₂ → Writes t₂ a₂ (space ∷ decimal number) t₃ a₃ → Writes t₃ a₃ (10 ∷ []) t₄ a₄
      → Writes t a (stop_line (Some (record { piece = piece; number = number }))) t₄ a₄
  unfolding stop_line
  stop-written piece number word p n end = writes_then word (writes-word (decimal number ∷ []) p (writes-word [] n end))

  pub ending-written : (c : MessageCounts) (stop : Option Stop) → Writes t a counts_word t₁ a₁ → Writes t₁ a₁ (spaced (map decimal (counts_in c))) t₂ a₂ → Writes t₂ a₂ (10 ∷ []) t₃ a₃ → Writes t₃ a₃ (stop_line stop) t₄ a₄
      → Writes t a (ending c stop) t₄ a₄
  unfolding ending counts_line
  ending-written c stop word numbers end s = writes_then (writes_then word (writes_then numbers end)) s

-- ---- the lines of segments

-- those from segment i on, written from a place on, give what all of them give
pub record Written (t : List ℕ) (gs : List Segment) (u : List ℕ) (at i : ℕ) : Type 0 where
  pub text : sets u at (segment_lines (i + 1) (drop i gs)) ≡ sets t 0 (segment_lines 1 gs)
  pub ends : at + length (segment_lines (i + 1) (drop i gs)) ≡ length (segment_lines 1 gs)
  pub short : at ≤ most_segment * i

pub written_next : (t : List ℕ) (gs : List Segment) (u v : List ℕ) (at r i : ℕ) (g : Segment) → Written t gs u at i → i < length gs → get_or gs i no_segment ≡ g
    → Writes u at (segment_line (i + 1) g) v r → r ≤ at + most_segment → Written t gs v r (i + 1)
unfolding segment_lines
written_next t gs u v at r i g w h e p q =
    let d : drop i gs ≡ g ∷ drop (i + 1) gs = rw (add-one i) (rw e at (drop-cons gs i no_segment h)) in
    let n = rest-next (segment_lines (i + 1 + 1) (drop (i + 1) gs)) p in
    let a = rw d at w.text in
    let b = rw d at w.ends in
    record { text = n.0 ∙ a; ends = n.1 ∙ b; short = omega (arith, w.short) }

pub written_all : (t : List ℕ) (gs : List Segment) (u : List ℕ) (at i : ℕ) → Written t gs u at i → length gs ≤ i → Writes t 0 (segment_lines 1 gs) u at
unfolding segment_lines
written_all t gs u at i w h =
    let d : drop i gs ≡ [] = drop_of_length-le gs h in
    let a = rw d at w.text in
    let b = rw d at w.ends in
    record { text = a; ends = sym (add-zero at) ∙ b ∙ sym (zero-add (length (segment_lines 1 gs))) }
