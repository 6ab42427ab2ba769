-- The call's number tells a length from 7: every listing has the word `counts` and twelve numbers, so none has length 7.
-- Assumes nothing.
use Rattle.std.specs.Prelude.{Option, Some}
use Prim.Native.Nat.{ℕ, ◌*◌, ◌≤◌, ◌<◌}
use native.Mathlib.Omega.{arith}
use mathlib.Core.Path.{◌≡◌, refl, ap, ◌∙◌}
use mathlib.Core.Bool.{Bool, true, false, cond}
use mathlib.Core.List.{List, [], ◌∷◌, ◌++◌, map}
use borrow.Author.Tests.{ltb-true, lt-ltb, le-ltb}
use lib.Dec.{ltb}
use lib.ListN.{length, take, drop, length-append}
use lib.Seq.{take-append_seam}
use Rattle.text.specs.Decimal.{decimal}
use Rattle.text.specs.Lines.{spaced}
use Rattle.text.proofs.Decimals.{decimal-some}
use Rattle.reconstructor_counts.specs.declared.MessageCounts.{MessageCounts}
use Rattle.reconstructor_counts.specs.Counts.{no_counts}
use Rattle.daybook_file.specs.DayFile.{day_shaped}
use Rattle.daybook_segments.specs.declared.Day.{Day}
use Rattle.daybook_segments.specs.declared.Stop.{Stop}
use Rattle.daybook_replay.specs.Replay.{day_of}
use Rattle.daybook_lines.specs.Listed.{counts_in, counts_word, counts_line, stop_line, ending, segment_lines, listed}
use Rattle.daybook.specs.Listing.{not_a_day_file, listing, ReplayCall, replay_called, replay_call}

-- a number behind a space takes two bytes at least
numbers-long : (ns : List ℕ) → 2 * length ns ≤ length (spaced (map decimal ns))
numbers-long [] = omega arith
numbers-long (n ∷ ns) = rw (length-append (decimal n) (spaced (map decimal ns))) (omega (arith, numbers-long ns, decimal-some n))

ending-long : (c : MessageCounts) (stop : Option Stop) → 31 ≤ length (ending c stop)
unfolding ending counts_line
ending-long c stop =
    rw (length-append (counts_word ++ (spaced (map decimal (counts_in c)) ++ (10 ∷ []))) (stop_line stop), length-append (spaced (map decimal (counts_in c))) (10 ∷ []))
    (omega (arith, numbers-long (counts_in c)))

listed-long : (d : Day) → 31 ≤ length (listed d)
unfolding listed
listed-long d =
    rw (length-append (segment_lines 1 (take d.book.segments d.segments)) (ending d.book.counts d.stop)) (omega (arith, ending-long d.book.counts d.stop))

pub listing-long : (f : List ℕ) → 31 ≤ length (listing f)
unfolding listing
listing-long f = go (day_shaped f)
  where
    go : (b : Bool) → 31 ≤ length (cond b (listed (day_of f)) (ending no_counts (Some (record { piece = 0; number = not_a_day_file }))))
    go true = listed-long (day_of f)
    go false = ending-long no_counts (Some (record { piece = 0; number = not_a_day_file }))

-- 7 is said exactly where the slice is shorter than the listing
pub seven-tells : (f out : List ℕ) → (replay_call f out).number ≡ 7 → length out < length (listing f)
unfolding replay_call
seven-tells f out h = go (ltb (length out) (length (listing f))) refl h
  where
    go : (b : Bool) → ltb (length out) (length (listing f)) ≡ b
        → (cond b (replay_called 7 out) (replay_called (length (listing f)) (listing f ++ drop (length (listing f)) out))).number ≡ 7 → length out < length (listing f)
    go true e q = ltb-true (length out) (length (listing f)) e
    go false e q = absurd (omega (arith, q, listing-long f))

pub tells-seven : (f out : List ℕ) → length out < length (listing f) → (replay_call f out).number ≡ 7
unfolding replay_call
tells-seven f out h = rw (lt-ltb (length out) (length (listing f)) h)

-- a slice that the listing fits has it at its front
module _ (f out v : List ℕ) (n : ℕ) (e : replay_called n v ≡ replay_call f out) (h : length (listing f) ≤ length out) where
  fits : replay_call f out ≡ replay_called (length (listing f)) (listing f ++ drop (length (listing f)) out)
  unfolding replay_call
  fits = rw (le-ltb (length out) (length (listing f)) h)

  pub whole_length : n ≡ length (listing f)
  whole_length = ap (λ (c : ReplayCall). c.number) (e ∙ fits)

  pub whole-listing : take n v ≡ listing f
  whole-listing = rw (whole_length, ap (λ (c : ReplayCall). c.slice) (e ∙ fits)) (take-append_seam (listing f) (drop (length (listing f)) out))
