-- What the call answers and leaves, of a listing that was written into a text of its own.
-- Assumes nothing.
use Prim.Native.Nat.{ℕ, ◌≤◌}
use native.Mathlib.Nat.{zero-add}
use native.Mathlib.Omega.{arith}
use mathlib.Core.Path.{◌≡◌, ◌∙◌}
use mathlib.Core.List.{List}
use borrow.Author.Tests.{le-ltb}
use lib.ListN.{length, take}
use Rattle.text.specs.Writes.{Writes}
use Rattle.text.proofs.Texts.{sets-front, take-front}
use Rattle.daybook_lines.specs.Most.{listing_bytes}
use Rattle.daybook.specs.Listing.{listing, replay_called, replay_call}

module _ (f t u : List ℕ) (n : ℕ) (w : Writes t 0 (listing f) u n) (short : n ≤ listing_bytes) where
  pub length_is : n ≡ length (listing f)
  length_is = w.ends ∙ zero-add (length (listing f))

  few : length (listing f) ≤ listing_bytes
  few = omega (arith, length_is)

  -- the text that was written is the listing
  pub staged : listing_bytes ≤ length t → take n u ≡ listing f
  staged h = rw (w.text, length_is) (take-front t (listing f) (omega (arith, few)))

  pub call_fits : (out v : List ℕ) (r : ℕ) → n ≤ length out → Writes out 0 (listing f) v r → replay_called n v ≡ replay_call f out
  unfolding replay_call
  call_fits out v r h p =
      rw (le-ltb (length out) (length (listing f)) (omega (arith, length_is)), length_is, p.text, sets-front out (listing f) (omega (arith, length_is)))
