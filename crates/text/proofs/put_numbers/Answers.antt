-- The loop keeps what the text comes to: the numbers that are left, written from the next place on, give what all of them give (`rest-next`).
use native.Mathlib.Numerals.{add-one}
use mathlib.Core.List.{map, ◌∷◌}
use lib.ListN.{length, get_or, drop}
use Prim.Native.Nat.{◌+◌, ◌<◌}
use native.Mathlib.Omega.{arith}
use mathlib.Core.Path.{◌≡◌, ◌∙◌}
use lib.Seq.{drop-cons}
use Rattle.text.specs.Decimal.{decimal}
use Rattle.text.specs.Lines.{spaced}
use Rattle.text.proofs.Texts.{rest-next}
use Rattle.text.proofs.put_numbers.Goals as goal

pub loop-n-preserved : goal.loop-n-preserved
loop-n-preserved c =
    let l = c.loop-n in
    let ns = c.args.numbers.now in
    let h : l.n-index < length ns = omega arith in
    let d : drop l.n-index ns ≡ get_or ns l.n-index 0 ∷ drop (l.n-index + 1) ns = rw (add-one l.n-index) (drop-cons ns l.n-index 0 h) in
    let q = rest-next (spaced (map decimal (drop (l.n-index + 1) ns))) c.put_number-place.ensures.writes in
    let e = rw d at l.invariant.0 in
    ((q.0 ∙ e.0, q.1 ∙ e.1), omega (arith, c.put_number-place.ensures.short, l.invariant.1), c.put_number-place.auto.text ∙ l.invariant.2)
