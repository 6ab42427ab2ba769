-- The loop keeps what the text comes to: the numbers that are left, written from the next place on, give what all of them give (`rest-next`).
use mathlib.Core.List.{map}
use lib.ListN.{length, drop}
use Prim.Native.Nat.{◌≤◌, ◌+◌, ◌*◌}
use mathlib.Core.Path.{◌≡◌}
use lib.Seq.{sets}
use Rattle.text.specs.Decimal.{decimal}
use Rattle.text.specs.Lines.{spaced, most_spaced}
use Rattle.text.proofs.put_numbers.Given as goal

abbrev pub invariant-loop-n : goal.invariant-loop-n
invariant-loop-n l =
    ((sets l.text l.place (spaced (map decimal (drop l.n-index l.numbers))) ≡ sets l.initial.text l.at (spaced (map decimal l.numbers)))
    × (l.place + length (spaced (map decimal (drop l.n-index l.numbers))) ≡ l.at + length (spaced (map decimal l.numbers))))
    × (l.place ≤ l.at + most_spaced * l.n-index) × (length l.text ≡ length l.initial.text)
