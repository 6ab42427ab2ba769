-- The loop keeps that the pieces are in place exactly if those from `i` on are in order: a turn tests piece `i` against the next (`order-next`), and the last
-- one is tested against the file's end.
use Prim.Native.Nat.{◌-◌, ◌<◌}
use mathlib.Core.Path.{◌≡◌}
use Rattle.daybook_file.specs.DayFile.{in_order, in_place}
use Rattle.daybook_file.proofs.in_place.Given as goal

abbrev pub invariant-loop-i : goal.invariant-loop-i
invariant-loop-i l = (l.i < l.count) × (in_place l.file l.count ≡ in_order l.file l.i (l.count - 1 - l.i))
