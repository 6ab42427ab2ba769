-- The loop keeps that loading what is left of the bytes from `i` on, into the words as they are, gives what the whole load gives. A turn is one step of
-- `loaded`, which changes nothing once fewer than eight bytes or no places are left.
use mathlib.Core.Path.{◌≡◌}
use Rattle.recorded.specs.Format.{loaded}
use Rattle.recorded.proofs.load.Given as goal

abbrev pub invariant-loop-i : goal.invariant-loop-i
invariant-loop-i l = loaded l.initial.words l.first l.bytes ≡ loaded l.words l.i l.rest
