use mathlib.Core.Path.{ap}
use Rattle.reconstructor_view.specs.Numbers.{sequence_told}
use Rattle.reconstructor_view_valid.proofs.last_sequence.Goals as goal

pub returns : goal.returns
returns c = record { value = c.last_sequence_under.ensures; told = ap sequence_told c.last_sequence_under.ensures }
