use mathlib.Core.Path.{ap}
use Rattle.reconstructor_view.specs.Numbers.{best_told}
use Rattle.reconstructor_view_valid.proofs.best.Goals as goal

pub returns : goal.returns
returns c = record { value = c.best_under.ensures; told = ap best_told c.best_under.ensures }
