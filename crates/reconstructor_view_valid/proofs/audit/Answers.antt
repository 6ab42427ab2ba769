use mathlib.Core.Path.{ap}
use Rattle.reconstructor_view.specs.Numbers.{audited_told}
use Rattle.reconstructor_view_valid.proofs.audit.Goals as goal

pub returns : goal.returns
returns c = record { value = c.audit_under.ensures; told = ap audited_told c.audit_under.ensures }
