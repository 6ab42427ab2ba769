use mathlib.Core.Path.{refl}
use Rattle.book.specs.Memory.{memory}
use Rattle.reconstructor.specs.Applied.{after_gate, applied_to}
use Rattle.reconstructor.specs.Refusals.{gate_refusal}
use Rattle.reconstructor_state.proofs.Checks.{first-fails, first_on}
use Rattle.reconstructor_checks.proofs.StateChecks.{usable, trusted_under, said, said-none}
use Rattle.reconstructor_apply.proofs.apply_under.Goals as goal

pub apply_trusted-requires : goal.apply_trusted-requires
apply_trusted-requires c =
    let a = c.args in
    trusted_under a.top.limit a.book (memory a.rows.now) a.lent c.args.top.workable (usable a.top.limit a.book (memory a.rows.now) a.lent (said-none _ _ c.own_checks.ensures c.in-Ok.is))

pub returns-in-Err : goal.returns-in-Err
unfolding applied_to after_gate gate_refusal
returns-in-Err c = rw (first-fails _ _ _ _ (said _ _ _ c.own_checks.ensures c.in-Err.is), c.work_of.ensures, c.refused.ensures)

pub returns-in-Ok : goal.returns-in-Ok
unfolding applied_to gate_refusal
returns-in-Ok c = rw (first_on _ _ _ _ (said-none _ _ c.own_checks.ensures c.in-Ok.is) refl) c.apply_trusted.ensures
