-- By what `own_checks` says: 1, 2 or 3 comes first in `step_refusal`, and leaves all unchanged (`unusable-work`). Passed, the state can be trusted, and a
-- step that asks for 1, 2 and 3 no more is the same step (`usable-work`).
use mathlib.Core.Path.{◌∙◌, sym}
use Rattle.book.specs.Memory.{memory}
use Rattle.reconstructor_checks.proofs.StateChecks.{usable, trusted_under, said, said-none}
use Rattle.reconstructor_handshake.proofs.Step.{unusable-work, usable-work}
use Rattle.reconstructor_handshake.proofs.Handshake.step_under.Goals as goal

pub step_trusted-requires : goal.step_trusted-requires
step_trusted-requires c =
    let a = c.args in
    trusted_under a.top.limit a.book (memory a.rows.now) a.lent c.args.top.workable (usable a.top.limit a.book (memory a.rows.now) a.lent (said-none _ _ c.own_checks.ensures c.in-Ok.is))

pub returns-in-Err : goal.returns-in-Err
returns-in-Err c =
    let a = c.args in
    rw (unusable-work a.top.limit a.self a.book (memory a.rows.now) a.lent a.last a.message _ (said _ _ _ c.own_checks.ensures c.in-Err.is), c.unchanged.ensures)

pub returns-in-Ok : goal.returns-in-Ok
returns-in-Ok c =
    let a = c.args in
    c.step_trusted.ensures
    ∙ sym (usable-work a.top.limit a.self a.book (memory a.rows.now) a.lent a.last a.message (usable a.top.limit a.book (memory a.rows.now) a.lent (said-none _ _ c.own_checks.ensures c.in-Ok.is)))
