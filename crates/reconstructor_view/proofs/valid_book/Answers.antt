use mathlib.Core.Path.{◌∙◌, sym, refl, ap}
use Rattle.book.specs.Memory.{memory}
use Rattle.reconstructor_state.specs.State.{last_of}
use Rattle.reconstructor_view.specs.ValueReads.{read_refusal_of, view_refusal, sequence_of}
use Rattle.reconstructor_checks.proofs.StateChecks.{said, said-none}
use Rattle.reconstructor_state.proofs.Checks.{first-fails, first_on}
use Rattle.reconstructor_view.proofs.valid_book.Goals as goal

pub returns-in-Err : goal.returns-in-Err
unfolding view_refusal sequence_of
returns-in-Err c =
    let a = c.args in
    let h = said (read_refusal_of a.top.limit a.book (memory a.rows.now) a.short) _ _ c.read_checks.ensures c.in-Err.is in
    ap (λ o. sequence_of o (last_of a.book.status)) (sym (first-fails _ _ _ _ h))

pub returns-in-Ok : goal.returns-in-Ok
unfolding view_refusal sequence_of
returns-in-Ok c =
    let a = c.args in
    let h = said-none (read_refusal_of a.top.limit a.book (memory a.rows.now) a.short) _ c.read_checks.ensures c.in-Ok.is in
    c.valid_status.ensures ∙ ap (λ o. sequence_of o (last_of a.book.status)) (sym (first_on _ _ _ _ h refl))
