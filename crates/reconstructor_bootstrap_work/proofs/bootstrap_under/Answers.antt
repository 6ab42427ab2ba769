-- By what `own_checks` says, then by what the piece reads as: each refusal is the first that `bootstrapped_to` meets (`unusable`, `not-read`). Past both
-- the state is usable under `most_rows`, as `bootstrap_usable` requires, and what that leaves is the definition's (`read`).
use Rattle.std.specs.Prelude.{Err}
use mathlib.Core.Path.{sym, ap, ◌∙◌}
use Rattle.book.specs.Memory.{memory}
use Rattle.reconstructor_checks.specs.StateChecks.{book_refusal}
use Rattle.reconstructor_bootstrap.specs.Bootstrap.{booted, refused_work}
use Rattle.reconstructor_checks.proofs.StateChecks.{said, said-none, usable, usable_under}
use Rattle.reconstructor_bootstrap.proofs.Whole.{unusable, not-read, read}
use Rattle.reconstructor_bootstrap_work.proofs.bootstrap_under.Goals as goal

pub returns-in-Err : goal.returns-in-Err
returns-in-Err c =
    let a = c.args in
    ap (λ w. booted w (memory a.rows.now)) c.refused.ensures
    ∙ unusable a.top.limit a.book (memory a.rows.now) a.lent a.last a.bytes.now _ (said _ c.own_checks-checked.result _ c.own_checks-checked.ensures c.in-Err.is)

pub bootstrap_usable-requires : goal.bootstrap_usable-requires
bootstrap_usable-requires c =
    let a = c.args in
    usable_under a.top.limit a.book (memory a.rows.now) a.lent c.args.top.workable (usable a.top.limit a.book (memory a.rows.now) a.lent (said-none (book_refusal a.top.limit a.book (memory a.rows.now) a.lent) c.own_checks-checked.result c.own_checks-checked.ensures c.in_default.is))

pub returns-in-Ok : goal.returns-in-Ok
returns-in-Ok c =
    let a = c.args in
    c.bootstrap_usable.ensures
    ∙ read a.top.limit a.book (memory a.rows.now) a.lent a.last a.bytes.now (said-none (book_refusal a.top.limit a.book (memory a.rows.now) a.lent) c.own_checks-checked.result c.own_checks-checked.ensures c.in_default.is) _ (sym c.read_snapshot.ensures.value ∙ c.in-Ok.is)

pub returns-in-Err-read_snapshot : goal.returns-in-Err-read_snapshot
returns-in-Err-read_snapshot c =
    let a = c.args in
    ap (λ w. booted w (memory a.rows.now)) (c.refused-in-Err-read_snapshot.ensures ∙ ap (λ x. refused_work (Err x) a.book a.lent a.last) c.from.ensures)
    ∙ not-read a.top.limit a.book (memory a.rows.now) a.lent a.last a.bytes.now (said-none (book_refusal a.top.limit a.book (memory a.rows.now) a.lent) c.own_checks-checked.result c.own_checks-checked.ensures c.in_default.is) _ (sym c.read_snapshot.ensures.value ∙ c.in-Err-read_snapshot.is)
