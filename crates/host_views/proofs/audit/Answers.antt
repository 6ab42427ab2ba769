use Rattle.book.specs.Memory.{memory, extent_of}
use mathlib.Core.Path.{sym, ap, ◌∙◌}
use Prim.Native.Nat.{ℕ}
use mathlib.Core.Bool.{false}
use borrow.Author.Tests.{eq-eqb}
use Rattle.host_boundary.proofs.Passed.{passed, turned-away, goes_on}
use Rattle.reconstructor_view.specs.Numbers.{audited_told}
use Rattle.host_views.specs.Views.{audit_call}
use Rattle.host_views.proofs.audit.Goals as goal

pub returns-then-stop-ne0 : goal.returns-then-stop-ne0
unfolding audit_call
returns-then-stop-ne0 c = turned-away _ _ (λ (n : ℕ). n) _ c.boundary-stop.ensures c.if-stop-ne0.true

pub invariant_of-load_book : goal.invariant_of-load_book
invariant_of-load_book c = record { whole = (passed c.args.state.now (extent_of (memory c.args.rows.now)) false false false (eq-eqb _ _ (sym c.boundary-stop.ensures ∙ c.if-stop-ne0.false))).whole }

pub returns : goal.returns
unfolding audit_call
returns c = goes_on _ _ (λ (n : ℕ). n) _ _ c.boundary-stop.ensures c.if-stop-ne0.false (rw (← c.load_book-book.ensures) (c.audited_number.ensures ∙ ap (λ x. (audited_told x).number) c.audit-answer.ensures.value))
