use mathlib.Core.Path.{sym, ◌∙◌}
use borrow.Author.Tests.{eq-eqb}
use Rattle.host_boundary.proofs.Passed.{passed}
use Rattle.host_views.proofs.read_and_store.Goals as goal

pub invariant_of-load_book : goal.invariant_of-load_book
invariant_of-load_book g c = record { whole = (passed _ _ _ _ _ (eq-eqb _ _ (sym c.boundary-stop.ensures ∙ c.if-stop-ne0.false))).whole }
