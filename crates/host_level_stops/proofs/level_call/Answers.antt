-- Past the boundary the state has its words. The scratch is held to the same limit there and past it (`short_is`).
use mathlib.Core.Path.{refl, sym, ◌∙◌}
use borrow.Author.Tests.{eq-eqb}
use lib.ListN.{length}
use Rattle.host_boundary.proofs.Passed.{passed}
use Rattle.host_level_stops.proofs.Stored.{short_is}
use Rattle.host_level_stops.proofs.level_call.Goals as goal

pub invariant_of-load_book : goal.invariant_of-load_book
invariant_of-load_book g c = record { whole = (passed _ _ _ _ _ (eq-eqb _ 0 (sym c.boundary-stop.ensures ∙ c.if-stop-ne0.false))).whole }

pub returns-then-is_empty-clause-uncounted : goal.returns-then-is_empty-clause-uncounted
returns-then-is_empty-clause-uncounted g c = λ z e. (rw (short_is c.args.state.now (length c.args.scratch.now), ← c.scratch_short-less.ensures, ← c.load_book-book.ensures) c.unwritten.ensures, refl)
