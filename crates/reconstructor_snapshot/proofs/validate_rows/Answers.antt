use mathlib.Core.Path.{sym, ◌∙◌}
use Rattle.book.specs.Rows.{rows_of}
use Rattle.reconstructor_checks.proofs.StateChecks.{words-rows}
use Rattle.reconstructor_bootstrap.proofs.InTurn.{says_none, unbroken-passes}
use Rattle.reconstructor_snapshot.proofs.validate_rows.Goals as goal

pub returns : goal.returns
returns c = says_none (unbroken-passes c.args.max_levels (rows_of c.args.rows.words.now c.args.rows.count) (sym (words-rows c.args.max_levels c.args.rows.words.now c.args.rows.count c.args.rows.lent.few c.args.rows.lent.room) ∙ sym c.rows_broken.ensures ∙ c.if-rows_broken.false))
