use mathlib.Core.Path.{ap, ◌∙◌}
use Rattle.book.specs.Rows.{rows_of, line_of}
use Rattle.reconstructor_bootstrap.specs.Snapshot.{line_refusal}
use Rattle.reconstructor_bootstrap.specs.Bootstrap.{validated}
use Rattle.reconstructor_bootstrap.proofs.Whole.{line-staged}
use Rattle.reconstructor_snapshot.proofs.validate_staged.Goals as goal

pub returns : goal.returns
returns g c =
    let a = c.args in
    c.validate_rows.ensures ∙ ap (λ l. validated (line_refusal a.max_levels l)) (ap (λ ws. line_of (rows_of ws a.n)) c.store_rows.ensures ∙ line-staged _ a.bytes.now 0 a.bids a.n 0)
