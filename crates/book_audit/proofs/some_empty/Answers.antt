-- The test by place, over the places 0 to below `n`, is the test of the rows.
use mathlib.Core.Path.{◌∙◌, refl}
use lib.Dec.{eqb}
use native.Mathlib.Nat.{sub-zero}
use Rattle.std.proofs.Common.{rules, tests}
use Rattle.std.proofs.lemmas.Iterator.{YieldsList-from_range}
use Rattle.std.proofs.lemmas.Iterator.Search.{any_from_yields_List}
use Rattle.book.specs.declared.Resting.{Resting}
use Rattle.book.specs.Rows.{row_at}
use Rattle.book.proofs.Rows.{any_rows}
use Rattle.book_valid.specs.Audit.{some_empty}
use Rattle.book_audit.proofs.some_empty.Goals as goal

pub returns : goal.returns
returns c =
    let test = λ (o : Resting). eqb o.remaining 0 in
    any_from_yields_List (λ i. test (row_at c.args.rows.words.now i)) _ _ _ c.any.ensures.ran (YieldsList-from_range 0 c.args.rows.count c.args.rows.count refl (sub-zero c.args.rows.count)) (λ x b q k. search (rules, tests))
    ∙ any_rows test some_empty refl (λ o os. refl) c.args.rows.words.now 0 c.args.rows.count
