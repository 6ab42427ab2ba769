-- The test by place, over the places 0 to below `n`, is the test of the rows.
use mathlib.Core.Path.{◌∙◌, refl}
use mathlib.Core.Bool.{not}
use native.Mathlib.Nat.{sub-zero}
use Rattle.std.proofs.Common.{rules, tests}
use Rattle.std.proofs.lemmas.Iterator.{YieldsList-from_range}
use Rattle.std.proofs.lemmas.Iterator.Search.{any_from_yields_List}
use Rattle.message.specs.Same.{same_side}
use Rattle.book.specs.declared.Resting.{Resting}
use Rattle.book.specs.Rows.{row_at, side_of}
use Rattle.book.proofs.Rows.{any_rows}
use Rattle.book_keys.specs.Others.{some_other}
use Rattle.book_keys.proofs.some_other.Goals as goal

pub returns : goal.returns
returns c =
    let test = λ (o : Resting). not (same_side (side_of o.kind) c.args.side) in
    any_from_yields_List (λ i. test (row_at c.args.rows.words.now i)) _ _ _ c.any.ensures.ran (YieldsList-from_range 0 c.args.rows.count c.args.rows.count refl (sub-zero c.args.rows.count)) (λ x b q k. search (rules, tests))
    ∙ any_rows test (some_other c.args.side) refl (λ o os. refl) c.args.rows.words.now 0 c.args.rows.count
