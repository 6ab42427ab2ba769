-- The search by place, over the places 0 to below `n`, is the search of the rows.
use mathlib.Core.Path.{◌∙◌, refl, sym}
use native.Mathlib.Nat.{sub-zero}
use Rattle.std.proofs.Common.{rules, tests}
use Rattle.std.proofs.lemmas.Iterator.{YieldsList-from_range}
use Rattle.std.proofs.lemmas.Iterator.Adapters.{option_map_id}
use Rattle.std.proofs.lemmas.Iterator.Search.{find_from_yields_List}
use Rattle.message.specs.Same.{same_id}
use Rattle.book.specs.Rows.{row_at, id_of}
use Rattle.book.proofs.Rows.{find_rows}
use Rattle.book_search.proofs.find.Goals as goal

pub returns : goal.returns
returns c =
    sym (option_map_id c.find.result)
    ∙ find_from_yields_List (λ i. same_id (id_of (row_at c.args.rows.words.now i)) c.args.id) _ _ _ c.find.ensures.ran (YieldsList-from_range 0 c.args.rows.count c.args.rows.count refl (sub-zero c.args.rows.count)) (λ x b q k. search (rules, tests))
    ∙ find_rows c.args.id c.args.rows.words.now 0 c.args.rows.count
