use mathlib.Core.Path.{◌∙◌, ap, sym}
use mathlib.Core.Bool.{not}
use lib.Dec.{eqb}
use Rattle.book.specs.Rows.{rows_of}
use Rattle.book.proofs.Rows.{length-rows}
use Rattle.book_row_keys.specs.declared.KeyKind.TheVariants.{Id}
use Rattle.book_row_keys.specs.Keys.{key_of, count_keys}
use Rattle.book_keys.proofs.Counts.{twice_keys}
use Rattle.book_keys.proofs.id_twice.Goals as goal

pub returns : goal.returns
returns c =
    let os = rows_of c.args.rows.words.now c.args.rows.count in
    ap (λ x. not (eqb x c.args.rows.count)) c.count_keys.ensures
    ∙ sym (twice_keys os ∙ ap (λ x. not (eqb (count_keys (key_of Id) os) x)) (length-rows c.args.rows.words.now 0 c.args.rows.count))
