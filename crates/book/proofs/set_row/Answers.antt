-- Eight writes at places in a row put `words_of` the order in place of the words there (`sets-eq`), which is `set_row`.
use Prim.Native.Nat.{◌*◌}
use native.Mathlib.Omega.{arith}
use native.Mathlib.Numerals.{add-one, add-two, add-three, add-four, add_five, add_six, add_seven}
use lib.Seq.{sets-eq}
use Rattle.book.specs.Rows.{row_words, set_row, words_of}
use Rattle.book.proofs.set_row.Goals as goal

pub returns : goal.returns
unfolding set_row
returns c =
    simp (add-one, add-two, add-three, add-four, add_five, add_six, add_seven)
    (sets-eq (words_of c.args.order) c.args.rows.now (row_words * c.args.i) (omega arith))
