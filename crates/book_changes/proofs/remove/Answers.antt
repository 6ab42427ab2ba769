-- The words of the later rows move down by one row (`rows_shift`) and those past row `n` stay. The freed row is zeroed, which is how `stored` fills it.
use Prim.Native.Nat.{◌+◌, ◌*◌, ◌-◌, ◌≤◌}
use mathlib.Core.Path.{◌≡◌, ◌∙◌, ap}
use native.Mathlib.Omega.{arith}
use lib.ListN.{length, drop, length-drop}
use lib.Seq.{length-take-le}
use Rattle.laws.proofs.Splice.{splice-rest}
use Rattle.book.specs.Rows.{row_words, empty_row, set_row}
use Rattle.book.proofs.Rows.{row_path, rows_shift, rest_set, length-set_row}
use Rattle.book.proofs.Stored.{stored-remove}
use Rattle.book_changes.proofs.remove.Goals as goal

pub returns : goal.returns
returns c =
    let n = c.args.n in
    let i = c.args.i in
    let ws = c.args.rows.now in
    let vs = c.copy_within.new.self in
    let d = c.default.ensures in
    let zeros : c.default.result ≡ empty_row = row_path d.0 d.1.0 d.1.1.0 d.1.1.1.0 d.1.1.1.1.0 d.1.1.1.1.1.0 d.1.1.1.1.1.1.0 d.1.1.1.1.1.1.1 in
    let count = length-take-le (row_words * n - row_words * (i + 1)) (drop (row_words * (i + 1)) ws) (omega (arith, length-drop (row_words * (i + 1)) ws)) in
    let rest : drop (row_words * n) vs ≡ drop (row_words * n) ws =
    ap (drop (row_words * n)) c.copy_within.ensures.after
    ∙ splice-rest ws _ (row_words * i) _ (ap (λ x. row_words * i + x) count) (omega arith) (row_words * n) (omega arith) in
    let fits : row_words * n ≤ length vs = omega arith in
    c.set_row.ensures
    ∙ ap (set_row vs (n - 1)) zeros
    ∙ stored-remove ws (set_row vs (n - 1) empty_row) n i (rw (length-set_row vs (n - 1) empty_row (omega arith)) fits) (omega arith)
    (rows_shift ws vs n i empty_row fits (omega arith) c.copy_within.ensures.by_index.1 c.copy_within.ensures.by_index.0)
    (rest_set vs n (n - 1) empty_row fits (omega arith) ∙ rest)
