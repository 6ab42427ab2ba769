-- Whatever the plan, the words become `stored` of its outcome's orders, and the rows counted are as many as these orders; that is `committed` (`commits`). A
-- plan that fits names a row in use, or there is room behind the last, as the callees ask.
use mathlib.Core.Path.{sym}
use native.Mathlib.Omega.{arith}
use lib.ListN.{length-append, length-set}
use Rattle.book.specs.Rows.{rows_of}
use Rattle.book.proofs.Rows.{length-rows, length-remove}
use Rattle.book.proofs.Stored.{stored_same}
use Rattle.reconstructor.proofs.Laws.{commits}
use Rattle.reconstructor_turn.proofs.commit.Goals as goal

pub returns-in-NoEffect : goal.returns-in-NoEffect
returns-in-NoEffect c =
    let a = c.args in
    rw c.in-NoEffect.is
    (commits a.book a.rows.now a.seq _ _ _ _ c.accepted.ensures (sym (length-rows a.rows.now 0 a.book.rows)) (stored_same a.rows.now a.book.rows (omega arith)))

pub returns-in-Insert : goal.returns-in-Insert
returns-in-Insert c =
    let a = c.args in
    rw c.in-Insert.is
    (commits a.book a.rows.now a.seq _ _ _ _ c.accepted-in-Insert.ensures (simp length-append (omega (arith, length-rows a.rows.now 0 a.book.rows))) c.insert.ensures)

pub returns-in-Reduce : goal.returns-in-Reduce
returns-in-Reduce c =
    let a = c.args in
    rw c.in-Reduce.is
    (commits a.book a.rows.now a.seq _ _ _ _ c.accepted-in-Reduce.ensures (simp length-set (sym (length-rows a.rows.now 0 a.book.rows))) c.reduce.ensures)

pub returns-in-Remove : goal.returns-in-Remove
returns-in-Remove c =
    let a = c.args in
    let l = length-rows a.rows.now 0 a.book.rows in
    let f = rw c.in-Remove.is at c.requires.plan_fits in
    let n = length-remove (rows_of a.rows.now a.book.rows) c.in-Remove.at (omega arith) in
    rw c.in-Remove.is (commits a.book a.rows.now a.seq _ _ _ _ c.accepted-in-Remove.ensures (omega arith) c.remove.ensures)
