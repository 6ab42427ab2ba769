-- From the last row to the first: no row so far is broken, and `bid` and `ask` are the highest buy and the lowest sell of them. A broken row settles the
-- answer; where there is none, each price lies between the two numbers that stand for no price, so that `ask <= bid` is `crossed`.
use Prim.Native.Nat.{◌-◌}
use mathlib.Core.Path.{◌≡◌, ◌∙◌, ap, ap₂, sym}
use mathlib.Core.Bool.{true, false}
use native.Mathlib.Nat.{sub-zero}
use native.Mathlib.Omega.{arith}
use lib.Dec.{leb}
use Rattle.book.specs.Rows.{rows_from, rows_of}
use Rattle.book.specs.Broken.{some_row_broken}
use Rattle.book.proofs.Rows.{rows_prev, rows-done}
use Rattle.book.proofs.Kept.{broken-from}
use Rattle.book_valid.proofs.Crossing.{highest, lowest, crossed_is}
use Rattle.book_valid.proofs.screened.Goals as goal

pub loop-i-init : goal.loop-i-init
loop-i-init c = let none = rows-done c.args.rows.words.now c.args.rows.count c.args.rows.count (omega arith) in (rw none, rw none, rw none)

pub returns-then-row_broken : goal.returns-then-row_broken
returns-then-row_broken c =
    let here : some_row_broken (rows_from c.args.rows.words.now (c.loop-i.i - 1) (c.args.rows.count - (c.loop-i.i - 1))) ≡ true =
    rw (rows_prev c.args.rows.words.now c.args.rows.count c.loop-i.i (c.loop-i.i - 1) c.get-o.result (omega arith) (omega arith) c.get-o.ensures, ← c.row_broken.ensures, c.if-row_broken.true) in
    rw (broken-from c.args.rows.words.now c.args.rows.count (c.loop-i.i - 1) (omega arith) here)

pub loop-i-preserved : goal.loop-i-preserved
loop-i-preserved c =
    let next = rows_prev c.args.rows.words.now c.args.rows.count c.loop-i.i (c.loop-i.i - 1) c.get-o.result (omega arith) (omega arith) c.get-o.ensures in (
      rw (next, c.raised-bid.ensures, c.loop-i.invariant.0),
      rw (next, c.lowered-ask.ensures, c.loop-i.invariant.1),
      rw (next, ← c.row_broken.ensures, c.if-row_broken.false) c.loop-i.invariant.2,
    )

pub returns : goal.returns
returns c =
    let z : c.loop-i.i ≡ 0 = omega arith in
    let os = rows_of c.args.rows.words.now c.args.rows.count in
    let all : rows_from c.args.rows.words.now c.loop-i.i (c.args.rows.count - c.loop-i.i) ≡ os = rw (z, sub-zero) in
    let sound : some_row_broken os ≡ false = ap some_row_broken (sym all) ∙ c.loop-i.invariant.2 in
    ap₂ leb (c.loop-i.invariant.1 ∙ ap lowest all) (c.loop-i.invariant.0 ∙ ap highest all) ∙ sym (rw sound (crossed_is os sound))
