use native.Mathlib.Omega.{arith}
use borrow.Author.Tests.{lt-ltb, le-ltb}
use Rattle.reconstructor_checks.specs.StateChecks.{broken}
use Rattle.book.specs.Memory.{memory}
use Rattle.reconstructor_checks.proofs.StateChecks.{memory-room, words-rows}
use Rattle.reconstructor_checks.proofs.broken.Goals as goal

pub returns-then-n-book : goal.returns-then-n-book
unfolding broken
returns-then-n-book c = rw (lt-ltb _ _ c.if-n-book.true)

pub returns-then-rows_broken : goal.returns-then-rows_broken
unfolding broken
returns-then-rows_broken c =
    let r = memory-room c.args.book.rules (memory c.args.rows.now) c.requires.0 in
    let w = words-rows c.args.book.rules.max_levels c.args.rows.now c.args.book.rows (omega arith) (omega arith) in
    rw (le-ltb _ _ c.if-n-book.false, ← w, ← c.rows_broken.ensures, c.if-rows_broken.true)

pub returns : goal.returns
unfolding broken
returns c =
    let r = memory-room c.args.book.rules (memory c.args.rows.now) c.requires.0 in
    let w = words-rows c.args.book.rules.max_levels c.args.rows.now c.args.book.rows (omega arith) (omega arith) in
    rw (le-ltb _ _ c.if-n-book.false, ← w, ← c.rows_broken.ensures, c.if-rows_broken.false) c.unsettled.ensures
