-- The loop keeps the whole answer equal to that of `in_turn` from row `i` on, and `levels` the number of levels before it. So each test of a turn is the
-- next check of the definition, and past the last row 13 alone is left to ask.
use mathlib.Core.Path.{refl, sym, ap₂, ◌∙◌}
use native.Mathlib.Omega.{arith}
use Rattle.book.specs.Line.{has_level, meet as meet_of}
use Rattle.book.specs.Rows.{rows_from, rows_of, line_of, side_of}
use Rattle.reconstructor_state.proofs.Checks.{fails, goes_on, told-true, told-false}
use Rattle.reconstructor_bootstrap.proofs.InTurn.{says, says_none, last13, reached-none, reached_all, levels-turn, in_turn-turn, room-told}
use Rattle.reconstructor_snapshot.proofs.check_in_turn.Goals as goal

pub loop-i-init : goal.loop-i-init
unfolding rows_from
loop-i-init c = (omega arith, omega arith, refl, reached-none c.args.max_levels c.args.rows.words.now c.args.rows.count)

pub returns-then-id_rests : goal.returns-then-id_rests
returns-then-id_rests c =
    let a = c.args in
    says (c.loop-i.invariant.3 ∙ in_turn-turn a.rows.words.now a.rows.count c.loop-i.i c.get-order.result c.loop-i-test.true c.get-order.ensures a.max_levels (last13 a.rows.words.now a.rows.count) ∙ fails _ _ _ (told-true c.id_rests.ensures c.if-id_rests.true))

pub returns-then-order : goal.returns-then-order
returns-then-order c =
    let a = c.args in
    says (c.loop-i.invariant.3 ∙ in_turn-turn a.rows.words.now a.rows.count c.loop-i.i c.get-order.result c.loop-i-test.true c.get-order.ensures a.max_levels (last13 a.rows.words.now a.rows.count) ∙ goes_on _ _ _ _ (told-false c.id_rests.ensures c.if-id_rests.false) (fails _ _ _ c.if-order.true))

pub returns-then-added-max_levels : goal.returns-then-added-max_levels
returns-then-added-max_levels c =
    let a = c.args in
    says (c.loop-i.invariant.3 ∙ in_turn-turn a.rows.words.now a.rows.count c.loop-i.i c.get-order.result c.loop-i-test.true c.get-order.ensures a.max_levels (last13 a.rows.words.now a.rows.count) ∙ goes_on _ _ _ _ (told-false c.id_rests.ensures c.if-id_rests.false) (goes_on _ _ _ _ c.if-order.false (fails _ _ _ (told-true (room-told (has_level (side_of c.get-order.result.kind) c.get-order.result.price (line_of (rows_of a.rows.words.now c.loop-i.i))) c.levels_added-added.result _ c.loop-i.levels a.max_levels c.levels_added-added.ensures.0 c.loop-i.invariant.2) c.if-added-max_levels.true))))

pub loop-i-preserved : goal.loop-i-preserved
loop-i-preserved c =
    let a = c.args in
    (omega arith, omega (arith, c.levels_added-added.ensures.1, c.loop-i.invariant.1), rw (c.loop-i.invariant.2, c.levels_added-added.ensures.0) (sym (levels-turn a.rows.words.now a.rows.count c.loop-i.i c.get-order.result c.loop-i-test.true c.get-order.ensures)), c.loop-i.invariant.3 ∙ in_turn-turn a.rows.words.now a.rows.count c.loop-i.i c.get-order.result c.loop-i-test.true c.get-order.ensures a.max_levels (last13 a.rows.words.now a.rows.count) ∙ goes_on _ _ _ _ (told-false c.id_rests.ensures c.if-id_rests.false) (goes_on _ _ _ _ c.if-order.false (goes_on _ _ _ _ (told-false (room-told (has_level (side_of c.get-order.result.kind) c.get-order.result.price (line_of (rows_of a.rows.words.now c.loop-i.i))) c.levels_added-added.result _ c.loop-i.levels a.max_levels c.levels_added-added.ensures.0 c.loop-i.invariant.2) c.if-added-max_levels.false) refl)))

pub returns-then-meet : goal.returns-then-meet
returns-then-meet c =
    let a = c.args in
    says (reached_all a.max_levels a.rows.words.now a.rows.count c.loop-i.i (omega arith) c.loop-i.invariant.3 ∙ fails _ _ _ (told-true (c.meet.ensures ∙ ap₂ meet_of c.best_bid.ensures c.best_ask.ensures) c.if-meet.true))

pub returns : goal.returns
returns c =
    let a = c.args in
    says_none (reached_all a.max_levels a.rows.words.now a.rows.count c.loop-i.i (omega arith) c.loop-i.invariant.3 ∙ goes_on _ _ _ _ (told-false (c.meet.ensures ∙ ap₂ meet_of c.best_bid.ensures c.best_ask.ensures) c.if-meet.false) refl)
