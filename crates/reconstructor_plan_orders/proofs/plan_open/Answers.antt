-- Search, amounts, crossing and room are the rules' own tests of the line, in the order of `open_refusal`. Past them `n` is below the limit of orders, for
-- which the words have room, so the row can be inserted; and it is the one that the rules add.
use mathlib.Core.Path.{refl}
use native.Mathlib.Omega.{arith}
use borrow.Author.Tests.{ne_eqb, le-leb, lt-leb}
use Rattle.reconstructor_plan.specs.Rules.{event_refusal, open_refusal, event_deed, effect, counter_of}
use Rattle.reconstructor_state.proofs.Checks.{fails, goes_on, told-true, told-false, links}
use Rattle.message.proofs.Signed.{sized}
use Rattle.reconstructor_plan.proofs.Found.{it-rests, no_row, line-length}
use Rattle.reconstructor_plan_orders.proofs.plan_open.Goals as goal

pub returns-in_default : goal.returns-in_default
unfolding event_refusal open_refusal event_deed effect counter_of
returns-in_default c = fails _ _ _ (it-rests _ _ _ _ c.find.ensures _ c.in_default.is)

pub returns-then-p-eq0 : goal.returns-then-p-eq0
unfolding event_refusal open_refusal event_deed effect counter_of
returns-then-p-eq0 c =
    let p = sized _ c.size_of-p.ensures c.ranges.price in
    rw (no_row _ _ _ _ c.find.ensures c.in-None.is, ← p) (search links depth 20)

pub returns-then-q-eq0 : goal.returns-then-q-eq0
unfolding event_refusal open_refusal event_deed effect counter_of
returns-then-q-eq0 c =
    let p = sized _ c.size_of-p.ensures c.ranges.price in
    let q = sized _ c.size_of-q.ensures c.ranges.remaining in
    rw (no_row _ _ _ _ c.find.ensures c.in-None.is, ← p, ← q) (search links depth 20)

pub returns-then-would_cross : goal.returns-then-would_cross
unfolding event_refusal open_refusal event_deed effect counter_of
returns-then-would_cross c =
    let p = sized _ c.size_of-p.ensures c.ranges.price in
    let q = sized _ c.size_of-q.ensures c.ranges.remaining in
    rw (no_row _ _ _ _ c.find.ensures c.in-None.is, ← p, ← q) (search links depth 20)

pub returns-then-index-rules : goal.returns-then-index-rules
unfolding event_refusal open_refusal event_deed effect counter_of
returns-then-index-rules c =
    let p = sized _ c.size_of-p.ensures c.ranges.price in
    let q = sized _ c.size_of-q.ensures c.ranges.remaining in
    rw (no_row _ _ _ _ c.find.ensures c.in-None.is, ← p, ← q, line-length c.args.index.rows.words.now c.args.index.rows.count)
    (goes_on _ _ _ _ (refl) (goes_on _ _ _ _ (ne_eqb _ _ c.if-p-eq0.false) (goes_on _ _ _ _ (ne_eqb _ _ c.if-q-eq0.false) (goes_on _ _ _ _ (told-false c.would_cross.ensures c.if-would_cross.false) (fails _ _ _ (le-leb _ _ c.if-index-rules.true))))))

pub returns-then-no_room : goal.returns-then-no_room
unfolding event_refusal open_refusal event_deed effect counter_of
returns-then-no_room c =
    let p = sized _ c.size_of-p.ensures c.ranges.price in
    let q = sized _ c.size_of-q.ensures c.ranges.remaining in
    rw (no_row _ _ _ _ c.find.ensures c.in-None.is, ← p, ← q, line-length c.args.index.rows.words.now c.args.index.rows.count)
    (goes_on _ _ _ _ (refl) (goes_on _ _ _ _ (ne_eqb _ _ c.if-p-eq0.false) (goes_on _ _ _ _ (ne_eqb _ _ c.if-q-eq0.false) (goes_on _ _ _ _ (told-false c.would_cross.ensures c.if-would_cross.false) (goes_on _ _ _ _ (lt-leb _ _ c.if-index-rules.false) (fails _ _ _ (told-true c.no_room.ensures c.if-no_room.true)))))))

pub returns : goal.returns
unfolding event_refusal open_refusal event_deed effect counter_of
returns c =
    let p = sized _ c.size_of-p.ensures c.ranges.price in
    let q = sized _ c.size_of-q.ensures c.ranges.remaining in
    rw (no_row _ _ _ _ c.find.ensures c.in-None.is, ← p, ← q, line-length c.args.index.rows.words.now c.args.index.rows.count, c.observed_row.ensures)
    (goes_on _ _ _ _ (refl) (goes_on _ _ _ _ (ne_eqb _ _ c.if-p-eq0.false) (goes_on _ _ _ _ (ne_eqb _ _ c.if-q-eq0.false) (goes_on _ _ _ _ (told-false c.would_cross.ensures c.if-would_cross.false) (goes_on _ _ _ _ (lt-leb _ _ c.if-index-rules.false) (goes_on _ _ _ _ (told-false c.no_room.ensures c.if-no_room.false) (refl)))))), refl, (omega (arith, c.requires.room, c.if-index-rules.false), omega (arith, c.requires.small, c.if-index-rules.false)))
