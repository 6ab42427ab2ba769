-- What the search finds in the rows is what the rules find in the line, so each test is theirs, in their order. Past the last one the maker's row, cut by the
-- size and gone at zero, is the line that they leave (`cut-outcome`), under any rules and at any sequence.
use Rattle.std.specs.Prelude.{None}
use mathlib.Core.Path.{refl}
use borrow.Author.Tests.{ne_eqb, le-ltb}
use Prim.Native.Nat.{◌-◌}
use Rattle.reconstructor_counts.specs.declared.Counter.TheVariants.{Matched}
use Rattle.reconstructor_plan.specs.Rules.{event_refusal, maker_refusal, event_deed, effect, counter_of}
use Rattle.message.proofs.Signed.{back, sized}
use Rattle.reconstructor_state.proofs.Checks.{fails, goes_on, told-false, links}
use Rattle.reconstructor_plan.proofs.Found.{cut-outcome, cut_fits, at_row, row-entry, it-rests, no_row}
use Rattle.reconstructor_plan_matches.proofs.plan_match.Goals as goal

pub returns-in_default : goal.returns-in_default
unfolding event_refusal maker_refusal event_deed effect counter_of
returns-in_default c = λ v seq. fails _ _ _ (it-rests _ _ _ _ c.find.ensures _ c.in_default.is)

pub returns-in_default-find : goal.returns-in_default-find
unfolding event_refusal maker_refusal event_deed effect counter_of
returns-in_default-find c = λ v seq. rw (no_row _ _ _ _ c.find.ensures c.in-None.is, no_row _ _ _ _ c.find-2.ensures c.in_default-find.is) (search links depth 20)

pub get-maker-requires : goal.get-maker-requires
get-maker-requires c = (at_row _ _ _ _ c.find-2.ensures _ c.in-Some.is).inside

pub returns-then-match_differs : goal.returns-then-match_differs
unfolding event_refusal maker_refusal event_deed effect counter_of
returns-then-match_differs c =
    let f = row-entry _ _ _ _ c.find-2.ensures _ c.get-maker.result c.in-Some.is c.get-maker.ensures in
    let p = rw (back c.args.price c.ranges.price.sfits) at c.match_differs.ensures in
    λ v seq. rw (no_row _ _ _ _ c.find.ensures c.in-None.is, f) (search links depth 20)

pub returns-then-q-eq0 : goal.returns-then-q-eq0
unfolding event_refusal maker_refusal event_deed effect counter_of
returns-then-q-eq0 c =
    let f = row-entry _ _ _ _ c.find-2.ensures _ c.get-maker.result c.in-Some.is c.get-maker.ensures in
    let p = rw (back c.args.price c.ranges.price.sfits) at c.match_differs.ensures in
    let q = sized _ c.size_of-q.ensures c.ranges.size in
    λ v seq. rw (no_row _ _ _ _ c.find.ensures c.in-None.is, f, ← q) (search links depth 20)

pub returns-then-maker-q : goal.returns-then-maker-q
unfolding event_refusal maker_refusal event_deed effect counter_of
returns-then-maker-q c =
    let f = row-entry _ _ _ _ c.find-2.ensures _ c.get-maker.result c.in-Some.is c.get-maker.ensures in
    let p = rw (back c.args.price c.ranges.price.sfits) at c.match_differs.ensures in
    let q = sized _ c.size_of-q.ensures c.ranges.size in
    λ v seq. rw (no_row _ _ _ _ c.find.ensures c.in-None.is, f, ← q) (search links depth 20)

pub returns : goal.returns
unfolding event_refusal maker_refusal event_deed effect counter_of
returns c =
    let f = row-entry _ _ _ _ c.find-2.ensures _ c.get-maker.result c.in-Some.is c.get-maker.ensures in
    let p = rw (back c.args.price c.ranges.price.sfits) at c.match_differs.ensures in
    let q = sized _ c.size_of-q.ensures c.ranges.size in
    let k = at_row _ _ _ _ c.find-2.ensures _ c.in-Some.is in
    let g = cut-outcome c.args.index.rows.words.now c.args.index.rows.count c.args.maker_id _ k (c.get-maker.result.remaining - c.size_of-q.result) None Matched in
    let h = cut_fits c.args.index.rows.words.now c.args.index.rows.count c.args.maker_id _ k (c.get-maker.result.remaining - c.size_of-q.result) None Matched in
    λ v seq. rw (c.cut_plan.ensures, no_row _ _ _ _ c.find.ensures c.in-None.is, f, ← q)
    (goes_on _ _ _ _ (refl) (goes_on _ _ _ _ (told-false p c.if-match_differs.false) (goes_on _ _ _ _ (ne_eqb _ _ c.if-q-eq0.false) (goes_on _ _ _ _ (le-ltb _ _ c.if-maker-q.false) (refl)))), g, h)
