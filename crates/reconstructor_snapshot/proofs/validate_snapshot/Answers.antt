-- 10, then 14 of the orders, are tested as the definition does. Once 14 is passed the sum of bids and asks is within the limit, so it can be formed and the
-- orders validated; and the orders by place are the snapshot's line (`line-places`).
use mathlib.Core.Path.{sym, ap, ◌∙◌}
use mathlib.Core.Bool.{not}
use Rattle.reconstructor_bootstrap.specs.Snapshot.{line_refusal, snapshot_refusal}
use Rattle.reconstructor_bootstrap.specs.Bootstrap.{validated}
use Rattle.reconstructor_state.proofs.Checks.{fails, goes_on, told-true, told-false}
use Rattle.reconstructor_bootstrap.proofs.Places.{line-places}
use Rattle.reconstructor_bootstrap.proofs.InTurn.{says}
use Rattle.reconstructor_snapshot.proofs.validate_snapshot.Goals as goal

pub returns-then-not-same_product : goal.returns-then-not-same_product
unfolding snapshot_refusal
returns-then-not-same_product c = says (fails _ _ _ (ap not (sym c.same_product.ensures ∙ c.if-not-same_product.true)))

pub returns-then-over_limit : goal.returns-then-over_limit
unfolding snapshot_refusal
returns-then-over_limit c = says (goes_on _ _ _ _ (ap not (sym c.same_product.ensures ∙ c.if-not-same_product.false)) (fails _ _ _ (told-true c.over_limit.ensures c.if-over_limit.true)))

pub returns : goal.returns
unfolding snapshot_refusal
returns c =
    let a = c.args in
    c.validate_orders.ensures ∙ ap validated (sym (goes_on _ _ _ _ (ap not (sym c.same_product.ensures ∙ c.if-not-same_product.false)) (goes_on _ _ _ _ (told-false c.over_limit.ensures c.if-over_limit.false) (ap (line_refusal a.rules.max_levels) (line-places a.snapshot a.bytes.now)))))
