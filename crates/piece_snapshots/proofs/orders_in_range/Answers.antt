-- The test by place, over the places 0 to below `n`, is the test of the orders.
use mathlib.Core.Path.{◌∙◌, refl}
use native.Mathlib.Nat.{sub-zero}
use Rattle.std.proofs.Common.{rules, tests}
use Rattle.std.proofs.lemmas.Iterator.{YieldsList-from_range}
use Rattle.std.proofs.lemmas.Iterator.Search.{all_from_yields_List}
use Rattle.message.specs.Values.{order_in_range}
use Rattle.piece.specs.Piece.{order_at}
use Rattle.piece.proofs.Shapes.{orders_all}
use Rattle.piece_snapshots.proofs.orders_in_range.Goals as goal

pub returns : goal.returns
returns c =
    all_from_yields_List (λ i. order_in_range (order_at c.args.bytes.now i)) _ _ _ c.all.ensures.ran (YieldsList-from_range 0 c.args.n c.args.n refl (sub-zero c.args.n)) (λ x b q k. search (rules, tests))
    ∙ orders_all c.args.bytes.now 0 c.args.n
