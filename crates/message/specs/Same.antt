-- Equality of sides, ids and products.
use Rattle.std.specs.Prelude.{Bool, true, false, ◌&&◌, eqb}
use Rattle.message.specs.declared.L3Side.{L3Side}
use Rattle.message.specs.declared.L3Side.TheVariants.{Buy, Sell}
use Rattle.message.specs.declared.OrderId.{OrderId}
use Rattle.message.specs.declared.ProductId.{ProductId}

abbrev pub same_side : L3Side → L3Side → Bool
same_side Buy Buy = true
same_side Buy Sell = false
same_side Sell Buy = false
same_side Sell Sell = true

unfoldable pub same_id : OrderId → OrderId → Bool
same_id a b = eqb a.high b.high && eqb a.low b.low

unfoldable pub same_product : ProductId → ProductId → Bool
same_product a b = eqb a.high b.high && eqb a.low b.low
