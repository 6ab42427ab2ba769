-- Which message a handshake drops. 01, `bootstrap_with_buffer`: "the same product at or below that segment's start_seq, whatever the value holds, is
-- dropped and counted".
use Rattle.std.specs.Prelude.{ℕ, Bool, ◌&&◌, leb}
use Rattle.message.specs.declared.L3Message.{L3Message}
use Rattle.message.specs.declared.ProductId.{ProductId}
use Rattle.message.specs.Same.{same_product}

abbrev pub drops : ProductId → ℕ → L3Message → Bool
drops p start m = same_product m.product_id p && leb m.sequence start
