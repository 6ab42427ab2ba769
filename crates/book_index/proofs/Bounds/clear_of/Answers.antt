use Rattle.book_index.specs.Index.{clear_of}
use Rattle.book_index.proofs.Bounds.clear_of.Goals as goal

pub returns-in-Buy : goal.returns-in-Buy
unfolding clear_of
returns-in-Buy c = rw c.in-Buy.is

pub returns-in-Sell : goal.returns-in-Sell
unfolding clear_of
returns-in-Sell c = rw c.in-Sell.is
