use Rattle.book.proofs.Stored.{stored_push}
use Rattle.book_changes.proofs.insert.Goals as goal

pub returns : goal.returns
returns c = rw c.set_row.ensures (stored_push c.args.rows.now c.args.n c.args.order c.requires.0)
