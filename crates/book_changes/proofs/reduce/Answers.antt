use Rattle.book.proofs.Stored.{stored_set}
use Rattle.book_changes.proofs.reduce.Goals as goal

pub returns : goal.returns
returns c = rw (c.set_row.ensures, c.reduced-next.ensures, c.get_row-o.ensures) (stored_set c.args.rows.now c.args.n c.args.i _ c.requires.0.room c.requires.1)
