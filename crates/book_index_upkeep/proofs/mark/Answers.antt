use mathlib.Core.Path.{sym}
use native.Mathlib.Omega.{arith}
use lib.Seq.{set_out}
use Rattle.book_index.specs.Index.{marked_at}
use Rattle.book_index_upkeep.proofs.mark.Goals as goal

pub returns-then-m-gt0 : goal.returns-then-m-gt0
unfolding marked_at
returns-then-m-gt0 c = rw c.bucket_of-b.ensures.0

pub returns-else-m-gt0 : goal.returns-else-m-gt0
unfolding marked_at
returns-else-m-gt0 c = sym (set_out c.args.places.now _ _ (omega arith))
