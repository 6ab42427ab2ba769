use borrow.Author.Rules.{rules}
use Rattle.book_buckets.proofs.Chains.{empty-zeros}
use Rattle.book_buckets.proofs.count_sized.Goals as goal

pub count_in-requires : goal.count_in-requires
count_in-requires g c = record { within = search rules; empty = empty-zeros g.row.N }
