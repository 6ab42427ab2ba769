-- The loop keeps `heads` and `next` the chains of the last `k` rows. The chain of a bucket has every later row with the key, so the search of it tells
-- whether the key is new, and `count` grows exactly where `count_keys` does.
use Prim.Native.Nat.{◌≤◌}
use mathlib.Core.Path.{◌≡◌}
use lib.ListN.{length}
use Rattle.book_row_keys.specs.Keys.{key_of, count_keys}
use Rattle.book_buckets.specs.Buckets.{rest_of, Chained}
use Rattle.book_buckets.proofs.Chains.{Heads}
use Rattle.book_buckets.proofs.count_in.Given as goal

abbrev pub invariant-loop-k : goal.invariant-loop-k
invariant-loop-k l = record {
  most : l.count ≤ l.k;
  as_many : length l.heads ≡ length l.initial.heads;
  as_long : length l.next ≡ length l.initial.next;
  counted : l.count ≡ count_keys (key_of l.kind) (rest_of l.rows.words.now l.rows.count l.k);
  headed : Heads l.rows.words.now l.rows.count l.kind l.m l.heads l.k;
  chained : Chained l.rows.words.now l.rows.count l.kind l.m l.next l.k;
}
