-- The loop keeps that the row at link `j`, if there is one, is in the key's bucket, and that the rows from there on have the key exactly where those from
-- `first` on have it. The rows that the next link skips are of other buckets, so they cannot have the key; and links get smaller, so the walk ends.
use Prim.Native.Nat.{◌≤◌}
use mathlib.Core.Path.{◌≡◌}
use Rattle.book_row_keys.specs.Keys.{key_of, has_key}
use Rattle.book_buckets.specs.Buckets.{rest_of, bucket_of, Headed}
use Rattle.book_buckets.proofs.chain_has.Given as goal

abbrev pub invariant-loop-j : goal.invariant-loop-j
invariant-loop-j l =
    (l.j ≤ l.first)
    × (has_key (key_of l.kind) l.key (rest_of l.rows.words.now l.rows.count l.first) ≡ has_key (key_of l.kind) l.key (rest_of l.rows.words.now l.rows.count l.j))
    × Headed l.kind l.m (bucket_of l.key l.m) (rest_of l.rows.words.now l.rows.count l.j)

abbrev pub decreases-loop-j : goal.decreases-loop-j
decreases-loop-j l = l.j
