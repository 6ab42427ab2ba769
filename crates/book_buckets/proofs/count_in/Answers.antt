-- The loop keeps `heads` and `next` the chains of the last `k` rows. The chain of a bucket has every later row with the key, so the search of it tells
-- whether the key is new, and `count` grows exactly where `count_keys` does.
use Prim.Native.Nat.{◌+◌}
use mathlib.Core.Path.{◌≡◌, ◌∙◌, ap, sym, refl}
use native.Mathlib.Omega.{arith}
use lib.ListN.{length, get_or, length-set}
use Rattle.book_row_keys.specs.Keys.{key_of, has_key}
use Rattle.book_buckets.specs.Buckets.{rest_of}
use Rattle.book_buckets.proofs.Chains.{rest-none, rest_all, heads-none, linked}
use Rattle.book_buckets.proofs.count_in.Goals as goal
use Rattle.book_buckets.proofs.count_in.Goals.{then-not-chain_has, else-not-chain_has}

pub loop-k-init : goal.loop-k-init
loop-k-init c = record {
  most = omega arith;
  as_many = refl;
  as_long = refl;
  counted = rw rest-none;
  headed = heads-none c.args.rows.words.now c.args.rows.count c.args.kind (length c.args.heads.now) c.args.heads.now c.requires.empty (omega arith);
  chained = λ v h. absurd (omega (arith, h));
}

pub chain_has-requires : goal.chain_has-requires
chain_has-requires c =
    let w = linked c.args.rows.words.now c.args.rows.count c.args.kind (length c.args.heads.now) c.loop-k.heads c.loop-k.next c.loop-k.k c.bucket-b.result c.key_of-key.result (omega arith)
    (c.key_of-key.ensures ∙ ap (key_of c.args.kind) c.get-o.ensures)
    c.bucket-b.ensures.0
    c.bucket-b.ensures.1
    (omega arith)
    (omega arith)
    c.loop-k.invariant.headed
    c.loop-k.invariant.chained in
    rw c.row_of-first.ensures
    (record {
      within = (omega (arith, w.within), omega (arith, w.within));
      chained = λ v hv. c.loop-k.invariant.chained v (omega (arith, w.within));
      headed = w.headed;
    })

pub loop-k-preserved : goal.loop-k-preserved
loop-k-preserved c =
    let w = linked c.args.rows.words.now c.args.rows.count c.args.kind (length c.args.heads.now) c.loop-k.heads c.loop-k.next c.loop-k.k c.bucket-b.result c.key_of-key.result (omega arith)
    (c.key_of-key.ensures ∙ ap (key_of c.args.kind) c.get-o.ensures)
    c.bucket-b.ensures.0
    c.bucket-b.ensures.1
    (omega arith)
    (omega arith)
    c.loop-k.invariant.headed
    c.loop-k.invariant.chained in
    let has : c.chain_has.result ≡ has_key (key_of c.args.kind) c.key_of-key.result (rest_of c.args.rows.words.now c.args.rows.count (get_or c.loop-k.heads c.bucket-b.result 0)) =
    c.chain_has.ensures ∙ ap (λ y. has_key (key_of c.args.kind) c.key_of-key.result (rest_of c.args.rows.words.now c.args.rows.count y)) c.row_of-first.ensures in
    record {
      most = elim c.if-not-chain_has.branch [ then-not-chain_has t ↦ omega arith | else-not-chain_has t ↦ omega arith ];
      as_many = length-set c.loop-k.heads c.bucket-b.result (c.loop-k.k + 1) ∙ c.loop-k.invariant.as_many;
      as_long = length-set c.loop-k.next c.loop-k.k (get_or c.loop-k.heads c.bucket-b.result 0) ∙ c.loop-k.invariant.as_long;
      counted = elim c.if-not-chain_has.branch [
        | then-not-chain_has t ↦ omega (arith, c.loop-k.invariant.counted, w.new (sym has ∙ t.if-not-chain_has.true))
        | else-not-chain_has t ↦ omega (arith, c.loop-k.invariant.counted, w.old (sym has ∙ t.if-not-chain_has.false))
      ];
      headed = w.heads-then;
      chained = w.chained-then;
    }

pub returns : goal.returns
returns c = c.loop-k.invariant.counted ∙ rw (rest_all c.args.rows.words.now c.args.rows.count c.loop-k.k (omega arith))
