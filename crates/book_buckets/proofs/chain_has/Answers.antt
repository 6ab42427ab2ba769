-- The loop keeps that the row at link `j`, if there is one, is in the key's bucket, and that the rows from there on have the key exactly where those from
-- `first` on have it. The rows that the next link skips are of other buckets, so they cannot have the key; and links get smaller, so the walk ends.
use mathlib.Core.Path.{◌≡◌, ◌∙◌, ap, sym}
use native.Mathlib.Omega.{arith}
use Rattle.book_row_keys.specs.Keys.{key_of, same_key}
use Rattle.book_buckets.proofs.Chains.{rest-none, turn}
use Rattle.book_buckets.proofs.chain_has.Goals as goal

pub returns-then-eq : goal.returns-then-eq
returns-then-eq c = sym (c.loop-j.invariant.1 ∙ (turn c.args.rows.words.now c.args.rows.count c.args.kind c.args.m c.args.key c.args.next.now c.args.first c.loop-j.j c.loop-j-test.true c.loop-j.invariant.0 c.requires.within.0 c.requires.chained c.loop-j.invariant.2).hit (ap (λ o. same_key (key_of c.args.kind o) c.args.key) (sym c.get-o.ensures) ∙ ap (λ k. same_key k c.args.key) (sym c.key_of.ensures) ∙ sym c.eq.ensures ∙ c.if-eq.true))

pub loop-j-smaller : goal.loop-j-smaller
loop-j-smaller c = rw c.row_of-j.ensures (turn c.args.rows.words.now c.args.rows.count c.args.kind c.args.m c.args.key c.args.next.now c.args.first c.loop-j.j c.loop-j-test.true c.loop-j.invariant.0 c.requires.within.0 c.requires.chained c.loop-j.invariant.2).less

pub loop-j-preserved : goal.loop-j-preserved
loop-j-preserved c =
    let w = turn c.args.rows.words.now c.args.rows.count c.args.kind c.args.m c.args.key c.args.next.now c.args.first c.loop-j.j c.loop-j-test.true c.loop-j.invariant.0 c.requires.within.0 c.requires.chained c.loop-j.invariant.2 in
    rw c.row_of-j.ensures (omega (arith, w.less, c.loop-j.invariant.0), c.loop-j.invariant.1 ∙ w.miss (ap (λ o. same_key (key_of c.args.kind o) c.args.key) (sym c.get-o.ensures) ∙ ap (λ k. same_key k c.args.key) (sym c.key_of.ensures) ∙ sym c.eq.ensures ∙ c.if-eq.false), w.headed)

pub returns : goal.returns
returns c = let z : c.loop-j.j ≡ 0 = omega arith in sym (c.loop-j.invariant.1 ∙ rw (z, rest-none))
