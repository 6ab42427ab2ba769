-- A number of `boundary` is the answer, with the words as lent; at 0 the state block is whole, so that it can be loaded and written again.
-- The last record rewritten and then the new one put is one change of the list, the one that `bootstrap_call` makes after the same work (`boot-leaves`).
use mathlib.Core.Path.{sym, ap, ◌∙◌}
use Prim.Native.Nat.{ℕ}
use mathlib.Core.Bool.{Bool, false}
use borrow.Author.Tests.{eq-eqb}
use Rattle.host_calls.proofs.Blocks.{less}
use Rattle.book.specs.Memory.{memory, extent_of}
use Rattle.reconstructor_state.specs.State.{ceiling}
use Rattle.host_boundary.specs.Boundary.{boundary}
use Rattle.host_boundary.proofs.Passed.{passed, turned-away, goes_on}
use Rattle.host_calls.specs.Calls.{called, bootstrap_call}
use Rattle.host_calls.proofs.Works.{boot-leaves}
use Rattle.host_bootstrap.proofs.bootstrap.Goals as goal

pub returns-then-stop-ne0 : goal.returns-then-stop-ne0
unfolding bootstrap_call
returns-then-stop-ne0 c = turned-away _ _ (λ (n : ℕ). called n c.args.state.now c.args.rows.now c.args.segments.now) _ (c.boundary-stop.ensures ∙ ap (λ (x : Bool). boundary c.args.state.now (extent_of (memory c.args.rows.now)) x false false) c.list_short-less.ensures) c.if-stop-ne0.true

pub invariant_of-load_book : goal.invariant_of-load_book
invariant_of-load_book c = record { whole = (passed c.args.state.now (extent_of (memory c.args.rows.now)) (less c.args.state.now c.args.segments.now) false false (eq-eqb _ _ (sym (c.boundary-stop.ensures ∙ ap (λ (x : Bool). boundary c.args.state.now (extent_of (memory c.args.rows.now)) x false false) c.list_short-less.ensures) ∙ c.if-stop-ne0.false))).whole }

pub store_book-requires : goal.store_book-requires
store_book-requires c = (passed c.args.state.now (extent_of (memory c.args.rows.now)) (less c.args.state.now c.args.segments.now) false false (eq-eqb _ _ (sym (c.boundary-stop.ensures ∙ ap (λ (x : Bool). boundary c.args.state.now (extent_of (memory c.args.rows.now)) x false false) c.list_short-less.ensures) ∙ c.if-stop-ne0.false))).whole

pub returns : goal.returns
unfolding bootstrap_call
returns c =
    goes_on _ _ (λ (n : ℕ). called n c.args.state.now c.args.rows.now c.args.segments.now) _ _ (c.boundary-stop.ensures ∙ ap (λ (x : Bool). boundary c.args.state.now (extent_of (memory c.args.rows.now)) x false false) c.list_short-less.ensures) c.if-stop-ne0.false
    (rw (c.store_book.ensures, c.snapshot_number-number.ensures, ← c.load_book-book.ensures)
    (boot-leaves ceiling c.args.state.now c.args.rows.now c.args.segments.now c.load_book-book.result c.last_record-last.result c.last_record-last.ensures c.args.bytes.now c.bootstrap_by_value-work.result _ _ _ c.bootstrap_by_value-work.ensures c.rewrite_record.ensures c.put_record.ensures))
