-- `apply_boundary` answers the definition's number, and 0 only where state and message have all their words, so that they can be loaded and stored. Then the work by
-- value, with its record and its state written back, is what `applied` leaves (`apply-leaves`).
use mathlib.Core.Path.{sym, ◌∙◌}
use Prim.Native.Nat.{ℕ}
use lib.Dec.{ltb}
use lib.ListN.{length}
use Rattle.host_calls.proofs.Blocks.{less}
use borrow.Author.Tests.{ltb-false, eq-eqb}
use Rattle.book.specs.Memory.{memory, extent_of}
use Rattle.reconstructor_state.specs.State.{ceiling}
use Rattle.host_message_tests.specs.MessageTests.{no_message}
use Rattle.host_boundary.proofs.Passed.{passed, turned-away, goes_on}
use Rattle.host_calls.specs.Calls.{called, apply_call}
use Rattle.host_calls.proofs.Works.{apply-leaves}
use Rattle.host_apply.proofs.apply.Goals as goal

pub returns-then-stop-ne0 : goal.returns-then-stop-ne0
unfolding apply_call
returns-then-stop-ne0 c = turned-away _ _ (λ (n : ℕ). called n c.args.state.now c.args.rows.now c.args.segments.now) _ c.apply_boundary-stop.ensures c.if-stop-ne0.true

pub invariant_of-load_book : goal.invariant_of-load_book
invariant_of-load_book c = record { whole = (passed c.args.state.now (extent_of (memory c.args.rows.now)) (less c.args.state.now c.args.segments.now) (ltb (length c.args.message.now) 21) (no_message c.args.message.now) (eq-eqb _ _ (sym c.apply_boundary-stop.ensures ∙ c.if-stop-ne0.false))).whole }

pub invariant_of-load_message : goal.invariant_of-load_message
invariant_of-load_message c = record { whole = ltb-false (length c.args.message.now) 21 (passed c.args.state.now (extent_of (memory c.args.rows.now)) (less c.args.state.now c.args.segments.now) (ltb (length c.args.message.now) 21) (no_message c.args.message.now) (eq-eqb _ _ (sym c.apply_boundary-stop.ensures ∙ c.if-stop-ne0.false))).full }

pub store_book-requires : goal.store_book-requires
store_book-requires c = (passed c.args.state.now (extent_of (memory c.args.rows.now)) (less c.args.state.now c.args.segments.now) (ltb (length c.args.message.now) 21) (no_message c.args.message.now) (eq-eqb _ _ (sym c.apply_boundary-stop.ensures ∙ c.if-stop-ne0.false))).whole

pub returns : goal.returns
unfolding apply_call
returns c =
    goes_on _ _ (λ (n : ℕ). called n c.args.state.now c.args.rows.now c.args.segments.now) _ _ c.apply_boundary-stop.ensures c.if-stop-ne0.false
    (rw (c.answer_number.ensures, c.store_book.ensures, c.sets_status.ensures, ← c.load_book-book.ensures, ← c.load_message-message.ensures)
    (apply-leaves ceiling c.args.state.now c.args.rows.now c.args.segments.now c.load_book-book.result c.last_record-last.result c.last_record-last.ensures c.load_message-message.result c.apply_by_value-work.result _ _ c.apply_by_value-work.ensures c.rewrite_record.ensures))
