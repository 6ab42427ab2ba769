-- `step_boundary` answers 0 only where state, handshake and message can be loaded and stored. Then the work by value, with record, state and handshake written back,
-- is what `stepped` leaves (`step-leaves`).
use mathlib.Core.Path.{sym, ◌∙◌}
use Prim.Native.Nat.{ℕ}
use mathlib.Core.Bool.{◌||◌}
use lib.Dec.{ltb}
use lib.ListN.{length}
use Rattle.host_calls.proofs.Blocks.{less}
use borrow.Author.Tests.{eq-eqb}
use Rattle.book.specs.Memory.{memory, extent_of}
use Rattle.reconstructor_state.specs.State.{ceiling}
use Rattle.host_word_tests.specs.WordTests.{no_handshake}
use Rattle.host_message_tests.specs.MessageTests.{no_message}
use Rattle.host_boundary.proofs.Passed.{passed, turned-away, goes_on}
use Rattle.host_words.proofs.Lent.{lent_two}
use Rattle.host_calls.specs.Calls.{step_called, step_call}
use Rattle.host_calls.proofs.Works.{step-leaves}
use Rattle.host_step.proofs.step.Goals as goal

pub returns-then-stop-ne0 : goal.returns-then-stop-ne0
unfolding step_call
returns-then-stop-ne0 c = turned-away _ _ (λ (n : ℕ). step_called n c.args.state.now c.args.rows.now c.args.segments.now c.args.handshake.now) _ c.step_boundary-stop.ensures c.if-stop-ne0.true

pub invariant_of-load_book : goal.invariant_of-load_book
invariant_of-load_book c = record { whole = (passed c.args.state.now (extent_of (memory c.args.rows.now)) (less c.args.state.now c.args.segments.now) (ltb (length c.args.handshake.now) 4 || ltb (length c.args.message.now) 21) (no_handshake c.args.handshake.now || no_message c.args.message.now) (eq-eqb _ _ (sym c.step_boundary-stop.ensures ∙ c.if-stop-ne0.false))).whole }

pub load_handshake-hands-requires : goal.load_handshake-hands-requires
load_handshake-hands-requires c = (lent_two c.args.handshake.now 4 c.args.message.now 21 (passed c.args.state.now (extent_of (memory c.args.rows.now)) (less c.args.state.now c.args.segments.now) (ltb (length c.args.handshake.now) 4 || ltb (length c.args.message.now) 21) (no_handshake c.args.handshake.now || no_message c.args.message.now) (eq-eqb _ _ (sym c.step_boundary-stop.ensures ∙ c.if-stop-ne0.false))).full).0

pub invariant_of-load_message : goal.invariant_of-load_message
invariant_of-load_message c = record { whole = (lent_two c.args.handshake.now 4 c.args.message.now 21 (passed c.args.state.now (extent_of (memory c.args.rows.now)) (less c.args.state.now c.args.segments.now) (ltb (length c.args.handshake.now) 4 || ltb (length c.args.message.now) 21) (no_handshake c.args.handshake.now || no_message c.args.message.now) (eq-eqb _ _ (sym c.step_boundary-stop.ensures ∙ c.if-stop-ne0.false))).full).1 }

pub store_book-requires : goal.store_book-requires
store_book-requires c = (passed c.args.state.now (extent_of (memory c.args.rows.now)) (less c.args.state.now c.args.segments.now) (ltb (length c.args.handshake.now) 4 || ltb (length c.args.message.now) 21) (no_handshake c.args.handshake.now || no_message c.args.message.now) (eq-eqb _ _ (sym c.step_boundary-stop.ensures ∙ c.if-stop-ne0.false))).whole

pub store_handshake-requires : goal.store_handshake-requires
store_handshake-requires c = (lent_two c.args.handshake.now 4 c.args.message.now 21 (passed c.args.state.now (extent_of (memory c.args.rows.now)) (less c.args.state.now c.args.segments.now) (ltb (length c.args.handshake.now) 4 || ltb (length c.args.message.now) 21) (no_handshake c.args.handshake.now || no_message c.args.message.now) (eq-eqb _ _ (sym c.step_boundary-stop.ensures ∙ c.if-stop-ne0.false))).full).0

pub returns : goal.returns
unfolding step_call
returns c =
    goes_on _ _ (λ (n : ℕ). step_called n c.args.state.now c.args.rows.now c.args.segments.now c.args.handshake.now) _ _ c.step_boundary-stop.ensures c.if-stop-ne0.false
    (rw (c.number.ensures, c.store_handshake.ensures, c.store_book.ensures, c.step_sets_status.ensures, ← c.load_handshake-hands.ensures, ← c.load_book-book.ensures, ← c.load_message-message.ensures)
    (step-leaves ceiling c.args.state.now c.args.rows.now c.args.segments.now c.load_book-book.result c.last_record-last.result c.last_record-last.ensures c.load_handshake-hands.result c.args.handshake.now c.load_message-message.result c.step_by_value-work.result _ _ c.step_by_value-work.ensures c.rewrite_record.ensures))
