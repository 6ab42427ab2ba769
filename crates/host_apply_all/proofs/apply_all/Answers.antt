-- The tests come in the definition's order: the boundary, then 1, 2 or 3 of the loaded state, then 7. Past all of them the words are `Ready`, and the run
-- promises the same with few places and with many.
use Rattle.std.proofs.Common.{rules}
use mathlib.Core.Path.{sym, ap, ◌∙◌}
use Prim.Native.Nat.{ℕ}
use mathlib.Core.Bool.{Bool, false}
use borrow.Author.Tests.{eq-eqb}
use Rattle.book.specs.Memory.{memory, extent_of}
use Rattle.host_boundary.specs.Boundary.{boundary}
use Rattle.host_boundary.proofs.Passed.{passed, turned-away}
use Rattle.host_calls.proofs.Blocks.{less}
use Rattle.host_apply_all_run.specs.Run.{apply_all_called}
use Rattle.host_apply_all.specs.ApplyAll.{apply_all_call}
use Rattle.host_apply_all.proofs.Runs.{ready, run_short, run-refused, run-passed}
use Rattle.host_apply_all.proofs.apply_all.Goals as goal

pub returns-then-stop-ne0 : goal.returns-then-stop-ne0
unfolding apply_all_call
returns-then-stop-ne0 c = turned-away _ _ (λ (n : ℕ). apply_all_called n c.args.state.now c.args.rows.now c.args.segments.now c.args.answers.now) _ (c.boundary-stop.ensures ∙ ap (λ (x : Bool). boundary c.args.state.now (extent_of (memory c.args.rows.now)) x false false) c.list_short-less.ensures) c.if-stop-ne0.true

pub invariant_of-load_book : goal.invariant_of-load_book
invariant_of-load_book c = record { whole = (passed c.args.state.now (extent_of (memory c.args.rows.now)) (less c.args.state.now c.args.segments.now) false false (eq-eqb _ _ (sym (c.boundary-stop.ensures ∙ ap (λ (x : Bool). boundary c.args.state.now (extent_of (memory c.args.rows.now)) x false false) c.list_short-less.ensures) ∙ c.if-stop-ne0.false))).whole }

pub returns-then-answers-messages : goal.returns-then-answers-messages
returns-then-answers-messages c = run_short c.args.state.now c.args.rows.now c.args.segments.now c.args.messages.now c.args.answers.now (passed c.args.state.now (extent_of (memory c.args.rows.now)) (less c.args.state.now c.args.segments.now) false false (eq-eqb _ _ (sym (c.boundary-stop.ensures ∙ ap (λ (x : Bool). boundary c.args.state.now (extent_of (memory c.args.rows.now)) x false false) c.list_short-less.ensures) ∙ c.if-stop-ne0.false))) c.load_book-book.result c.load_book-book.ensures c.own_checks.result c.own_checks.ensures c.in-Ok.is c.if-answers-messages.true

pub apply_all_with-requires : goal.apply_all_with-requires
apply_all_with-requires c = record { ready = ready c.args.state.now c.args.rows.now c.args.segments.now c.args.messages.now c.args.answers.now (passed c.args.state.now (extent_of (memory c.args.rows.now)) (less c.args.state.now c.args.segments.now) false false (eq-eqb _ _ (sym (c.boundary-stop.ensures ∙ ap (λ (x : Bool). boundary c.args.state.now (extent_of (memory c.args.rows.now)) x false false) c.list_short-less.ensures) ∙ c.if-stop-ne0.false))) c.load_book-book.result c.load_book-book.ensures c.own_checks.result c.own_checks.ensures c.in-Ok.is c.if-answers-messages.false; places_in_bounds = search rules }

pub apply_all_with-requires-else-book-le-FEW_ROWS : goal.apply_all_with-requires-else-book-le-FEW_ROWS
apply_all_with-requires-else-book-le-FEW_ROWS c = record { ready = ready c.args.state.now c.args.rows.now c.args.segments.now c.args.messages.now c.args.answers.now (passed c.args.state.now (extent_of (memory c.args.rows.now)) (less c.args.state.now c.args.segments.now) false false (eq-eqb _ _ (sym (c.boundary-stop.ensures ∙ ap (λ (x : Bool). boundary c.args.state.now (extent_of (memory c.args.rows.now)) x false false) c.list_short-less.ensures) ∙ c.if-stop-ne0.false))) c.load_book-book.result c.load_book-book.ensures c.own_checks.result c.own_checks.ensures c.in-Ok.is c.if-answers-messages.false; places_in_bounds = search rules }

pub returns-in-Err : goal.returns-in-Err
returns-in-Err c = run-refused c.args.state.now c.args.rows.now c.args.segments.now c.args.messages.now c.args.answers.now (passed c.args.state.now (extent_of (memory c.args.rows.now)) (less c.args.state.now c.args.segments.now) false false (eq-eqb _ _ (sym (c.boundary-stop.ensures ∙ ap (λ (x : Bool). boundary c.args.state.now (extent_of (memory c.args.rows.now)) x false false) c.list_short-less.ensures) ∙ c.if-stop-ne0.false))) c.load_book-book.result c.load_book-book.ensures c.own_checks.result c.own_checks.ensures _ c.in-Err.is _ c.number.ensures

pub returns-then-book-le-FEW_ROWS : goal.returns-then-book-le-FEW_ROWS
returns-then-book-le-FEW_ROWS c = run-passed c.args.state.now c.args.rows.now c.args.segments.now c.args.messages.now c.args.answers.now (passed c.args.state.now (extent_of (memory c.args.rows.now)) (less c.args.state.now c.args.segments.now) false false (eq-eqb _ _ (sym (c.boundary-stop.ensures ∙ ap (λ (x : Bool). boundary c.args.state.now (extent_of (memory c.args.rows.now)) x false false) c.list_short-less.ensures) ∙ c.if-stop-ne0.false))) c.load_book-book.result c.load_book-book.ensures c.own_checks.result c.own_checks.ensures _ c.in-Ok.is c.if-answers-messages.false c.apply_all_with.ensures

pub returns-else-book-le-FEW_ROWS : goal.returns-else-book-le-FEW_ROWS
returns-else-book-le-FEW_ROWS c = run-passed c.args.state.now c.args.rows.now c.args.segments.now c.args.messages.now c.args.answers.now (passed c.args.state.now (extent_of (memory c.args.rows.now)) (less c.args.state.now c.args.segments.now) false false (eq-eqb _ _ (sym (c.boundary-stop.ensures ∙ ap (λ (x : Bool). boundary c.args.state.now (extent_of (memory c.args.rows.now)) x false false) c.list_short-less.ensures) ∙ c.if-stop-ne0.false))) c.load_book-book.result c.load_book-book.ensures c.own_checks.result c.own_checks.ensures _ c.in-Ok.is c.if-answers-messages.false c.apply_all_with-else-book-le-FEW_ROWS.ensures
