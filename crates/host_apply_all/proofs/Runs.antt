-- The exported run, by what the own checks of the loaded state say.
-- Assumes nothing.
use Rattle.std.specs.Prelude.{Result, Ok, Err, ⊤}
use Prim.Native.Nat.{ℕ, ◌≤◌, ◌<◌}
use mathlib.Core.Path.{◌≡◌, sym, ◌∙◌}
use mathlib.Core.Bool.{false}
use mathlib.Core.List.{List}
use borrow.Author.Tests.{lt-ltb, le-ltb}
use lib.ListN.{length}
use Rattle.book.specs.Memory.{memory, extent_of}
use Rattle.reconstructor_state.specs.declared.BookReconstructor.{BookReconstructor}
use Rattle.reconstructor_state.specs.State.{ceiling}
use Rattle.reconstructor_answers.specs.declared.StateError.{StateError}
use Rattle.reconstructor_answers.specs.Numbers.{state_error_number}
use Rattle.reconstructor_checks.specs.StateChecks.{book_refusal, checked}
use Rattle.host_records.specs.Records.{records_in}
use Rattle.host_words.specs.Block.{book_of}
use Rattle.host_boundary.specs.Boundary.{boundary}
use Rattle.reconstructor_checks.proofs.StateChecks.{usable, said, said-none}
use Rattle.host_boundary.proofs.Passed as Boundary
use Rattle.host_boundary.proofs.Passed.{passes}
use Rattle.host_calls.proofs.Blocks.{less}
use Rattle.host_apply_all_run.specs.Run.{run, ApplyAllCall, apply_all_called, count_of, after_run, Ready}
use Rattle.host_apply_all.specs.ApplyAll.{apply_all_call}

module _ (st ws sg ms out : List ℕ) (p : Boundary.Passed st false false) (b : BookReconstructor) (e : b ≡ book_of st) (k : Result ⊤ StateError)
    (q : k ≡ checked (book_refusal ceiling b (memory ws) (records_in sg))) where
  pub ready : k ≡ (Ok tt) → count_of ms ≤ length out → Ready st ws sg ms out
  ready h room = record { whole = p.whole; book = p.book; usable = rw e at (usable ceiling b (memory ws) (records_in sg) (said-none _ _ q h)); answered = room }

  at-boundary : boundary st (extent_of (memory ws)) (less st sg) false false ≡ 0
  at-boundary = passes st (extent_of (memory ws)) (less st sg) false false p

  pub run-refused : (w : StateError) → k ≡ Err w → (n : ℕ) → n ≡ state_error_number w → apply_all_called n st ws sg out ≡ apply_all_call st ws sg ms out
  unfolding apply_all_call
  run-refused w h n z = rw (at-boundary, ← e, said _ _ _ q h, z)

  pub run_short : k ≡ (Ok tt) → length out < count_of ms → apply_all_called 7 st ws sg out ≡ apply_all_call st ws sg ms out
  unfolding apply_all_call
  run_short h z = rw (at-boundary, ← e, said-none _ _ q h, lt-ltb (length out) (count_of ms) z)

  pub run-passed : (c : ApplyAllCall) → k ≡ (Ok tt) → count_of ms ≤ length out → c ≡ after_run out (run (count_of ms) st ws sg ms) → c ≡ apply_all_call st ws sg ms out
  unfolding apply_all_call
  run-passed c h room z = z ∙ sym (rw (at-boundary, ← e, said-none _ _ q h, le-ltb (length out) (count_of ms) room))
