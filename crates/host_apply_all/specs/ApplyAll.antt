-- The exported run of messages: turned away as a call of `pinuglaw_apply` is, or as many of those calls (Run.antt of `host_apply_all_run`).
use Rattle.std.specs.Prelude.{ℕ, cond, false, List, ltb, length, Option, Some, None}
use Rattle.book.specs.Memory.{memory}
use Rattle.reconstructor_answers.specs.declared.StateError.{StateError}
use Rattle.reconstructor_answers.specs.Numbers.{state_error_number}
use Rattle.reconstructor_state.specs.State.{ceiling}
use Rattle.reconstructor_checks.specs.StateChecks.{book_refusal}
use Rattle.host_records.specs.Records.{records_in}
use Rattle.host_words.specs.Block.{book_of}
use Rattle.host_boundary.specs.Boundary.{unless_turned}
use Rattle.host_calls.specs.Calls.{call_boundary}
use Rattle.host_apply_all_run.specs.Run.{run, ApplyAllCall, apply_all_called, count_of, after_run}

-- 1, 2 or 3, which every message would be told that is one: nothing is touched
abbrev pub apply_all_checked : Option StateError → List ℕ → List ℕ → List ℕ → List ℕ → List ℕ → ApplyAllCall
apply_all_checked (Some e) st ws sg ms out = apply_all_called (state_error_number e) st ws sg out
-- then 7: fewer answer words than messages
apply_all_checked None st ws sg ms out =
    cond (ltb (length out) (count_of ms)) (apply_all_called 7 st ws sg out) (after_run out (run (count_of ms) st ws sg ms))

unfoldable pub apply_all_call : List ℕ → List ℕ → List ℕ → List ℕ → List ℕ → ApplyAllCall
apply_all_call st ws sg ms out =
    unless_turned (call_boundary st ws sg false false) (λ (k : ℕ). apply_all_called k st ws sg out)
    (apply_all_checked (book_refusal ceiling (book_of st) (memory ws) (records_in sg)) st ws sg ms out)
