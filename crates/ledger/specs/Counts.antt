-- The twelve counts, worked out from the calls alone: where 01 counts a call, and how many calls so far it counts there. Where is said by the counter's name.
use Rattle.std.specs.Prelude.{ℕ, ◌+◌, Bool, false, cond, List, [], ◌∷◌, eqb, ltb, Option, Some, None, Result, Ok, Err}
use Rattle.message.specs.declared.L3Event.{L3Event}
use Rattle.message.specs.declared.L3Message.{L3Message}
use Rattle.book.specs.Line.{Entry}
use Rattle.reconstructor_answers.specs.declared.InvalidationKind.{InvalidationKind}
use Rattle.reconstructor_answers.specs.declared.Applied.{Applied}
use Rattle.reconstructor_answers.specs.declared.ApplyError.{ApplyError}
use Rattle.reconstructor_answers.specs.declared.ApplyError.TheVariants as refusals
use Rattle.reconstructor_counts.specs.declared.MessageCounts.{MessageCounts}
use Rattle.reconstructor_counts.specs.declared.Counter.{Counter}
use Rattle.reconstructor_counts.specs.declared.Counter.TheVariants as counters
use Rattle.reconstructor_counts.specs.Counts.{largest, place_of}
use Rattle.reconstructor_state.specs.declared.VenueRules.{VenueRules}
use Rattle.reconstructor_state.specs.State.{View, Lengths, last_of}
use Rattle.reconstructor_plan.specs.Rules.{counter_of}
use Rattle.reconstructor.specs.Refusals.{gate_refusal, turn_refusal}
use Rattle.reconstructor_bootstrap.specs.declared.BootstrapError.{BootstrapError}
use Rattle.reconstructor_bootstrap.specs.declared.BootstrapError.TheVariants as snapshots
use Rattle.reconstructor_handshake.specs.declared.StepAnswer.{StepAnswer}
use Rattle.reconstructor_handshake.specs.Step.{step_refusal}
use Rattle.reconstructor_handshake_rules.specs.Drops.{drops}
use Rattle.ledger.specs.Ledger.{Config, Call, bootstrap, apply, step, read, name_of, boot_outcome, feed_view}

-- ---- where a call is counted, if anywhere

-- 01, apply: "another product is 10 (counts wrong_product) .. an invalid book is 17 (counts skipped_while_invalid)"
abbrev pub answer_place : Result Applied ApplyError → Option Counter
answer_place (Ok a) = None
answer_place (Err (refusals.Unusable e)) = None
answer_place (Err refusals.AmountOutOfRange) = None
answer_place (Err refusals.WrongProduct) = Some counters.WrongProduct
answer_place (Err refusals.NotBootstrapped) = None
answer_place (Err (refusals.Invalidated i)) = None
answer_place (Err (refusals.AwaitingSnapshot i)) = Some counters.SkippedWhileInvalid

-- "Acceptance .. adds one to one counter"; what invalidates is not counted
abbrev pub message_place : VenueRules → List Entry → L3Event → Option ApplyError → Option InvalidationKind → Option Counter
message_place v l e (Some a) t = answer_place (Err a)
message_place v l e None (Some k) = None
message_place v l e None None = Some (counter_of v l e)

-- "dropped and counted"
abbrev pub step_place : Option StepAnswer → Bool → Option Counter → Option Counter
step_place (Some a) d o = None
step_place None d o = cond d (Some counters.HandshakeDropped) o

-- 01, bootstrap: "Refusals 10 to 14 add one to rejected_snapshots"
abbrev pub snapshot_place : Option BootstrapError → Option Counter
snapshot_place None = None
snapshot_place (Some (snapshots.Unusable e)) = None
snapshot_place (Some snapshots.NotAPiece) = None
snapshot_place (Some snapshots.AmountOutOfRange) = None
snapshot_place (Some snapshots.ListFull) = None
snapshot_place (Some (snapshots.Rejected e)) = Some counters.RejectedSnapshots

-- once at its place
abbrev pub hit : Counter → Option Counter → ℕ
hit i None = 0
hit i (Some k) = cond (eqb (place_of k) (place_of i)) 1 0

module _ (top : ℕ) (c : Config) where
  unfoldable pub apply_place : View → Lengths → L3Message → Option Counter
  apply_place w n m =
      message_place c.rules w.line m.event (gate_refusal top c.product c.rules n false w m) (turn_refusal c.rules w.line (last_of w.status) m)

  unfoldable pub place_in : View → Call → Option Counter
  place_in w (bootstrap n bytes) = snapshot_place (boot_outcome top c n w bytes)
  place_in w (apply n m) = apply_place w n m
  place_in w (step n h m) = step_place (step_refusal top c.rules n false w (name_of c w) h m) (drops c.product w.start_seq m) (apply_place w n m)
  place_in w (read q) = None

  -- ---- how many calls are counted at the counter i

  abbrev pub times_in : View → List Call → Counter → ℕ
  times_in w [] i = 0
  times_in w (k ∷ ks) i = hit i (place_in w k) + times_in (feed_view top c w k) ks i

-- "Counters stop at 2^64−1."
abbrev pub up_to : ℕ → ℕ
up_to n = cond (ltb n largest) n largest

-- the counts that are so at each counter
abbrev pub counts_by : (Counter → ℕ) → MessageCounts
counts_by f =
    record {
      received = f counters.Received;
      «open» = f counters.Open;
      done = f counters.Done;
      matched = f counters.Matched;
      stp_decrease = f counters.Stp;
      off_book_done = f counters.OffBookDone;
      off_book_change = f counters.OffBookChange;
      noop_change = f counters.NoopChange;
      handshake_dropped = f counters.HandshakeDropped;
      skipped_while_invalid = f counters.SkippedWhileInvalid;
      wrong_product = f counters.WrongProduct;
      rejected_snapshots = f counters.RejectedSnapshots;
    }
