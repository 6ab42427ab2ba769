-- What an accepted call passed, and so: after any list of calls the figures are the volumes of the ledger's line.
-- Assumes nothing.
use Rattle.std.specs.Prelude.{Option, Some, None, Result, Ok, Err}
use Prim.Native.Nat.{ℕ}
use native.Mathlib.Omega.{arith}
use mathlib.Core.Bool.{Bool, true, false}
use mathlib.Core.Path.{◌≡◌, refl}
use mathlib.Core.List.{List, [], ◌∷◌}
use Rattle.message.specs.declared.L3Message.{L3Message}
use Rattle.piece.specs.Piece.{read_snapshot}
use Rattle.reconstructor_answers.specs.declared.InvalidationKind.{InvalidationKind}
use Rattle.reconstructor_state.specs.declared.VenueRules.{VenueRules}
use Rattle.reconstructor_state.specs.State.{View, Lengths, last_of}
use Rattle.reconstructor.specs.Refusals.{gate_refusal, turn_refusal}
use Rattle.reconstructor.proofs.Kept.{turn-event}
use Rattle.reconstructor_bootstrap.specs.declared.BootstrapError.{BootstrapError}
use Rattle.reconstructor_bootstrap.specs.Snapshot.{snapshot_line}
use Rattle.reconstructor_handshake.specs.declared.Handshake.{Handshake}
use Rattle.reconstructor_handshake.specs.declared.StepAnswer.{StepAnswer}
use Rattle.ledger.specs.Ledger.{Config, Call, bootstrap, apply, step, read, Figure, Ledger, Outcome, refused, invalidates, dropped, accepted, outcome_of, apply_outcome, step_outcome_of, step_outcome, view_by, figure_by, view_boot, figure_boot, boot_outcome, feed_view, feed_figure, feed, feed_all, fresh}
use Rattle.ledger.proofs.Volumes.{Tallies, event_tallies, tallied_tallies}
use Rattle.message.specs.declared.L3Snapshot.{L3Snapshot}
use Rattle.piece.specs.declared.PieceError.{PieceError}

absurd_path : {B : Type 0} → ◌≡◌ {A = ℕ} 0 1 → B
absurd_path z = absurd (omega arith)

pub settled : {A : Type 0} (g : Option A) (t : Option InvalidationKind) → outcome_of g t ≡ accepted → (g ≡ None) × (t ≡ None)
unfolding outcome_of
settled (Some n) t h = absurd_path cc
settled None (Some n) h = absurd_path cc
settled None None h = (refl, refl)

pub step-settled : (g : Option StepAnswer) (d : Bool) (o : Outcome) → step_outcome_of g d o ≡ accepted → (g ≡ None) × (d ≡ false) × (o ≡ accepted)
unfolding step_outcome_of
step-settled (Some n) d o h = absurd_path cc
step-settled None true o h = absurd_path cc
step-settled None false o h = (refl, refl, h)

module _ (top : ℕ) (c : Config) (n : Lengths) (three : Bool) (w : View) where
  pub in-turn : (m : L3Message) → apply_outcome top c n three w m ≡ accepted
      → (gate_refusal top c.product c.rules n three w m ≡ None) × (turn_refusal c.rules w.line (last_of w.status) m ≡ None)
  unfolding apply_outcome
  in-turn m h = settled _ _ h

  pub step-applies : (h : Handshake) (m : L3Message) → step_outcome top c n three w h m ≡ accepted → apply_outcome top c n three w m ≡ accepted
  unfolding step_outcome
  step-applies h m q = (step-settled _ _ _ q).2

by_tallies : (v : VenueRules) (m : L3Message) (w : View) (f : Figure) (o : Outcome)
    → (o ≡ accepted → turn_refusal v w.line (last_of w.status) m ≡ None) → Tallies f w.line → Tallies (figure_by v m o w f) (view_by v m o w).line
by_tallies v m w f refused h t = t
by_tallies v m w f (invalidates k) h t = t
by_tallies v m w f dropped h t = t
by_tallies v m w f accepted h t = event_tallies v w.line m.sequence m.event f t (turn-event v w.line (last_of w.status) m (h refl))

boot_tallies : (k : Option BootstrapError) (s : Result L3Snapshot PieceError) (bytes : List ℕ) (w : View) (f : Figure) → Tallies f w.line
    → Tallies (figure_boot k s bytes f) (view_boot k s bytes w).line
boot_tallies (Some a) s bytes w f t = t
boot_tallies None (Err e) bytes w f t = t
boot_tallies None (Ok s) bytes w f t = tallied_tallies (snapshot_line s bytes)

module _ (top : ℕ) (c : Config) where
  feed_tallies : (w : View) (k : Call) (f : Figure) → Tallies f w.line → Tallies (feed_figure top c w k f) (feed_view top c w k).line
  unfolding feed_view feed_figure
  feed_tallies w (bootstrap n bytes) f t = boot_tallies (boot_outcome top c n w bytes) (read_snapshot bytes) bytes w f t
  feed_tallies w (apply n m) f t = by_tallies c.rules m w f _ (λ h. (in-turn top c n false w m h).1) t
  feed_tallies w (step n h m) f t = by_tallies c.rules m w f _ (λ q. (in-turn top c n false w m (step-applies top c n false w h m q)).1) t
  feed_tallies w (read q) f t = t

  pub all_tallies : (l : Ledger) (ks : List Call) → Tallies l.figure l.view.line → Tallies (feed_all top c l ks).figure (feed_all top c l ks).view.line
  all_tallies l [] t = t
  all_tallies l (k ∷ ks) t = all_tallies (feed top c l k) ks (feed_tallies l.view k l.figure t)

pub fresh_tallies : Tallies fresh.figure fresh.view.line
unfolding Tallies
fresh_tallies s p = refl
