-- A fresh book fed only the calls that count comes to the same line.
-- Assumes nothing.
use Rattle.std.specs.Prelude.{Option, Some, None, Result, Ok, Err}
use Prim.Native.Nat.{ℕ, ◌≤◌}
use native.Mathlib.Omega.{arith}
use mathlib.Core.Bool.{false}
use mathlib.Core.Path.{◌≡◌, refl, ap}
use mathlib.Core.List.{List, [], ◌∷◌, ◌++◌}
use borrow.Author.Tests.{eqb-false, ltb-false, le-ltb, ne_eqb}
use lib.Dec.{ltb}
use Rattle.laws.proofs.Bools.{or_no, or_both}
use Rattle.message.specs.declared.L3Message.{L3Message}
use Rattle.message.specs.declared.ProductId.{ProductId}
use Rattle.message.specs.declared.L3Snapshot.{L3Snapshot}
use Rattle.piece.specs.Piece.{read_snapshot}
use Rattle.book.specs.Line.{Entry}
use Rattle.book.specs.Memory.{line_by}
use Rattle.reconstructor_state.specs.declared.VenueRules.{VenueRules}
use Rattle.reconstructor_state.specs.declared.Status.{Status}
use Rattle.reconstructor_state.specs.State.{View, Lengths, last_of}
use Rattle.reconstructor_state.proofs.Checks.{passed, goes_on, first-passed, first_on}
use Rattle.reconstructor_checks.specs.StateChecks.{memory_short, state_refusal}
use Rattle.reconstructor_plan.specs.Rules.{effect}
use Rattle.reconstructor.specs.Refusals.{status_refusal, admit_refusal, gate_refusal, turn_refusal}
use Rattle.reconstructor_bootstrap.specs.declared.BootstrapError.{BootstrapError}
use Rattle.reconstructor_bootstrap.specs.Snapshot.{accept_refusal, piece_refusal, boot_refusal}
use Rattle.ledger.specs.Ledger.{Config, Call, bootstrap, apply, step, read, blank, Outcome, refused, invalidates, dropped, accepted, outcome_of, apply_outcome, boot_outcome, view_by, view_boot, snap_view, feed_view}
use Rattle.ledger.specs.Kept.{kept_by, kept_boot, kept_after, kept_all, kept}
use Rattle.ledger.specs.Sum.{numbered}
use Rattle.ledger.proofs.Accept.{in-turn, step-applies}
use Rattle.ledger.proofs.Follow.{view_all}
use Rattle.piece.specs.declared.PieceError.{PieceError}

pub view_append : (top : ℕ) (c : Config) (v : View) (a b : List Call) → view_all top c v (a ++ b) ≡ view_all top c (view_all top c v a) b
view_append top c v [] b = refl
view_append top c v (k ∷ a) b = view_append top c (feed_view top c v k) a b

-- the view of the book so far, and that of the fresh one
pub record Repeats (v w : View) : Type 0 where
  pub line : w.line ≡ v.line
  pub last : last_of w.status ≡ last_of v.status
  pub fewer : w.segments ≤ v.segments
  pub up : status_refusal v.status ≡ None → status_refusal w.status ≡ None

-- lent the same, with no more segments
state-again : (top : ℕ) (r : VenueRules) (n : Lengths) (s t : ℕ) → t ≤ s → state_refusal top r n false s ≡ None → state_refusal top r n false t ≡ None
unfolding state_refusal
state-again top r n s t h q =
    let q₁ = passed _ _ _ q in
    let q₂ = passed _ _ _ q₁.1 in
    let d = or_no (memory_short r n.memory) (ltb n.segments s) q₂.0 in
    goes_on _ _ _ _ q₁.0
    (goes_on _ _ _ _ (or_both _ _ d.0 (le-ltb n.segments t (omega (arith, h, ltb-false n.segments s d.1))))
    (goes_on _ _ _ _ refl refl))

-- 2 not said: the list has the segments
listed_most : (top : ℕ) (r : VenueRules) (n : Lengths) (s : ℕ) → state_refusal top r n false s ≡ None → s ≤ n.segments
unfolding state_refusal
listed_most top r n s q =
    let d = or_no (memory_short r n.memory) (ltb n.segments s) (passed _ _ _ (passed _ _ _ q).1).0 in
    ltb-false n.segments s d.1

outcome : (top : ℕ) (c : Config) (n : Lengths) (w : View) (m : L3Message) → gate_refusal top c.product c.rules n false w m ≡ None
    → turn_refusal c.rules w.line (last_of w.status) m ≡ None → apply_outcome top c n false w m ≡ accepted
unfolding apply_outcome outcome_of
outcome top c n w m p q = rw (p, q)

pub admit-status : (p : ProductId) (s : Status) (m : L3Message) → admit_refusal p s m ≡ None → status_refusal s ≡ None
unfolding admit_refusal
admit-status p s m h = (passed _ _ _ (passed _ _ _ h).1).1

admit-again : (p : ProductId) (s t : Status) (m : L3Message) → status_refusal t ≡ None → admit_refusal p s m ≡ None → admit_refusal p t m ≡ None
unfolding admit_refusal
admit-again p s t m q h =
    let h₁ = passed _ _ _ h in
    let h₂ = passed _ _ _ h₁.1 in
    goes_on _ _ _ _ h₁.0 (goes_on _ _ _ _ h₂.0 q)

module _ (top : ℕ) (c : Config) (n : Lengths) (v w : View) (r : Repeats v w) (m : L3Message) where
  gate-again : gate_refusal top c.product c.rules n false v m ≡ None → (status_refusal v.status ≡ None) × (gate_refusal top c.product c.rules n false w m ≡ None)
  unfolding gate_refusal
  gate-again h =
      let q = first-passed _ _ _ h in
      let s = admit-status c.product v.status m q.1 in
      (s, first_on _ _ _ _ (state-again top c.rules n v.segments w.segments r.fewer q.0) (admit-again c.product v.status w.status m (r.up s) q.1))

  apply-again : apply_outcome top c n false v m ≡ accepted → Repeats (view_by c.rules m accepted v) (feed_view top c w (apply n m))
  unfolding feed_view
  apply-again h =
      let q = in-turn top c n false v m h in
      let g = gate-again q.0 in
      let t : turn_refusal c.rules w.line (last_of w.status) m ≡ None = rw (r.line, r.last) q.1 in
      let o : apply_outcome top c n false w m ≡ accepted = outcome top c n w m g.1 t in
      rw o (record { line = ap (λ (l : List Entry). line_by (effect c.rules l m.sequence m.event) l) r.line; last = refl; fewer = r.fewer; up = λ _. refl })

module _ (top : ℕ) (c : Config) (n : Lengths) (v : View) (bytes : List ℕ) where
  piece-again : (s : Result L3Snapshot PieceError) → v.segments ≤ n.segments → piece_refusal c.product c.rules n v s bytes ≡ None → piece_refusal c.product c.rules n blank s bytes ≡ None
  unfolding accept_refusal
  piece-again (Err e) f h = let z : ◌≡◌ {A = ℕ} 0 1 = cc in absurd (omega arith)
  piece-again (Ok s) f h =
      let k = passed _ _ _ h in
      let d : n.segments ≡ v.segments → ⊥ = eqb-false n.segments v.segments k.0 in
      goes_on _ _ _ _ (ne_eqb n.segments 0 (λ z. d (omega arith))) k.1

  boot-again : boot_outcome top c n v bytes ≡ None → boot_outcome top c n blank bytes ≡ None
  unfolding boot_refusal
  boot-again h =
      let q = first-passed _ _ _ h in
      first_on _ _ _ _ (state-again top c.rules n v.segments 0 (omega arith) q.0) (piece-again (read_snapshot bytes) (listed_most top c.rules n v.segments q.0) q.1)

-- the fresh book has any number: an `apply` and a `bootstrap` do not go by it
apply-numbered : (top : ℕ) (c : Config) (k : ℕ) (v : View) (n : Lengths) (m : L3Message) → feed_view top (numbered c k) v (apply n m) ≡ feed_view top c v (apply n m)
unfolding feed_view apply_outcome
apply-numbered top c k v n m = refl

boot-numbered : (top : ℕ) (c : Config) (k : ℕ) (v : View) (n : Lengths) (bytes : List ℕ) → feed_view top (numbered c k) v (bootstrap n bytes) ≡ feed_view top c v (bootstrap n bytes)
unfolding feed_view
boot-numbered top c k v n bytes = refl

module _ (top : ℕ) (c : Config) (k : ℕ) where
  by-repeats : (n : Lengths) (m : L3Message) (v : View) (ks : List Call) (o : Outcome) → (o ≡ accepted → apply_outcome top c n false v m ≡ accepted)
      → Repeats v (view_all top (numbered c k) blank ks) → Repeats (view_by c.rules m o v) (view_all top (numbered c k) blank (kept_by o ks (apply n m)))
  by-repeats n m v ks refused h r = r
  by-repeats n m v ks (invalidates i) h r =
      record { line = r.line; last = r.last; fewer = r.fewer; up = λ z. let y : ◌≡◌ {A = ℕ} 0 1 = cc in absurd (omega arith) }
  by-repeats n m v ks dropped h r = r
  by-repeats n m v ks accepted h r =
      rw (view_append top (numbered c k) blank ks (apply n m ∷ []), apply-numbered top c k (view_all top (numbered c k) blank ks) n m) (apply-again top c n v (view_all top (numbered c k) blank ks) r m (h refl))

  boot-first : (n : Lengths) (v : View) (bytes : List ℕ) (x : L3Snapshot) → read_snapshot bytes ≡ Ok x → boot_outcome top c n v bytes ≡ None
      → Repeats (snap_view x bytes v) (feed_view top c blank (bootstrap n bytes))
  unfolding feed_view
  boot-first n v bytes x e h = rw (boot-again top c n v bytes h, e) (record { line = refl; last = refl; fewer = omega arith; up = λ _. refl })

  boot-repeats : (n : Lengths) (v : View) (bytes : List ℕ) (ks : List Call) (o : Option BootstrapError) (s : Result L3Snapshot PieceError) → read_snapshot bytes ≡ s
      → (o ≡ None → boot_outcome top c n v bytes ≡ None) → Repeats v (view_all top (numbered c k) blank ks)
      → Repeats (view_boot o s bytes v) (view_all top (numbered c k) blank (kept_boot o s ks (bootstrap n bytes)))
  boot-repeats n v bytes ks (Some a) s e h r = r
  boot-repeats n v bytes ks None (Err x) e h r = r
  boot-repeats n v bytes ks None (Ok x) e h r = rw (boot-numbered top c k blank n bytes) (boot-first n v bytes x e (h refl))

  repeat-step : (v : View) (ks : List Call) (x : Call) → Repeats v (view_all top (numbered c k) blank ks) → Repeats (feed_view top c v x) (view_all top (numbered c k) blank (kept_after top c v ks x))
  unfolding feed_view kept_after
  repeat-step v ks (bootstrap n bytes) r = boot-repeats n v bytes ks (boot_outcome top c n v bytes) (read_snapshot bytes) refl (λ h. h) r
  repeat-step v ks (apply n m) r = by-repeats n m v ks _ (λ h. h) r
  repeat-step v ks (step n h m) r = by-repeats n m v ks _ (step-applies top c n false v h m) r
  repeat-step v ks (read q) r = r

  repeats : (v : View) (ks rest : List Call) → Repeats v (view_all top (numbered c k) blank ks) → Repeats (view_all top c v rest) (view_all top (numbered c k) blank (kept_all top c v ks rest))
  repeats v ks [] r = r
  repeats v ks (x ∷ rest) r = repeats (feed_view top c v x) (kept_after top c v ks x) rest (repeat-step v ks x r)

  pub all-repeats : (ks : List Call) → Repeats (view_all top c blank ks) (view_all top (numbered c k) blank (kept top c ks))
  all-repeats ks = repeats blank [] ks (record { line = refl; last = refl; fewer = omega arith; up = λ h. h })
