-- Once invalidated, nothing counts and nothing rests anew: the line is what it was before the invalidating message.
-- Assumes nothing.
use Rattle.std.specs.Prelude.{Option, Some, None, Result, Ok, Err}
use Prim.Native.Nat.{ℕ, zero, suc}
use native.Mathlib.Omega.{arith}
use mathlib.Core.Bool.{Bool, true, false}
use mathlib.Core.Path.{◌≡◌, refl, sym, ap, ◌∙◌}
use mathlib.Core.Logic.{◌⊎◌, inl, inr}
use mathlib.Core.List.{List, [], ◌∷◌, ◌++◌, append_assoc, append-nil}
use lib.ListN.{take}
use Rattle.message.specs.declared.L3Message.{L3Message}
use Rattle.piece.specs.Piece.{read_snapshot}
use Rattle.reconstructor_answers.specs.declared.ApplyError.{ApplyError}
use Rattle.reconstructor_answers.specs.declared.InvalidationKind.{InvalidationKind}
use Rattle.reconstructor_state.specs.declared.VenueRules.{VenueRules}
use Rattle.reconstructor_state.specs.declared.Status.{Status}
use Rattle.reconstructor_state.specs.declared.Status.TheVariants as statuses
use Rattle.reconstructor_state.specs.State.{View, Lengths}
use Rattle.reconstructor_state.proofs.Checks.{first-passed}
use Rattle.reconstructor.specs.Refusals.{status_refusal, gate_refusal}
use Rattle.reconstructor_bootstrap.specs.declared.BootstrapError.{BootstrapError}
use Rattle.reconstructor_handshake.specs.declared.Handshake.{Handshake}
use Rattle.reconstructor_handshake.specs.declared.StepAnswer.{StepAnswer}
use Rattle.ledger.specs.Ledger.{Config, Call, bootstrap, apply, step, read, blank, Outcome, refused, invalidates, dropped, accepted, outcome_of, apply_outcome, step_outcome_of, step_outcome, boot_outcome, view_by, view_boot, feed_view}
use Rattle.ledger.specs.Kept.{kept_by, kept_boot, kept_after, kept_all, kept}
use Rattle.ledger.specs.Sum.{valid, invalid, standing_of}
use Rattle.ledger.proofs.Follow.{view_all}
use Rattle.ledger.proofs.Replay.{view_append, admit-status}
use Rattle.message.specs.declared.L3Snapshot.{L3Snapshot}
use Rattle.piece.specs.declared.PieceError.{PieceError}

-- an outcome that changes the view
abbrev touches : Outcome → Type 0
touches refused = ⊥
touches (invalidates k) = Unit {0}
touches dropped = ⊥
touches accepted = Unit {0}

touched : (g : Option ApplyError) (t : Option InvalidationKind) → touches (outcome_of g t) → g ≡ None
unfolding outcome_of
touched (Some a) t h = absurd h
touched None t h = refl

through : (g : Option StepAnswer) (d : Bool) (o : Outcome) → touches (step_outcome_of g d o) → touches o
unfolding step_outcome_of
through (Some a) d o h = absurd h
through None true o h = absurd h
through None false o h = h

is-valid : (s : Status) → status_refusal s ≡ None → standing_of s ≡ valid
is-valid statuses.Empty h = let z : ◌≡◌ {A = ℕ} 0 1 = cc in absurd (omega arith)
is-valid (statuses.Valid last) h = refl
is-valid (statuses.Invalidated i) h = let z : ◌≡◌ {A = ℕ} 0 1 = cc in absurd (omega arith)

module _ (top : ℕ) (c : Config) (n : Lengths) (v : View) where
  gate-valid : (m : L3Message) → gate_refusal top c.product c.rules n false v m ≡ None → standing_of v.status ≡ valid
  unfolding gate_refusal
  gate-valid m h = is-valid v.status (admit-status c.product v.status m (first-passed _ _ _ h).1)

  apply-touched : (m : L3Message) → touches (apply_outcome top c n false v m) → standing_of v.status ≡ valid
  unfolding apply_outcome
  apply-touched m h = gate-valid m (touched _ _ h)

  step-touched : (h : Handshake) (m : L3Message) → touches (step_outcome top c n false v h m) → standing_of v.status ≡ valid
  unfolding step_outcome
  step-touched h m t = apply-touched m (through _ _ _ t)

-- a call after which the book is invalid: it was so before, or that call made it so; nothing counts, and the line stays
record Frozen (v v' : View) (ks ks' : List Call) : Type 0 where
  was : (standing_of v.status ≡ invalid) ⊎ (standing_of v.status ≡ valid)
  kept : ks' ≡ ks
  line : v'.line ≡ v.line

by-frozen : (r : VenueRules) (m : L3Message) (v : View) (ks : List Call) (k : Call) (o : Outcome) → (touches o → standing_of v.status ≡ valid)
    → standing_of (view_by r m o v).status ≡ invalid → Frozen v (view_by r m o v) ks (kept_by o ks k)
by-frozen r m v ks k refused h q = record { was = inl q; kept = refl; line = refl }
by-frozen r m v ks k (invalidates i) h q = record { was = inr (h tt); kept = refl; line = refl }
by-frozen r m v ks k dropped h q = record { was = inl q; kept = refl; line = refl }
by-frozen r m v ks k accepted h q = let z : ◌≡◌ {A = ℕ} 0 1 = cc in absurd (omega arith)

boot-frozen : (v : View) (ks : List Call) (k : Call) (bytes : List ℕ) (s : Result L3Snapshot PieceError) (o : Option BootstrapError)
    → standing_of (view_boot o s bytes v).status ≡ invalid → Frozen v (view_boot o s bytes v) ks (kept_boot o s ks k)
boot-frozen v ks k bytes s (Some a) q = record { was = inl q; kept = refl; line = refl }
boot-frozen v ks k bytes (Err e) None q = record { was = inl q; kept = refl; line = refl }
boot-frozen v ks k bytes (Ok s) None q = let z : ◌≡◌ {A = ℕ} 0 1 = cc in absurd (omega arith)

frozen : (top : ℕ) (c : Config) (v : View) (ks : List Call) (k : Call) → standing_of (feed_view top c v k).status ≡ invalid → Frozen v (feed_view top c v k) ks (kept_after top c v ks k)
unfolding feed_view kept_after
frozen top c v ks (bootstrap n bytes) q = boot-frozen v ks (bootstrap n bytes) bytes (read_snapshot bytes) (boot_outcome top c n v bytes) q
frozen top c v ks (apply n m) q = by-frozen c.rules m v ks (apply n m) (apply_outcome top c n false v m) (apply-touched top c n v m) q
frozen top c v ks (step n h m) q = by-frozen c.rules m v ks (apply n m) (step_outcome top c n false v h m) (step-touched top c n v h m) q
frozen top c v ks (read x) q = record { was = inl q; kept = refl; line = refl }

-- every prefix of the calls leaves the view invalid
abbrev Stays : (top : ℕ) → Config → View → List Call → Type 0
Stays top c v [] = standing_of v.status ≡ invalid
Stays top c v (k ∷ ks) = (standing_of v.status ≡ invalid) × Stays top c (feed_view top c v k) ks

stays-more : (top : ℕ) (c : Config) (v : View) (ks : List Call) (k : Call) → Stays top c v ks → standing_of (view_all top c v (ks ++ (k ∷ []))).status ≡ invalid → Stays top c v (ks ++ (k ∷ []))
stays-more top c v [] k s q = (s, q)
stays-more top c v (x ∷ ks) k s q = (s.0, stays-more top c (feed_view top c v x) ks k s.1 q)

pub stays_at : (top : ℕ) (c : Config) (v : View) (ks : List Call) (n : ℕ) → Stays top c v ks → standing_of (view_all top c v (take n ks)).status ≡ invalid
stays_at top c v [] zero s = s
stays_at top c v [] (suc n) s = s
stays_at top c v (x ∷ ks) zero s = s.0
stays_at top c v (x ∷ ks) (suc n) s = stays_at top c (feed_view top c v x) ks n s.1

-- the calls so far fall into those before an invalidating message, that message, and those since
pub record Stale (top : ℕ) (c : Config) (ks : List Call) : Type 0 where
  pub before : List Call
  pub bad : Call
  pub after : List Call
  pub parts : ks ≡ before ++ (bad ∷ after)
  pub stood : standing_of (view_all top c blank before).status ≡ valid
  pub stays : Stays top c (view_all top c blank (before ++ (bad ∷ []))) after
  pub kept : kept top c ks ≡ kept top c before
  pub line : (view_all top c blank ks).line ≡ (view_all top c blank before).line

abbrev IfStale : (top : ℕ) → Config → List Call → Type 0
IfStale top c ks = standing_of (view_all top c blank ks).status ≡ invalid → Stale top c ks

kept_append : (top : ℕ) (c : Config) (v : View) (ks a b : List Call) → kept_all top c v ks (a ++ b) ≡ kept_all top c (view_all top c v a) (kept_all top c v ks a) b
kept_append top c v ks [] b = refl
kept_append top c v ks (k ∷ a) b = kept_append top c (feed_view top c v k) (kept_after top c v ks k) a b

one_more : (top : ℕ) (c : Config) (ks : List Call) (k : Call) → IfStale top c ks → IfStale top c (ks ++ (k ∷ []))
one_more top c ks k st q = go f.was
  where
    q' : standing_of (feed_view top c (view_all top c blank ks) k).status ≡ invalid
    q' = sym (ap (λ (x : View). standing_of x.status) (view_append top c blank ks (k ∷ []))) ∙ q

    f : Frozen (view_all top c blank ks) (feed_view top c (view_all top c blank ks) k) (kept top c ks) (kept_after top c (view_all top c blank ks) (kept top c ks) k)
    f = frozen top c (view_all top c blank ks) (kept top c ks) k q'

    same_kept : kept top c (ks ++ (k ∷ [])) ≡ kept top c ks
    same_kept = kept_append top c blank [] ks (k ∷ []) ∙ f.kept

    same_line : (view_all top c blank (ks ++ (k ∷ []))).line ≡ (view_all top c blank ks).line
    same_line = ap (λ (x : View). x.line) (view_append top c blank ks (k ∷ [])) ∙ f.line

    ended : (s : Stale top c ks) → standing_of (view_all top c (view_all top c blank (s.before ++ (s.bad ∷ []))) (s.after ++ (k ∷ []))).status ≡ invalid
    ended s =
        let e : ks ++ (k ∷ []) ≡ (s.before ++ (s.bad ∷ [])) ++ (s.after ++ (k ∷ [])) =
        ap (λ (x : List Call). x ++ (k ∷ [])) s.parts
        ∙ append_assoc s.before (s.bad ∷ s.after) (k ∷ [])
        ∙ sym (append_assoc s.before (s.bad ∷ []) (s.after ++ (k ∷ []))) in
        sym (ap (λ (x : View). standing_of x.status) (ap (view_all top c blank) e ∙ view_append top c blank (s.before ++ (s.bad ∷ [])) (s.after ++ (k ∷ [])))) ∙ q

    go : ((standing_of (view_all top c blank ks).status ≡ invalid) ⊎ (standing_of (view_all top c blank ks).status ≡ valid)) → Stale top c (ks ++ (k ∷ []))
    go (inl z) =
        let s = st z in
        record {
          before = s.before;
          bad = s.bad;
          after = s.after ++ (k ∷ []);
          parts = ap (λ (x : List Call). x ++ (k ∷ [])) s.parts ∙ append_assoc s.before (s.bad ∷ s.after) (k ∷ []);
          stood = s.stood;
          stays = stays-more top c (view_all top c blank (s.before ++ (s.bad ∷ []))) s.after k s.stays (ended s);
          kept = same_kept ∙ s.kept;
          line = same_line ∙ s.line;
        }
    go (inr z) = record { before = ks; bad = k; after = []; parts = refl; stood = z; stays = q; kept = same_kept; line = same_line }

more : (top : ℕ) (c : Config) (ks rest : List Call) → IfStale top c ks → IfStale top c (ks ++ rest)
more top c ks [] st = rw (append-nil ks) st
more top c ks (k ∷ rest) st = rw (append_assoc ks (k ∷ []) rest) at (more top c (ks ++ (k ∷ [])) rest (one_more top c ks k st))

pub stale-line : (top : ℕ) (c : Config) (ks : List Call) → standing_of (view_all top c blank ks).status ≡ invalid → Stale top c ks
stale-line top c ks = more top c [] ks (λ q. let z : ◌≡◌ {A = ℕ} 0 1 = cc in absurd (omega arith))

-- after the invalidating message and any number of those since
pub stale-since : (top : ℕ) (c : Config) (ks : List Call) (s : Stale top c ks) (n : ℕ) → standing_of (view_all top c blank (s.before ++ (s.bad ∷ take n s.after))).status ≡ invalid
stale-since top c ks s n =
    ap (λ (x : View). standing_of x.status)
    (ap (view_all top c blank) (sym (append_assoc s.before (s.bad ∷ []) (take n s.after))) ∙ view_append top c blank (s.before ++ (s.bad ∷ [])) (take n s.after))
    ∙ stays_at top c (view_all top c blank (s.before ++ (s.bad ∷ []))) s.after n s.stays
