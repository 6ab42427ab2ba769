-- The calls that count: the last accepted snapshot, and the messages accepted since, each once. A step's message is repeated by `apply`.
use Rattle.std.specs.Prelude.{ℕ, false, List, [], ◌∷◌, ◌++◌, Option, Some, None, Result, Ok, Err}
use Rattle.piece.specs.Piece.{read_snapshot}
use Rattle.reconstructor_state.specs.State.{View}
use Rattle.reconstructor_bootstrap.specs.declared.BootstrapError.{BootstrapError}
use Rattle.ledger.specs.Ledger.{Config, Call, bootstrap, apply, step, read, blank, Outcome, refused, invalidates, dropped, accepted, apply_outcome, step_outcome, boot_outcome, feed_view}
use Rattle.message.specs.declared.L3Snapshot.{L3Snapshot}
use Rattle.piece.specs.declared.PieceError.{PieceError}

-- of calls by value, and of exported ones
abbrev pub kept_by : {A : Type 0} → Outcome → List A → A → List A
kept_by refused ks k = ks
kept_by (invalidates i) ks k = ks
kept_by dropped ks k = ks
kept_by accepted ks k = ks ++ (k ∷ [])

abbrev pub kept_boot : {A : Type 0} → Option BootstrapError → Result L3Snapshot PieceError → List A → A → List A
kept_boot (Some e) s ks k = ks
kept_boot None (Err e) ks k = ks
kept_boot None (Ok s) ks k = k ∷ []

module _ (top : ℕ) (c : Config) where
  unfoldable pub kept_after : View → List Call → Call → List Call
  kept_after w ks (bootstrap n bytes) = kept_boot (boot_outcome top c n w bytes) (read_snapshot bytes) ks (bootstrap n bytes)
  kept_after w ks (apply n m) = kept_by (apply_outcome top c n false w m) ks (apply n m)
  kept_after w ks (step n h m) = kept_by (step_outcome top c n false w h m) ks (apply n m)
  kept_after w ks (read q) = ks

  abbrev pub kept_all : View → List Call → List Call → List Call
  kept_all w ks [] = ks
  kept_all w ks (k ∷ rest) = kept_all (feed_view top c w k) (kept_after w ks k) rest

  -- of all calls on a fresh book
  abbrev pub kept : List Call → List Call
  kept ks = kept_all blank [] ks
