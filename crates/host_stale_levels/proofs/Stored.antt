-- What the stale read comes to, as the laws of the level reads say it (Stored.antt of `host_level_stops`).
-- Assumes nothing.
use Rattle.std.specs.Prelude.{Option, Some, None, Result, Ok, Err}
use Prim.Native.Nat.{ℕ}
use mathlib.Core.Path.{◌≡◌, refl, ap, ◌∙◌}
use mathlib.Core.Bool.{Bool, true, false}
use mathlib.Core.List.{List, []}
use borrow.Author.Tests.{eqb-true, eqb-false}
use lib.Dec.{eqb}
use lib.ListN.{length}
use Rattle.reconstructor_answers.specs.declared.StateError.{StateError}
use Rattle.reconstructor_state.specs.declared.Status.{Status}
use Rattle.reconstructor_state.specs.declared.Status.TheVariants as statuses
use Rattle.reconstructor_reads.specs.declared.OutputTooSmall.{OutputTooSmall}
use Rattle.reconstructor_reads.specs.declared.StaleError.{StaleError}
use Rattle.reconstructor_reads.specs.Numbers.{stale_told}
use Rattle.reconstructor_reads.specs.LevelReads.{too_small, Shows, shows, StaleRead, leaves_stale, stale_shown, stale_read}
use Rattle.host_boundary.specs.Boundary.{unless_turned}
use Rattle.host_answers.specs.Answers.{answered, told_in, lastly}
use Rattle.host_level_stops.specs.Stops.{level_called, stop_of}
use Rattle.host_level_stops.proofs.Stored.{stopped, stored}
use Rattle.host_stale_levels.specs.Stale.{after_stale}

-- what is told of it without a word for the number of entries
abbrev unshown : Option StateError → Status → ℕ
unshown o t = (stale_told (stale_read o t (shows (Err too_small) [] []) [] []).answer).number

-- what is shown and what has no room are both 7 where the number of entries has no word
seven : (a : Result ℕ OutputTooSmall) → 7 ≡ lastly (stale_told (stale_shown a)).number
seven (Ok n) = refl
seven (Err e) = refl

stale-lastly : (o : Option StateError) (t : Status) (s : Shows) (sc out : List ℕ) → lastly (unshown o t) ≡ lastly (stale_told (stale_read o t s sc out).answer).number
unfolding stale_read
stale-lastly (Some e) t s sc out = refl
stale-lastly None statuses.Empty s sc out = refl
stale-lastly None (statuses.Valid last) s sc out = refl
stale-lastly None (statuses.Invalidated i) s sc out = seven s.answer

module _ (k turned : ℕ) (o : Option StateError) (t : Status) (sc out count : List ℕ) (stop : k ≡ stop_of turned (length count) (unshown o t)) where
  stale-stopped : (s : Shows) → (k ≡ 0 → ⊥) → level_called k sc out count ≡ unless_turned turned (λ (n : ℕ). level_called n sc out count) (after_stale sc out count (stale_read o t s sc out))
  stale-stopped s h =
      stopped k turned _ sc out count stop (stale_told (stale_read o t s sc out).answer) (stale_read o t s sc out).scratch (stale_read o t s sc out).out h (stale-lastly o t s sc out)

  stale-stored : (n : ℕ) (left shown after : List ℕ) (a : Result (Option ℕ) StaleError) (r : StaleRead) → k ≡ 0 → answered n after ≡ told_in (stale_told a) count → leaves_stale a left shown ≡ r
      → level_called n left shown after ≡ unless_turned turned (λ (m : ℕ). level_called m sc out count) (after_stale sc out count r)
  stale-stored n left shown after a r z p q =
      stored k turned _ sc out count stop n left shown after (stale_told a) z p ∙ ap (λ (x : StaleRead). unless_turned turned (λ (m : ℕ). level_called m sc out count) (after_stale sc out count x)) q

  -- where something stands in its way, and else by what it reads and stores
  pub stale-comes : (s : Shows) (n : ℕ) (left shown after : List ℕ) → ((k ≡ 0 → ⊥) → level_called n left shown after ≡ level_called k sc out count)
      → (k ≡ 0 → (a : Result (Option ℕ) StaleError) × (leaves_stale a left shown ≡ stale_read o t s sc out) × (answered n after ≡ told_in (stale_told a) count))
      → level_called n left shown after ≡ unless_turned turned (λ (m : ℕ). level_called m sc out count) (after_stale sc out count (stale_read o t s sc out))
  stale-comes s n left shown after away read = go (eqb k 0) refl
    where
      go : (x : Bool) → eqb k 0 ≡ x → level_called n left shown after ≡ unless_turned turned (λ (m : ℕ). level_called m sc out count) (after_stale sc out count (stale_read o t s sc out))
      go true p = let z = eqb-true k 0 p in let r = read z in stale-stored n left shown after r.0 (stale_read o t s sc out) z r.2 r.1
      go false p = let h = eqb-false k 0 p in away h ∙ stale-stopped s h
