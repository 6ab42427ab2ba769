-- The rows after an accepted event are in the index that foresaw and noted it.
-- Assumes nothing.
use Rattle.std.specs.Prelude.{Option, Some, None}
use Prim.Native.Nat.{ℕ, ◌-◌}
use mathlib.Core.Path.{◌≡◌, ap, ◌∙◌}
use mathlib.Core.Bool.{Bool, true, false, cond}
use mathlib.Core.List.{List}
use lib.Dec.{eqb}
use Rattle.message.specs.declared.L3Side.{L3Side}
use Rattle.message.specs.declared.L3Event.{L3Event}
use Rattle.message.specs.declared.L3Event.TheVariants.{Received, Open, Done, Match, Change, Unsupported}
use Rattle.message.specs.Amounts.{nat_of}
use Rattle.reconstructor_state.specs.declared.VenueRules.{VenueRules}
use Rattle.book.specs.declared.Resting.{Resting}
use Rattle.book.specs.Line.{Entry, find}
use Rattle.book.specs.Rows.{line_of, reduced, observed_row}
use Rattle.book.specs.Memory.{keep, cut_to, orders_by}
use Rattle.book_index.specs.declared.Bounds.{Bounds}
use Rattle.book_index.specs.Index.{bounded, row_marked, row_bounded, all, Foreseen, noted}
use Rattle.reconstructor_plan.specs.Rules.{entry_for, size_given, done_effect, match_effect, change_effect, effect}
use Rattle.book_index.proofs.Index.{all-joined, all_cut, marked-same, bounded-same, marks-kept, marked_now}
use Rattle.book.proofs.Memory.{observed-side}

-- a test that looks at neither the size nor the mark of a decrease, and that the event's new order passes
module _ (f : Resting → Bool) (same : (o : Resting) (r : ℕ) (mark : Option ℕ) → f (reduced o r mark) ≡ f o) (v : VenueRules) (os : List Resting) (h : all f os ≡ true) (seq : ℕ) where
  abbrev Joins : L3Event → Type 0
  Joins (Received d s) = Unit {0}
  Joins (Open d s p q) = f (observed_row seq (entry_for d s (nat_of p) (nat_of q))) ≡ true
  Joins (Done d s p why r) = Unit {0}
  Joins (Match m t s p q) = Unit {0}
  Joins (Change d s why p old_size new_size old_price new_price funds) = Unit {0}
  Joins (Unsupported k) = Unit {0}

  event_all : (e : L3Event) → Joins e → all f (orders_by (effect v (line_of os) seq e) os) ≡ true
  unfolding effect
  event_all (Received d s) j = h
  event_all (Open d s p q) j = all-joined f os (observed_row seq (entry_for d s (nat_of p) (nat_of q))) h j
  event_all (Done d s p why r) j = go (find d (line_of os))
    where
      go : (o : Option Entry) → all f (orders_by (done_effect d o) os) ≡ true
      go None = h
      go (Some e) = all_cut f same d 0 None os h
  event_all (Match m t s p q) j = go (find m (line_of os))
    where
      go : (o : Option Entry) → all f (orders_by (match_effect m o (nat_of q)) os) ≡ true
      go None = h
      go (Some e) = all_cut f same m (e.remaining - nat_of q) None os h
  event_all (Change d s why p old_size new_size old_price new_price funds) j = go (find d (line_of os))
    where
      noop : (b : Bool) → all f (orders_by (cond b keep (cut_to d (size_given new_size) (Some seq))) os) ≡ true
      noop true = h
      noop false = all_cut f same d (size_given new_size) (Some seq) os h

      go : (o : Option Entry) → all f (orders_by (change_effect seq d o (size_given new_size)) os) ≡ true
      go None = h
      go (Some e) = noop (eqb (size_given new_size) e.remaining)
  event_all (Unsupported k) j = h

-- noting an event takes no mark away
pub noted-marks : (places : List ℕ) (n : ℕ) (e : L3Event) (os : List Resting) → all (row_marked places) os ≡ true → all (row_marked (noted places n e)) os ≡ true
noted-marks places n (Received d s) os h = h
noted-marks places n (Open d s p q) os h = marks-kept places n d os h
noted-marks places n (Done d s p why r) os h = h
noted-marks places n (Match m t s p q) os h = h
noted-marks places n (Change d s why p old_size new_size old_price new_price funds) os h = h
noted-marks places n (Unsupported k) os h = h

-- marked, once the event is noted behind any number of rows
pub event-marked : (places : List ℕ) (n : ℕ) (v : VenueRules) (os : List Resting) (seq : ℕ) (e : L3Event) → all (row_marked places) os ≡ true
    → all (row_marked (noted places n e)) (orders_by (effect v (line_of os) seq e) os) ≡ true
event-marked places n v os seq e h = event_all (row_marked (noted places n e)) (marked-same (noted places n e)) v os (noted-marks places n e os h) seq e (joins e)
  where
    joins : (e : L3Event) → Joins (row_marked (noted places n e)) (marked-same (noted places n e)) v os (noted-marks places n e os h) seq e
    joins (Received d s) = tt
    joins (Open d s p q) = marked_now places n d
    joins (Done d s p why r) = tt
    joins (Match m t s p q) = tt
    joins (Change d s why p old_size new_size old_price new_price funds) = tt
    joins (Unsupported k) = tt

-- within bounds that foresaw the event
pub event-bounded : (b : Option Bounds) (v : VenueRules) (os : List Resting) (seq : ℕ) (e : L3Event) → Foreseen b e → all (row_bounded b) os ≡ true → all (row_bounded b) (orders_by (effect v (line_of os) seq e) os) ≡ true
event-bounded b v os seq e w h = event_all (row_bounded b) (bounded-same b) v os h seq e (joins e w)
  where
    joins : (e : L3Event) → Foreseen b e → Joins (row_bounded b) (bounded-same b) v os h seq e
    joins (Received d s) w = tt
    joins (Open d s p q) w = ap (λ (x : L3Side). bounded b x (nat_of p)) (observed-side s) ∙ w
    joins (Done d s p why r) w = tt
    joins (Match m t s p q) w = tt
    joins (Change d s why p old_size new_size old_price new_price funds) w = tt
    joins (Unsupported k) w = tt
