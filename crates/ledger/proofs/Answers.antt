-- The reads that must answer, and the number of each that is turned away: of a book that follows the ledger, 3 aside, a read is turned away by the ledger's view.
-- Assumes nothing.
use Rattle.std.specs.Prelude.{Option, Some, None, Ok}
use Prim.Native.Nat.{ℕ, ◌*◌, ◌≤◌}
use native.Mathlib.Omega.{arith}
use mathlib.Core.Bool.{Bool, true, false, ◌||◌, cond}
use mathlib.Core.Path.{◌≡◌, refl, sym, ap, ◌∙◌}
use mathlib.Core.List.{List, [], ◌∷◌}
use borrow.Author.Tests.{le-ltb}
use lib.Dec.{ltb}
use lib.IntN.{ℤ}
use lib.ListN.{length, drop, take-append-drop}
use Rattle.laws.proofs.Bools.{or_no, or_both}
use Rattle.message.specs.declared.L3Side.{L3Side}
use Rattle.message.specs.Amounts.{nat_of}
use Rattle.book.specs.declared.Resting.{Resting}
use Rattle.book.specs.Line.{Entry, queue}
use Rattle.book.specs.Rows.{rows_of, line_of}
use Rattle.book.specs.Memory.{Memory, Extent, extent_of, orders_of, line_in, front}
use Rattle.book_levels.specs.Levels.{prices}
use Rattle.book_levels.proofs.Writing.{length-levels}
use Rattle.book_queue.specs.declared.EntryForm.TheVariants.{Queue}
use Rattle.book_queue.specs.Queue.{rows_at}
use Rattle.book_queue.proofs.Orders.{width-entries, shown_queue, queue-read}
use Rattle.reconstructor_answers.specs.declared.StateError.TheVariants.{LimitAboveCeiling, LentTooShort, MalformedBook}
use Rattle.reconstructor_state.specs.declared.VenueRules.{VenueRules}
use Rattle.reconstructor_state.specs.declared.BookReconstructor.{BookReconstructor}
use Rattle.reconstructor_state.specs.declared.Status.{Status}
use Rattle.reconstructor_state.specs.declared.Status.TheVariants as statuses
use Rattle.reconstructor_state.specs.Checks.{check, first}
use Rattle.reconstructor_state.specs.State.{View, last_of}
use Rattle.reconstructor_state.proofs.Checks.{fails, goes_on, first-fails, first_on}
use Rattle.reconstructor_checks.specs.StateChecks.{over_ceiling, memory_short, broken}
use Rattle.reconstructor_checks.proofs.StateChecks.{sound, memory-room}
use Rattle.reconstructor_view.specs.declared.ViewError.{ViewError}
use Rattle.reconstructor_view.specs.declared.ViewError.TheVariants as errors
use Rattle.reconstructor_view.specs.Numbers.{view_error_number}
use Rattle.reconstructor_view.specs.ValueReads.{read_refusal, view_refusal, read_refusal_of, view_refusal_of, sequence_of, best_of, audited_of, last_sequence}
use Rattle.reconstructor_reads.specs.Numbers.{level_told}
use Rattle.reconstructor_reads.specs.LevelReads.{queue_words, profile_words, l2_words, Content, queue_content, levels_content, Shows, shown, level_shown, level_read, scratch_short, read_of, stale_shown, stale_read, level_queue, priority_profile, stale_l2}
use Rattle.queue.specs.Estimates.{estimated, own_viewed, ahead_refusal, ahead_of}
use Rattle.ledger.specs.Ledger.{Config}
use Rattle.ledger.specs.World.{World}
use Rattle.ledger.specs.Sum.{valid, invalid, standing_of, Enough, invalid_number, TurnedAway}
use Rattle.ledger.proofs.Stands.{rows-front}
use Rattle.ledger.proofs.Follow.{Follows, broken-rows}

-- ---- by the ledger's view, with 3 aside

-- an invalid one turns a read away, by its number
invalid-says : (top : ℕ) (v : VenueRules) (lent : Extent) (short : Bool) (s : Status) → standing_of s ≡ invalid
    → (e : ViewError) × (view_refusal top v lent short false s ≡ Some e) × (view_error_number e ≡ invalid_number top v lent short)
unfolding view_refusal read_refusal check first
invalid-says top v lent short statuses.Empty h = let z : ◌≡◌ {A = ℕ} 0 1 = cc in absurd (omega arith)
invalid-says top v lent short (statuses.Valid last) h = let z : ◌≡◌ {A = ℕ} 0 1 = cc in absurd (omega arith)
invalid-says top v lent short (statuses.Invalidated i) h = go (over_ceiling top v) (memory_short v lent || short)
  where
    go : (x y : Bool)
        → (e : ViewError) × (first (check x LimitAboveCeiling (check y LentTooShort (check false MalformedBook None))) errors.Unusable (Some (errors.Invalidated i)) ≡ Some e)
        × (view_error_number e ≡ cond x 1 (cond y 2 18))
    go true y = (errors.Unusable LimitAboveCeiling, refl, refl)
    go false true = (errors.Unusable LentTooShort, refl, refl)
    go false false = (errors.Invalidated i, refl, refl)

-- lent enough, none of 1, 2 and 3
enough-read : (top : ℕ) (v : VenueRules) (lent : Extent) (scratch : ℕ) → Enough top v lent scratch → read_refusal top v lent (ltb scratch v.max_orders) false ≡ None
unfolding read_refusal
enough-read top v lent scratch e =
    goes_on _ _ _ _ e.within (goes_on _ _ _ _ (or_both _ _ e.memory (le-ltb scratch v.max_orders e.room)) (goes_on _ _ _ _ refl refl))

valid-says : (top : ℕ) (v : VenueRules) (lent : Extent) (scratch : ℕ) (s : Status) → standing_of s ≡ valid → Enough top v lent scratch → view_refusal top v lent (ltb scratch v.max_orders) false s ≡ None
unfolding view_refusal
valid-says top v lent scratch statuses.Empty h e = let z : ◌≡◌ {A = ℕ} 0 1 = cc in absurd (omega arith)
valid-says top v lent scratch (statuses.Valid last) h e = first_on _ _ _ _ (enough-read top v lent scratch e) refl
valid-says top v lent scratch (statuses.Invalidated i) h e = let z : ◌≡◌ {A = ℕ} 0 1 = cc in absurd (omega arith)

-- ---- what is shown where the output has room

shows_all : (m : ℕ) (c : Content) (sc out : List ℕ) (k : ℕ) → c.entries ≡ k → length c.words ≤ length out → (shown m c sc out).answer ≡ Ok k
unfolding shown
shows_all m c sc out k e h = rw (le-ltb (length out) (length c.words) h) (ap Ok e)

queue-length : (os : List Resting) → length os ≡ length (shown_queue os)
queue-length [] = refl
queue-length (o ∷ os) = omega (arith, queue-length os)

level-answer : (o : Option ViewError) (w : Shows) (sc out : List ℕ) → o ≡ None → (level_read o w sc out).answer ≡ level_shown w.answer
unfolding level_read
level-answer o w sc out h = rw h

stale-answer : (top : ℕ) (b : BookReconstructor) (mem : Memory) (sc : List ℕ) (t : Status) (w : Shows) (out : List ℕ) → read_refusal_of top b mem (scratch_short b sc) ≡ None → standing_of t ≡ invalid
    → (stale_read (read_refusal_of top b mem (scratch_short b sc)) t w sc out).answer ≡ stale_shown w.answer
unfolding stale_read
stale-answer top b mem sc statuses.Empty w out h q = let z : ◌≡◌ {A = ℕ} 0 1 = cc in absurd (omega arith)
stale-answer top b mem sc (statuses.Valid last) w out h q = let z : ◌≡◌ {A = ℕ} 0 1 = cc in absurd (omega arith)
stale-answer top b mem sc (statuses.Invalidated i) w out h q = rw h

-- ---- of a book that follows the ledger, lent the front of its memory

module _ (top : ℕ) (c : Config) (r : Extent) (s : ℕ) (w : World) (v : View) (f : Follows c r s w v) (n : Extent) where
  abbrev mem : Memory
  mem = front n w.memory

  rules_are : w.book.rules ≡ c.rules
  rules_are = ap (λ (x : Config). x.rules) f.stands.config

  status_is : w.book.status ≡ v.status
  status_is = ap (λ (x : View). x.status) f.stands.view

  -- enough words of rows are all the rows
  whole-orders : memory_short w.book.rules (extent_of mem) ≡ false → orders_of mem w.book.rows ≡ orders_of w.memory w.book.rows
  whole-orders h =
      let m = (sound w.book w.memory f.stands.sound).few in
      let l = memory-room w.book.rules mem h in
      sym (rows-front mem.rows (drop n.rows w.memory.rows) w.book.rows (omega (arith, l, m))) ∙ ap (λ (x : List ℕ). rows_of x w.book.rows) (take-append-drop n.rows w.memory.rows)

  whole-line : memory_short w.book.rules (extent_of mem) ≡ false → line_in mem w.book.rows ≡ v.line
  whole-line h = ap line_of (whole-orders h) ∙ ap (λ (x : View). x.line) f.stands.view

  unbroken : memory_short w.book.rules (extent_of mem) ≡ false → broken w.book mem ≡ false
  unbroken h = broken-rows w.book mem w.memory (whole-orders h) ∙ f.stands.sound

  -- 3 aside
  read_own : (short : Bool) → read_refusal_of top w.book mem short ≡ read_refusal top w.book.rules (extent_of mem) short false
  unfolding read_refusal
  read_own short = go (memory_short w.book.rules (extent_of mem) || short) refl
    where
      go : (y : Bool) → (memory_short w.book.rules (extent_of mem) || short) ≡ y
          → check (over_ceiling top w.book.rules) LimitAboveCeiling (check (memory_short w.book.rules (extent_of mem) || short) LentTooShort (check (broken w.book mem) MalformedBook None))
          ≡ check (over_ceiling top w.book.rules) LimitAboveCeiling (check (memory_short w.book.rules (extent_of mem) || short) LentTooShort (check false MalformedBook None))
      go true p = ap (check (over_ceiling top w.book.rules) LimitAboveCeiling) (fails _ _ _ p ∙ sym (fails _ _ _ p))
      go false p =
          ap (λ (t : Bool). check (over_ceiling top w.book.rules) LimitAboveCeiling (check (memory_short w.book.rules (extent_of mem) || short) LentTooShort (check t MalformedBook None)))
          (unbroken (or_no (memory_short w.book.rules (extent_of mem)) short p).0)

  read_is : (short : Bool) → read_refusal_of top w.book mem short ≡ read_refusal top c.rules (extent_of mem) short false
  read_is short = read_own short ∙ ap (λ (x : VenueRules). read_refusal top x (extent_of mem) short false) rules_are

  view_is : (short : Bool) → view_refusal_of top w.book mem short ≡ view_refusal top c.rules (extent_of mem) short false v.status
  unfolding view_refusal
  view_is short = rw (read_is short, status_is)

  short_is : (sc : List ℕ) → scratch_short w.book sc ≡ ltb (length sc) c.rules.max_orders
  short_is sc = ap (λ (x : VenueRules). ltb (length sc) x.max_orders) rules_are

  -- ---- invalid

  abbrev Away : Bool → Type 0
  Away short = (e : ViewError) × (view_refusal_of top w.book mem short ≡ Some e) × (view_error_number e ≡ invalid_number top c.rules (extent_of mem) short)

  away : standing_of v.status ≡ invalid → (short : Bool) → Away short
  away h short = let x = invalid-says top c.rules (extent_of mem) short v.status h in (x.0, view_is short ∙ x.1, x.2)

  scratch-away : standing_of v.status ≡ invalid → (sc : List ℕ)
      → (e : ViewError) × (view_refusal_of top w.book mem (scratch_short w.book sc) ≡ Some e) × (view_error_number e ≡ invalid_number top c.rules (extent_of mem) (ltb (length sc) c.rules.max_orders))
  scratch-away h sc = let x = away h (scratch_short w.book sc) in (x.0, x.1, x.2 ∙ ap (invalid_number top c.rules (extent_of mem)) (short_is sc))

  level-away : standing_of v.status ≡ invalid → (k : Content) (sc out : List ℕ)
      → (level_told (read_of top w.book mem sc k out).answer).number ≡ invalid_number top c.rules (extent_of mem) (ltb (length sc) c.rules.max_orders)
  unfolding level_read
  level-away h k sc out = let x = scratch-away h sc in rw x.1 x.2

  pub turned-away : standing_of v.status ≡ invalid → TurnedAway top c.rules w.book mem
  unfolding sequence_of best_of audited_of estimated own_viewed ahead_refusal ahead_of
  turned-away h =
      let x = away h false in
      record {
        last-sequence = rw x.1 x.2;
        best = rw x.1 x.2;
        audit = rw x.1 x.2;
        level-queue = λ sc t z out. level-away h (queue_content t (nat_of z) (orders_of mem w.book.rows)) sc out;
        priority-profile = λ sc t out. level-away h (levels_content profile_words t (orders_of mem w.book.rows)) sc out;
        level-volumes = λ sc t out. level-away h (levels_content l2_words t (orders_of mem w.book.rows)) sc out;
        queue-estimate = λ t z ahead. rw x.1 x.2;
        queue-estimate_own = λ d. rw x.1 x.2;
        volume-ahead = λ q ahead. rw (first-fails _ _ _ _ x.1) x.2;
      }

  -- ---- lent enough

  module _ (sc : List ℕ) (e : Enough top c.rules (extent_of mem) (length sc)) where
    lent-memory : memory_short w.book.rules (extent_of mem) ≡ false
    lent-memory = ap (λ (x : VenueRules). memory_short x (extent_of mem)) rules_are ∙ e.memory

    viewed-none : standing_of v.status ≡ valid → view_refusal_of top w.book mem (scratch_short w.book sc) ≡ None
    viewed-none h =
        ap (view_refusal_of top w.book mem) (short_is sc) ∙ view_is (ltb (length sc) c.rules.max_orders) ∙ valid-says top c.rules (extent_of mem) (length sc) v.status h e

    read_none : read_refusal_of top w.book mem (scratch_short w.book sc) ≡ None
    read_none =
        ap (read_refusal_of top w.book mem) (short_is sc) ∙ read_is (ltb (length sc) c.rules.max_orders) ∙ enough-read top c.rules (extent_of mem) (length sc) e

    abbrev os : List Resting
    os = orders_of mem w.book.rows

    queue-many : (t : L3Side) (p : ℕ) → length (rows_at t p os) ≡ length (queue t p v.line)
    queue-many t p = queue-length (rows_at t p os) ∙ ap length (queue-read t p os) ∙ ap (λ (x : List Entry). length (queue t p x)) (whole-line lent-memory)

    levels-many : (t : L3Side) → length (prices t (line_of os)) ≡ length (prices t v.line)
    levels-many t = ap (λ (x : List Entry). length (prices t x)) (whole-line lent-memory)

    pub queue-answers : standing_of v.status ≡ valid → (t : L3Side) (z : ℤ) (out : List ℕ) → queue_words * length (queue t (nat_of z) v.line) ≤ length out
        → (level_queue top w.book mem sc t z out).answer ≡ Ok (length (queue t (nat_of z) v.line))
    queue-answers h t z out k =
        level-answer _ (shown w.book.rules.max_orders (queue_content t (nat_of z) os) sc out) sc out (viewed-none h)
        ∙ ap level_shown
        (shows_all w.book.rules.max_orders (queue_content t (nat_of z) os) sc out _ (queue-many t (nat_of z))
        (omega (arith, k, queue-many t (nat_of z), width-entries Queue (rows_at t (nat_of z) os))))

    pub profile-answers : standing_of v.status ≡ valid → (t : L3Side) (out : List ℕ) → profile_words * length (prices t v.line) ≤ length out
        → (priority_profile top w.book mem sc t out).answer ≡ Ok (length (prices t v.line))
    profile-answers h t out k =
        level-answer _ (shown w.book.rules.max_orders (levels_content profile_words t os) sc out) sc out (viewed-none h)
        ∙ ap level_shown
        (shows_all w.book.rules.max_orders (levels_content profile_words t os) sc out _ (levels-many t)
        (omega (arith, k, levels-many t, length-levels 3 (omega arith) t os (prices t (line_of os)))))

    pub stale-answers : standing_of v.status ≡ invalid → (t : L3Side) (out : List ℕ) → l2_words * length (prices t v.line) ≤ length out
        → (stale_l2 top w.book mem sc t out).answer ≡ Ok (Some (length (prices t v.line)))
    stale-answers h t out k =
        stale-answer top w.book mem sc w.book.status (shown w.book.rules.max_orders (levels_content l2_words t os) sc out) out read_none (ap standing_of status_is ∙ h)
        ∙ ap stale_shown
        (shows_all w.book.rules.max_orders (levels_content l2_words t os) sc out _ (levels-many t)
        (omega (arith, k, levels-many t, length-levels 2 (omega arith) t os (prices t (line_of os)))))

  pub last-answers : standing_of v.status ≡ valid → Enough top c.rules (extent_of mem) c.rules.max_orders → last_sequence top w.book mem ≡ Ok (last_of v.status)
  unfolding sequence_of
  last-answers h e =
      let z : ltb c.rules.max_orders c.rules.max_orders ≡ false = le-ltb c.rules.max_orders c.rules.max_orders (omega arith) in
      let q : view_refusal_of top w.book mem false ≡ None = view_is false ∙ (rw z at (valid-says top c.rules (extent_of mem) c.rules.max_orders v.status h e)) in
      rw (q, status_is)
