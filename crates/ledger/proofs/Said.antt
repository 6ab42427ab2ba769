-- What a read of a book in the host's memory says of its line.
-- Assumes nothing.
use Rattle.std.specs.Prelude.{Option, Some, None, Result, Ok, Err}
use Prim.Native.Nat.{ℕ, ◌*◌}
use native.Mathlib.Omega.{arith}
use mathlib.Core.Bool.{Bool, true, false, cond}
use mathlib.Core.Path.{◌≡◌, refl, sym, ap, ◌∙◌}
use mathlib.Core.List.{List}
use lib.Dec.{ltb}
use lib.IntN.{ℤ}
use lib.ListN.{length, take, drop, take-append-drop}
use lib.Seq.{take_at}
use Rattle.message.specs.declared.L3Side.{L3Side}
use Rattle.message.specs.Amounts.{nat_of}
use Rattle.book.specs.declared.Resting.{Resting}
use Rattle.book.specs.Line.{queue}
use Rattle.book.specs.Rows.{rows_of, line_of}
use Rattle.book.specs.Memory.{Memory, Extent, orders_of, line_in, front}
use Rattle.book_scratch.specs.Scratch.{zeroed}
use Rattle.book_levels.specs.Levels.{prices, written}
use Rattle.book_levels.proofs.Writing.{length-levels}
use Rattle.book_queue.specs.declared.EntryForm.TheVariants.{Queue}
use Rattle.book_queue.specs.Queue.{rows_at}
use Rattle.book_queue.proofs.Orders.{width-entries}
use Rattle.reconstructor_state.specs.declared.BookReconstructor.{BookReconstructor}
use Rattle.reconstructor_state.specs.declared.Status.{Status}
use Rattle.reconstructor_state.specs.declared.Status.TheVariants as statuses
use Rattle.reconstructor_answers.specs.declared.StateError.{StateError}
use Rattle.reconstructor_view.specs.declared.ViewError.{ViewError}
use Rattle.reconstructor_checks.proofs.StateChecks.{sound, memory-room}
use Rattle.reconstructor_view.specs.ValueReads.{read_refusal_of, view_refusal_of}
use Rattle.reconstructor_view.proofs.Readable.{Readable, readable, valid-read}
use Rattle.reconstructor_reads.specs.declared.OutputTooSmall.{OutputTooSmall}
use Rattle.reconstructor_reads.specs.LevelReads.{queue_words, profile_words, l2_words, Content, queue_content, levels_content, too_small, Shows, shows, shown, level_shown, level_read, scratch_short, stale_shown, stale_read, level_queue, priority_profile, stale_l2}
use Rattle.reconstructor_reads.specs.Said.{queue_said, profile_said, l2_said, volumes_at}
use Rattle.reconstructor_reads.proofs.Laws.{queue-said, profile-said, l2-said}
use Rattle.ledger.proofs.Stands.{rows-front}

-- a read that shows k entries has written the content's words, so many
record Wrote (c : Content) (out after : List ℕ) (k : ℕ) : Type 0 where
  many : k ≡ c.entries
  words : after ≡ written c.words out

shows-entries : (m : ℕ) (c : Content) (sc out : List ℕ) (k : ℕ) → (shown m c sc out).answer ≡ Ok k → Wrote c out (shown m c sc out).out k
unfolding shown
shows-entries m c sc out k h = go (ltb (length out) (length c.words)) h
  where
    go : (b : Bool) → (cond {A = Shows} b (shows (Err too_small) sc out) (shows (Ok c.entries) (zeroed m sc) (written c.words out))).answer ≡ Ok k
        → Wrote c out (cond {A = Shows} b (shows (Err too_small) sc out) (shows (Ok c.entries) (zeroed m sc) (written c.words out))).out k
    go true q = let z : ◌≡◌ {A = ℕ} 0 1 = cc in absurd (omega arith)
    go false q = record { many = cc; words = refl }

first-words : (c : Content) (out after : List ℕ) (k w : ℕ) → Wrote c out after k → length c.words ≡ w * c.entries → take (w * k) after ≡ c.words
first-words c out after k w t e =
    ap (take (w * k)) t.words ∙ take_at c.words (drop (length c.words) out) (w * k) (e ∙ ap (λ (x : ℕ). w * x) (sym t.many))

-- a read that is not turned away, lent the front of the memory, sees the orders
module _ (top : ℕ) (b : BookReconstructor) (mem : Memory) (n : Extent) (short : Bool) where
  same-orders : Readable top b (front n mem) short → orders_of (front n mem) b.rows ≡ orders_of mem b.rows
  same-orders r =
      let f = (sound b (front n mem) r.trusted.sound).few in
      let l = memory-room b.rules (front n mem) r.trusted.room in
      sym (ap (λ (x : List ℕ). rows_of x b.rows) (sym (take-append-drop n.rows mem.rows))
      ∙ rows-front (take n.rows mem.rows) (drop n.rows mem.rows) b.rows (omega (arith, f, l)))

level-count : (a : Result ℕ OutputTooSmall) (k : ℕ) → level_shown a ≡ Ok k → a ≡ Ok k
level-count (Ok n) k h = cc
level-count (Err e) k h = let z : ◌≡◌ {A = ℕ} 0 1 = cc in absurd (omega arith)

level-says : (o : Option ViewError) (w : Shows) (sc out : List ℕ) (k : ℕ) → (level_read o w sc out).answer ≡ Ok k
    → (o ≡ None) × (w.answer ≡ Ok k) × ((level_read o w sc out).out ≡ w.out)
unfolding level_read
level-says (Some e) w sc out k h = let z : ◌≡◌ {A = ℕ} 0 1 = cc in absurd (omega arith)
level-says None w sc out k h = (refl, level-count w.answer k h, refl)

stale-count : (a : Result ℕ OutputTooSmall) (k : ℕ) → stale_shown a ≡ Ok (Some k) → a ≡ Ok k
stale-count (Ok n) k h = cc
stale-count (Err e) k h = let z : ◌≡◌ {A = ℕ} 0 1 = cc in absurd (omega arith)

stale-says : (o : Option StateError) (s : Status) (w : Shows) (sc out : List ℕ) (k : ℕ) → (stale_read o s w sc out).answer ≡ Ok (Some k)
    → (o ≡ None) × (w.answer ≡ Ok k) × ((stale_read o s w sc out).out ≡ w.out)
unfolding stale_read
stale-says (Some e) s w sc out k h = let z : ◌≡◌ {A = ℕ} 0 1 = cc in absurd (omega arith)
stale-says None statuses.Empty w sc out k h = let z : ◌≡◌ {A = ℕ} 0 1 = cc in absurd (omega arith)
stale-says None (statuses.Valid last) w sc out k h = let z : ◌≡◌ {A = ℕ} 0 1 = cc in absurd (omega arith)
stale-says None (statuses.Invalidated i) w sc out k h = (refl, stale-count w.answer k h, refl)

module _ (top : ℕ) (b : BookReconstructor) (mem : Memory) (n : Extent) (sc : List ℕ) (s : L3Side) (out : List ℕ) (k : ℕ) where
  abbrev os : List Resting
  os = orders_of (front n mem) b.rows

  abbrev short : Bool
  short = scratch_short b sc

  pub queue-said_of : (z : ℤ) → (level_queue top b (front n mem) sc s z out).answer ≡ Ok k
      → queue_said (take (queue_words * k) (level_queue top b (front n mem) sc s z out).out) ≡ queue s (nat_of z) (line_in mem b.rows)
  queue-said_of z h =
      let l = level-says (view_refusal_of top b (front n mem) short) (shown b.rules.max_orders (queue_content s (nat_of z) os) sc out) sc out k h in
      let w = shows-entries b.rules.max_orders (queue_content s (nat_of z) os) sc out k l.1 in
      let r = same-orders top b mem n short (valid-read top b (front n mem) short l.0).0 in
      ap (λ (x : List ℕ). queue_said (take (queue_words * k) x)) l.2
      ∙ ap queue_said (first-words (queue_content s (nat_of z) os) out _ k 5 w (width-entries Queue (rows_at s (nat_of z) os)))
      ∙ queue-said s (nat_of z) os
      ∙ ap (λ (x : List Resting). queue s (nat_of z) (line_of x)) r

  pub profile-said_of : (priority_profile top b (front n mem) sc s out).answer ≡ Ok k
      → profile_said (take (profile_words * k) (priority_profile top b (front n mem) sc s out).out) ≡ volumes_at s (orders_of mem b.rows) (prices s (line_in mem b.rows))
  profile-said_of h =
      let l = level-says (view_refusal_of top b (front n mem) short) (shown b.rules.max_orders (levels_content profile_words s os) sc out) sc out k h in
      let w = shows-entries b.rules.max_orders (levels_content profile_words s os) sc out k l.1 in
      let r = same-orders top b mem n short (valid-read top b (front n mem) short l.0).0 in
      ap (λ (x : List ℕ). profile_said (take (profile_words * k) x)) l.2
      ∙ ap profile_said (first-words (levels_content profile_words s os) out _ k 3 w (length-levels 3 (omega arith) s os (prices s (line_of os))))
      ∙ profile-said s os
      ∙ ap (λ (x : List Resting). volumes_at s x (prices s (line_of x))) r

  pub stale-said_of : (stale_l2 top b (front n mem) sc s out).answer ≡ Ok (Some k)
      → l2_said (take (l2_words * k) (stale_l2 top b (front n mem) sc s out).out) ≡ volumes_at s (orders_of mem b.rows) (prices s (line_in mem b.rows))
  stale-said_of h =
      let l = stale-says (read_refusal_of top b (front n mem) short) b.status (shown b.rules.max_orders (levels_content l2_words s os) sc out) sc out k h in
      let w = shows-entries b.rules.max_orders (levels_content l2_words s os) sc out k l.1 in
      let r = same-orders top b mem n short (readable top b (front n mem) short l.0) in
      ap (λ (x : List ℕ). l2_said (take (l2_words * k) x)) l.2
      ∙ ap l2_said (first-words (levels_content l2_words s os) out _ k 2 w (length-levels 2 (omega arith) s os (prices s (line_of os))))
      ∙ l2-said s os
      ∙ ap (λ (x : List Resting). volumes_at s x (prices s (line_of x))) r
