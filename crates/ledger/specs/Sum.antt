-- Demand 3, the sum rule: one claim about any list of calls on one book from a fresh one. Words in quotation marks are the demand's, or 01's where it is named.
use Rattle.std.specs.Prelude.{ℕ, ◌+◌, ◌*◌, ◌≤◌, ◌<◌, ◌≡◌, List, [], ◌∷◌, ◌++◌, map, Bool, false, ◌||◌, cond, ltb, ℤ, length, take, Some, Ok}
use Rattle.message.specs.declared.L3Side.{L3Side}
use Rattle.message.specs.declared.OrderId.{OrderId}
use Rattle.message.specs.Amounts.{nat_of}
use Rattle.message.specs.declared.L3Snapshot.{L3Snapshot}
use Rattle.piece.specs.Piece.{read_snapshot}
use Rattle.book.specs.Line.{volume, queue}
use Rattle.book.specs.Rows.{most_rows}
use Rattle.book.specs.Memory.{Memory, Extent, extent_of, front}
use Rattle.book_levels.specs.Levels.{prices}
use Rattle.reconstructor_answers.specs.declared.StateError.TheVariants.{MalformedBook}
use Rattle.reconstructor_counts.specs.declared.Counter.{Counter}
use Rattle.reconstructor_segments.specs.declared.Segment.{Segment}
use Rattle.reconstructor_state.specs.declared.BookReconstructor.{BookReconstructor}
use Rattle.reconstructor_segments.specs.Segments.{last_segment}
use Rattle.reconstructor_state.specs.declared.VenueRules.{VenueRules}
use Rattle.reconstructor_state.specs.State.{Lengths, last_of}
use Rattle.reconstructor_checks.specs.StateChecks.{over_ceiling, memory_short, book_refusal}
use Rattle.reconstructor_bootstrap.specs.Snapshot.{snapshot_line}
use Rattle.reconstructor_view.specs.Numbers.{sequence_told, best_told, audited_told}
use Rattle.reconstructor_view.specs.ValueReads.{last_sequence, best_read, audit_read}
use Rattle.reconstructor_reads.specs.Numbers.{level_told}
use Rattle.reconstructor_reads.specs.LevelReads.{queue_words, profile_words, l2_words, level_queue, priority_profile, l2, stale_l2}
use Rattle.reconstructor_reads.specs.Said.{queue_said, profile_said, l2_said}
use Rattle.queue.specs.declared.QueueEstimate.{QueueEstimate}
use Rattle.queue.specs.Numbers.{estimate_told, ahead_told}
use Rattle.queue.specs.Estimates.{queue_estimate, queue_estimate_own, volume_ahead}
use Rattle.reconstructor_state.specs.declared.Status.{Status}
use Rattle.reconstructor_state.specs.declared.Status.TheVariants as statuses
use Rattle.ledger.specs.Ledger.{Config, Call, Figure, Ledger, blank, fresh, feed_all}
use Rattle.ledger.specs.World.{World, lent_memory, lent_segments, run, Fits, Lendable, fresh_world, line_at, volume_at, queue_at}
use Rattle.ledger.specs.Kept.{kept}
use Rattle.ledger.specs.Counts.{times_in, up_to, counts_by}

-- 01, The ledger: "standing (no snapshot, valid or invalid)"
pub data Standing : Type 0 where
  no_snapshot : Standing
  valid : Standing
  invalid : Standing

abbrev pub standing_of : Status → Standing
standing_of statuses.Empty = no_snapshot
standing_of (statuses.Valid last) = valid
standing_of (statuses.Invalidated i) = invalid

-- of a book, and of the ledger
abbrev pub standing_at : World → Standing
standing_at w = standing_of w.book.status

abbrev pub ledger_standing : Ledger → Standing
ledger_standing l = standing_of l.view.status

-- the book's standing, last sequence, number of snapshots and start are the ledger's; so is the reason of an invalid one
pub record Stand (w : World) (l : Ledger) : Type 0 where
  pub standing : standing_at w ≡ ledger_standing l
  pub last : last_of w.book.status ≡ last_of l.view.status
  pub status : w.book.status ≡ l.view.status
  pub snapshots : w.book.segments ≡ l.view.segments
  -- the record of the segment that the book is in, once there is one
  pub start : 0 < l.view.segments → (last_segment w.segments l.view.segments).start_seq ≡ l.view.start_seq

-- what rests at each side and price is the same
pub record Alike (w x : World) : Type 0 where
  pub volumes : (s : L3Side) (p : ℕ) → volume_at s p w ≡ volume_at s p x
  pub queues : (s : L3Side) (p : ℕ) → queue_at s p w ≡ queue_at s p x

-- the prices of a side, best first, with a figure at each
abbrev pub figures_of : L3Side → List ℕ → Figure → List (ℕ × ℕ)
figures_of s ps f = map (λ (p : ℕ). (p, f s p)) ps

-- ---- the reads

-- 1 and 2 do not arise: limits within the ceiling, and so much memory and scratch
pub record Enough (top : ℕ) (v : VenueRules) (lent : Extent) (scratch : ℕ) : Type 0 where
  pub within : over_ceiling top v ≡ false
  pub memory : memory_short v lent ≡ false
  pub room : v.max_orders ≤ scratch

-- the number of a read of an invalid book: 1, 2, then 18; `short` says that too little scratch is lent
abbrev pub invalid_number : ℕ → VenueRules → Extent → Bool → ℕ
invalid_number top v lent short = cond (over_ceiling top v) 1 (cond (memory_short v lent || short) 2 18)

-- "every read is turned away save the stale one": each of 01's reads of the book by exactly that number, whatever it is asked and lent beside these rows. (The invalidation in
-- force and a segment's record are fields of the state and of the list, and answer in any standing.)
pub record TurnedAway (top : ℕ) (v : VenueRules) (b : BookReconstructor) (mem : Memory) : Type 0 where
  pub last-sequence : (sequence_told (last_sequence top b mem)).number ≡ invalid_number top v (extent_of mem) false
  pub best : (best_told (best_read top b mem)).number ≡ invalid_number top v (extent_of mem) false
  pub audit : (audited_told (audit_read top b mem)).number ≡ invalid_number top v (extent_of mem) false
  pub level-queue : (sc : List ℕ) (s : L3Side) (z : ℤ) (out : List ℕ)
      → (level_told (level_queue top b mem sc s z out).answer).number ≡ invalid_number top v (extent_of mem) (ltb (length sc) v.max_orders)
  pub priority-profile : (sc : List ℕ) (s : L3Side) (out : List ℕ)
      → (level_told (priority_profile top b mem sc s out).answer).number ≡ invalid_number top v (extent_of mem) (ltb (length sc) v.max_orders)
  pub level-volumes : (sc : List ℕ) (s : L3Side) (out : List ℕ)
      → (level_told (l2 top b mem sc s out).answer).number ≡ invalid_number top v (extent_of mem) (ltb (length sc) v.max_orders)
  pub queue-estimate : (s : L3Side) (z : ℤ) (ahead : List ℕ) → (estimate_told (queue_estimate top b mem s z ahead).answer).number ≡ invalid_number top v (extent_of mem) false
  pub queue-estimate_own : (d : OrderId) → (estimate_told (queue_estimate_own top b mem d)).number ≡ invalid_number top v (extent_of mem) false
  pub volume-ahead : (q : QueueEstimate) (ahead : List ℕ) → (ahead_told (volume_ahead top b mem q ahead)).number ≡ invalid_number top v (extent_of mem) false

-- what is read of a book, lent the front of its memory and any scratch and output
pub record Readings (top : ℕ) (v : VenueRules) (w : World) (l : Ledger) : Type 0 where
  -- "the queue and profile reads .. give exactly these where asked"
  pub queue-read : (n : Extent) (sc : List ℕ) (s : L3Side) (z : ℤ) (out : List ℕ) (k : ℕ)
      → (level_queue top w.book (front n w.memory) sc s z out).answer ≡ Ok k
      → queue_said (take (queue_words * k) (level_queue top w.book (front n w.memory) sc s z out).out) ≡ queue s (nat_of z) l.view.line
  pub profile-read : (n : Extent) (sc : List ℕ) (s : L3Side) (out : List ℕ) (k : ℕ)
      → (priority_profile top w.book (front n w.memory) sc s out).answer ≡ Ok k
      → profile_said (take (profile_words * k) (priority_profile top w.book (front n w.memory) sc s out).out) ≡ figures_of s (prices s l.view.line) l.figure
  -- "unless 01's table turns them away": where it names nothing they answer, with the number of orders and of levels
  pub queue-answers : ledger_standing l ≡ valid → (n : Extent) (sc : List ℕ) → Enough top v (extent_of (front n w.memory)) (length sc) → (s : L3Side) (z : ℤ) (out : List ℕ)
      → queue_words * length (queue s (nat_of z) l.view.line) ≤ length out
      → (level_queue top w.book (front n w.memory) sc s z out).answer ≡ Ok (length (queue s (nat_of z) l.view.line))
  pub profile-answers : ledger_standing l ≡ valid → (n : Extent) (sc : List ℕ) → Enough top v (extent_of (front n w.memory)) (length sc) → (s : L3Side) (out : List ℕ)
      → profile_words * length (prices s l.view.line) ≤ length out
      → (priority_profile top w.book (front n w.memory) sc s out).answer ≡ Ok (length (prices s l.view.line))
  -- and so does the last sequence, with the ledger's
  pub last-answers : ledger_standing l ≡ valid → (n : Extent) → Enough top v (extent_of (front n w.memory)) v.max_orders
      → last_sequence top w.book (front n w.memory) ≡ Ok (last_of l.view.status)
  -- "From the message that invalidated the book to the next accepted snapshot": the ledger is invalid
  pub turned-away : ledger_standing l ≡ invalid → (n : Extent) → TurnedAway top v w.book (front n w.memory)
  -- the stale one: what it shows are the ledger's figures, which 20 to 44 leave as they stood
  pub stale-read : (n : Extent) (sc : List ℕ) (s : L3Side) (out : List ℕ) (k : ℕ)
      → (stale_l2 top w.book (front n w.memory) sc s out).answer ≡ Ok (Some k)
      → l2_said (take (l2_words * k) (stale_l2 top w.book (front n w.memory) sc s out).out) ≡ figures_of s (prices s l.view.line) l.figure
  pub stale-answers : ledger_standing l ≡ invalid → (n : Extent) (sc : List ℕ) → Enough top v (extent_of (front n w.memory)) (length sc) → (s : L3Side) (out : List ℕ)
      → l2_words * length (prices s l.view.line) ≤ length out
      → (stale_l2 top w.book (front n w.memory) sc s out).answer ≡ Ok (Some (length (prices s l.view.line)))

-- the stale one "gives exactly the volumes that stood before that message"
abbrev pub StaleReading : ℕ → World → World → Type 0
StaleReading top w x =
    (n : Extent) (sc : List ℕ) (s : L3Side) (out : List ℕ) (k : ℕ) → (stale_l2 top w.book (front n w.memory) sc s out).answer ≡ Ok (Some k)
    → l2_said (take (l2_words * k) (stale_l2 top w.book (front n w.memory) sc s out).out) ≡ figures_of s (prices s (line_at x)) (λ (t : L3Side) (p : ℕ). volume_at t p x)

-- an invalid book's calls: those before the invalidating one, that one, and those since, of which none counted; what rests is what stood before that message
pub record WhenInvalid (top : ℕ) (c : Config) (start : World) (ks : List Call) : Type 0 where
  pub before : List Call
  pub bad : Call
  pub after : List Call
  pub parts : ks ≡ before ++ (bad ∷ after)
  pub stood : standing_at (run top start before) ≡ valid
  pub fell : standing_at (run top start (before ++ (bad ∷ []))) ≡ invalid
  -- no snapshot is accepted since: the first n calls after it, however many, leave the book invalid
  pub since : (n : ℕ) → standing_at (run top start (before ++ (bad ∷ take n after))) ≡ invalid
  pub nothing : kept top c ks ≡ kept top c before
  pub stale : Alike (run top start ks) (run top start before)
  pub stale-read : StaleReading top (run top start ks) (run top start before)

-- "a fresh book with the same product and rules": its number is any
abbrev pub numbered : Config → ℕ → Config
numbered c k = record { product = c.product; rules = c.rules; number = k }

-- the calls `ks` under the ceiling `top` on a fresh book of the product, rules and number `c`, with any memory `mem` and records `sg`
pub record SumRule (top : ℕ) (c : Config) (mem : Memory) (sg : List Segment) (ks : List Call) : Type 0 where
  -- "the volume resting at each side and price equals the figure in 01's ledger, worked out from the calls alone"
  pub volumes : (s : L3Side) (p : ℕ) → volume_at s p (run top (fresh_world c mem sg) ks) ≡ (feed_all top c fresh ks).figure s p
  -- "The queue order there equals the ledger's."
  pub queues : (s : L3Side) (p : ℕ) → queue_at s p (run top (fresh_world c mem sg) ks) ≡ queue s p (feed_all top c fresh ks).view.line
  -- the rest of what the ledger holds
  pub stands : Stand (run top (fresh_world c mem sg) ks) (feed_all top c fresh ks)
  -- each of the twelve counts is the number of calls so far that 01 counts there, up to 2^64−1
  pub counts : (run top (fresh_world c mem sg) ks).book.counts ≡ counts_by (λ (i : Counter). up_to (times_in top c blank ks i))
  -- 01, Values in the domain: "A level sum never exceeds 4.096 × 10^18"
  pub bound : (s : L3Side) (p : ℕ) → (feed_all top c fresh ks).figure s p ≤ 4096000000000000000
  -- and none on the way in a snapshot that reads and has no more than 4,096 orders, accepted or refused later: those of its first n orders
  pub on_the_way : (bytes : List ℕ) (x : L3Snapshot) → read_snapshot bytes ≡ Ok x → x.bids + x.asks ≤ most_rows → (n : ℕ) (s : L3Side) (p : ℕ)
      → volume s p (take n (snapshot_line x bytes)) ≤ 4096000000000000000
  -- "Both equal those of a fresh book with the same product and rules fed that snapshot and the messages accepted since", any words and records in its memory,
  -- lent as much at each call
  pub afresh : (k : ℕ) (mem' : Memory) (sg' : List Segment) → Lendable (extent_of mem') (length sg') (kept top c ks)
      → Alike (run top (fresh_world c mem sg) ks) (run top (fresh_world (numbered c k) mem' sg') (kept top c ks))
  -- "the volumes that stood before that message" are those that rest, and that the stale read gives
  pub when-invalid : ledger_standing (feed_all top c fresh ks) ≡ invalid → WhenInvalid top c (fresh_world c mem sg) ks
  -- 01, The ledger: "3 never arises here", whatever the next call is lent
  pub never-three : (n : Lengths) → Fits (extent_of mem) (length sg) n
      → book_refusal top (run top (fresh_world c mem sg) ks).book (lent_memory n (run top (fresh_world c mem sg) ks)) (length (lent_segments n (run top (fresh_world c mem sg) ks))) ≡ Some MalformedBook → ⊥
  -- the reads of that book
  pub reads : Readings top c.rules (run top (fresh_world c mem sg) ks) (feed_all top c fresh ks)

-- the one claim: "any list of calls on one book .. from a fresh one", of any product, rules and number, with anything in its memory, each call lent no more than there is,
-- under any ceiling of the limits up to 4,096: ours is `ceiling`, and no fact of the rule names it
abbrev pub Demand3 : Type 0
Demand3 = (top : ℕ) → top ≤ most_rows → (c : Config) (mem : Memory) (sg : List Segment) (ks : List Call) → Lendable (extent_of mem) (length sg) ks → SumRule top c mem sg ks
