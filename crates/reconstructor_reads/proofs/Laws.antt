-- What the words of a level read say of the line: its queue order and its volumes, and that every sum fits a word.
-- Assumes nothing.
use Prim.Native.Nat.{ℕ, ◌≤◌, ◌<◌, ◌^◌}
use mathlib.Core.Path.{◌≡◌, refl, ap, ◌∙◌}
use mathlib.Core.List.{List, [], ◌∷◌}
use native.Mathlib.Omega.{arith}
use Rattle.message.specs.declared.L3Side.{L3Side}
use Rattle.message.specs.declared.OrderId.{OrderId}
use Rattle.book.specs.declared.Resting.{Resting}
use Rattle.book.specs.Line.{volume, queue}
use Rattle.book.specs.Rows.{most_rows, line_of}
use Rattle.book.specs.Memory.{Memory, orders_of, line_in}
use Rattle.book.proofs.Kept.{level-bound}
use Rattle.book_levels.specs.Levels.{prices, levels_words}
use Rattle.book_queue.specs.declared.EntryForm.TheVariants.{Queue}
use Rattle.book_queue.specs.Queue.{rows_at, entries_words}
use Rattle.book_queue.proofs.Orders.{shown_queue, queue-read}
use Rattle.reconstructor_state.specs.declared.BookReconstructor.{BookReconstructor}
use Rattle.reconstructor_checks.specs.StateChecks.{Trusted}
use Rattle.reconstructor_checks.proofs.StateChecks.{sound, orders-within}
use Rattle.reconstructor_reads.specs.LevelReads.{profile_words, l2_words, queue_content, levels_content}
use Rattle.reconstructor_reads.specs.Said.{queue_said, l2_said, profile_said, volumes_at}

-- ---- `level_queue`: the id and remaining of each entry of five words are the line's queue there

said-entries : (os : List Resting) → queue_said (entries_words Queue os) ≡ shown_queue os
said-entries [] = refl
said-entries (o ∷ os) = ap (λ (l : List (OrderId × ℕ)). (record { high = o.high; low = o.low }, o.remaining) ∷ l) (said-entries os)

pub queue-said : (s : L3Side) (p : ℕ) (os : List Resting) → queue_said (queue_content s p os).words ≡ queue s p (line_of os)
queue-said s p os = said-entries (rows_at s p os) ∙ queue-read s p os

-- ---- `l2`, `stale_l2` and `priority_profile`: the prices and totals are the line's prices of that side and its volumes there

said_l2 : (s : L3Side) (os : List Resting) (ps : List ℕ) → l2_said (levels_words l2_words s os ps) ≡ volumes_at s os ps
said_l2 s os [] = refl
said_l2 s os (p ∷ ps) = ap (λ (l : List (ℕ × ℕ)). (p, volume s p (line_of os)) ∷ l) (said_l2 s os ps)

said_profile : (s : L3Side) (os : List Resting) (ps : List ℕ) → profile_said (levels_words profile_words s os ps) ≡ volumes_at s os ps
said_profile s os [] = refl
said_profile s os (p ∷ ps) = ap (λ (l : List (ℕ × ℕ)). (p, volume s p (line_of os)) ∷ l) (said_profile s os ps)

pub l2-said : (s : L3Side) (os : List Resting) → l2_said (levels_content l2_words s os).words ≡ volumes_at s os (prices s (line_of os))
l2-said s os = said_l2 s os (prices s (line_of os))

pub profile-said : (s : L3Side) (os : List Resting) → profile_said (levels_content profile_words s os).words ≡ volumes_at s os (prices s (line_of os))
profile-said s os = said_profile s os (prices s (line_of os))

-- ---- every sum fits a word. 01, Values in the domain: "A level sum never exceeds 4.096 × 10^18 .. prove that bound"

pub total-fits : (top : ℕ) (b : BookReconstructor) (mem : Memory) → top ≤ most_rows → Trusted top b mem → (s : L3Side) (p : ℕ) → volume s p (line_in mem b.rows) < 2 ^ 63
total-fits top b mem h t s p =
    let m = orders-within top b.rules t.within in
    (level-bound b.rules.max_orders b.rules.max_levels (orders_of mem b.rows) s p (omega arith) (sound b mem t.sound).formed).1
