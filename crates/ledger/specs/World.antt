-- One book as its host holds it: the state by value, and the memory that each call is lent the front of. 01, The ledger: "A fresh book has no snapshot and
-- any words in its memory".
use Rattle.std.specs.Prelude.{ℕ, ◌≤◌, List, [], ◌∷◌, ◌++◌, take, drop}
use Rattle.message.specs.declared.L3Side.{L3Side}
use Rattle.message.specs.declared.OrderId.{OrderId}
use Rattle.book.specs.Line.{Entry, volume, queue}
use Rattle.book.specs.Memory.{Memory, Extent, front, behind, Within, line_in}
use Rattle.reconstructor_segments.specs.declared.Segment.{Segment}
use Rattle.reconstructor_state.specs.declared.BookReconstructor.{BookReconstructor}
use Rattle.reconstructor_state.specs.State.{Lengths, new_book}
use Rattle.reconstructor.specs.Applied.{applied}
use Rattle.reconstructor_bootstrap.specs.Bootstrap.{bootstrapped}
use Rattle.reconstructor_handshake.specs.Step.{stepped}
use Rattle.ledger.specs.Ledger.{Config, Call, bootstrap, apply, step, read}

-- the state, the memory and the segment records
pub record World : Type 0 where
  pub book : BookReconstructor
  pub memory : Memory
  pub segments : List Segment

-- a call is lent the front of each
abbrev pub lent_memory : Lengths → World → Memory
lent_memory n w = front n.memory w.memory

abbrev pub lent_segments : Lengths → World → List Segment
lent_segments n w = take n.segments w.segments

-- the next one sees what the last left
abbrev pub back : Lengths → World → BookReconstructor → Memory → List Segment → World
back n w b mem sg = record { book = b; memory = behind n.memory w.memory mem; segments = sg ++ drop n.segments w.segments }

unfoldable pub perform : ℕ → World → Call → World
perform top w (bootstrap n bytes) =
    back n w (bootstrapped top w.book (lent_memory n w) (lent_segments n w) bytes).book
    (bootstrapped top w.book (lent_memory n w) (lent_segments n w) bytes).memory
    (bootstrapped top w.book (lent_memory n w) (lent_segments n w) bytes).segments
perform top w (apply n m) =
    back n w (applied top w.book (lent_memory n w) (lent_segments n w) m).book (applied top w.book (lent_memory n w) (lent_segments n w) m).memory
    (applied top w.book (lent_memory n w) (lent_segments n w) m).segments
perform top w (step n h m) =
    back n w (stepped top h w.book (lent_memory n w) (lent_segments n w) m).book (stepped top h w.book (lent_memory n w) (lent_segments n w) m).memory
    (stepped top h w.book (lent_memory n w) (lent_segments n w) m).segments
-- a read is lent the memory and what it writes to, and changes none of these
perform top w (read q) = w

abbrev pub run : ℕ → World → List Call → World
run top w [] = w
run top w (k ∷ ks) = run top (perform top w k) ks

-- any words and records in its memory
abbrev pub fresh_world : Config → Memory → List Segment → World
fresh_world c mem sg = record { book = new_book c.product c.rules c.number; memory = mem; segments = sg }

-- a call is lent no more of the memory, and no more records, than there are
abbrev pub Fits : Extent → ℕ → Lengths → Type 0
Fits most s n = Within n.memory most × (n.segments ≤ s)

abbrev pub Lendable : Extent → ℕ → List Call → Type 0
Lendable most s [] = Unit {0}
Lendable most s (bootstrap n bytes ∷ ks) = Fits most s n × Lendable most s ks
Lendable most s (apply n m ∷ ks) = Fits most s n × Lendable most s ks
Lendable most s (step n h m ∷ ks) = Fits most s n × Lendable most s ks
Lendable most s (read q ∷ ks) = Lendable most s ks

-- "At each side and price, volume is the sum of the remaining of the rows there, queue order their ids and remaining in order of arrival"
abbrev pub line_at : World → List Entry
line_at w = line_in w.memory w.book.rows

abbrev pub volume_at : L3Side → ℕ → World → ℕ
volume_at s p w = volume s p (line_at w)

abbrev pub queue_at : L3Side → ℕ → World → List (OrderId × ℕ)
queue_at s p w = queue s p (line_at w)
