-- Reads of a book: when they are turned away, and those whose answer is a value. 01, Reads: "1, 2, 3, then 15 or 18".
use Rattle.std.specs.Prelude.{ℕ, ◌+◌, Bool, false, ◌||◌, cond, List, leb, ltb, length, Option, Some, None, Result, Ok, Err, ⊤}
use Rattle.message.specs.declared.L3Side.TheVariants.{Buy, Sell}
use Rattle.book.specs.declared.Resting.{Resting}
use Rattle.book.specs.Line.{Entry, best}
use Rattle.book.specs.Memory.{Memory, Extent, extent_of, orders_of, line_in}
use Rattle.book_valid.specs.Audit.{audit_rows}
use Rattle.reconstructor_state.specs.declared.VenueRules.{VenueRules}
use Rattle.reconstructor_state.specs.declared.Status.{Status}
use Rattle.reconstructor_state.specs.declared.Status.TheVariants as statuses
use Rattle.reconstructor_answers.specs.declared.StateError.{StateError}
use Rattle.reconstructor_answers.specs.declared.StateError.TheVariants.{LimitAboveCeiling, LentTooShort, MalformedBook}
use Rattle.reconstructor_state.specs.declared.BookReconstructor.{BookReconstructor}
use Rattle.reconstructor_state.specs.Checks.{check, first}
use Rattle.reconstructor_counts.specs.Counts.{largest}
use Rattle.reconstructor_segments.specs.declared.Segment.{Segment}
use Rattle.reconstructor_segments.specs.Segments.{segment_at}
use Rattle.reconstructor_state.specs.State.{last_of}
use Rattle.reconstructor_checks.specs.StateChecks.{over_ceiling, memory_short, broken}
use Rattle.reconstructor_view.specs.declared.ViewError.{ViewError}
use Rattle.reconstructor_view.specs.declared.ViewError.TheVariants as errors
use Rattle.reconstructor_answers.specs.declared.Invalidation.{Invalidation}
use Rattle.reconstructor_view.specs.declared.BestPrices.{BestPrices}
use Rattle.book_valid.specs.declared.AuditFinding.{AuditFinding}

-- ---- when a read is turned away

-- 1, 2, 3. 2: of the memory, and "scratch under max_orders": `short` says that of the scratch, and is false where none is lent. A read is not lent the segment
-- list. `three` says whether number 3 arises
unfoldable pub read_refusal : ℕ → VenueRules → Extent → Bool → Bool → Option StateError
read_refusal top v lent short three =
    check (over_ceiling top v) LimitAboveCeiling
    (check (memory_short v lent || short) LentTooShort (check three MalformedBook None))

-- "then 15 or 18": 18 carries the invalidation in force
abbrev pub standing : Status → Option ViewError
standing statuses.Empty = Some errors.NotBootstrapped
standing (statuses.Valid last) = None
standing (statuses.Invalidated i) = Some (errors.Invalidated i)

unfoldable pub view_refusal : ℕ → VenueRules → Extent → Bool → Bool → Status → Option ViewError
view_refusal top v lent short three s = first (read_refusal top v lent short three) errors.Unusable (standing s)

-- of a state with lent memory
abbrev pub read_refusal_of : ℕ → BookReconstructor → Memory → Bool → Option StateError
read_refusal_of top b mem short = read_refusal top b.rules (extent_of mem) short (broken b mem)

abbrev pub view_refusal_of : ℕ → BookReconstructor → Memory → Bool → Option ViewError
view_refusal_of top b mem short = view_refusal top b.rules (extent_of mem) short (broken b mem) b.status

-- ---- what a read answers

-- the last sequence applied
unfoldable pub sequence_of : Option ViewError → ℕ → Result ℕ ViewError
sequence_of None last = Ok last
sequence_of (Some e) last = Err e

-- the best buy and the best sell
unfoldable pub best_of : Option ViewError → List Entry → Result BestPrices ViewError
best_of None l = Ok (record { bid = best Buy l; ask = best Sell l })
best_of (Some e) l = Err e

-- what an audit of the rows finds
unfoldable pub audited_of : Option ViewError → List Resting → Result (Result ⊤ AuditFinding) ViewError
audited_of None os = Ok (audit_rows os)
audited_of (Some e) os = Err e

-- ---- the reads

abbrev pub last_sequence : ℕ → BookReconstructor → Memory → Result ℕ ViewError
last_sequence top b mem = sequence_of (view_refusal_of top b mem false) (last_of b.status)

abbrev pub best_read : ℕ → BookReconstructor → Memory → Result BestPrices ViewError
best_read top b mem = best_of (view_refusal_of top b mem false) (line_in mem b.rows)

abbrev pub audit_read : ℕ → BookReconstructor → Memory → Result (Result ⊤ AuditFinding) ViewError
audit_read top b mem = audited_of (view_refusal_of top b mem false) (orders_of mem b.rows)

-- ---- the state's own fields and the lent list, whatever the standing

-- the invalidation in force
abbrev pub invalidation_of : Status → Option Invalidation
invalidation_of statuses.Empty = None
invalidation_of (statuses.Valid last) = None
invalidation_of (statuses.Invalidated i) = Some i

-- the record at a place: one of the book's, and within the list. Of a list of so many records, with the record by value
unfoldable pub segment_read_to : BookReconstructor → ℕ → ℕ → Segment → Option Segment
segment_read_to b lent k g = cond (leb b.segments k) None (cond (leb lent k) None (Some g))

abbrev pub segment_read : BookReconstructor → List Segment → ℕ → Option Segment
segment_read b sg k = segment_read_to b (length sg) k (segment_at sg k)

-- how many records there are up to a place, in a machine number
abbrev pub records_to : ℕ → ℕ
records_to k = cond (ltb k largest) (k + 1) k
