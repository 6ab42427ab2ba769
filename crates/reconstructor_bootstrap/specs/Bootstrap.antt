-- What `bootstrap` answers and leaves: the state, the memory and the segment records, for every input.
use Rattle.std.specs.Prelude.{ℕ, ◌+◌, List, length, set, Option, Some, None, Result, Ok, Err, ⊤}
use Rattle.piece.specs.Piece.{read_snapshot}
use Rattle.book.specs.Line.{Entry}
use Rattle.book.specs.Memory.{Memory, snapshot, memory_by}
use Rattle.reconstructor_state.specs.declared.Status.{Status}
use Rattle.reconstructor_state.specs.declared.Status.TheVariants.{Empty, Valid, Invalidated}
use Rattle.reconstructor_state.specs.declared.BookReconstructor.{BookReconstructor}
use Rattle.reconstructor_counts.specs.declared.Counter.TheVariants.{RejectedSnapshots}
use Rattle.reconstructor_counts.specs.Counts.{counted}
use Rattle.reconstructor_segments.specs.declared.Segment.{Segment}
use Rattle.reconstructor_segments.specs.Segments.{no_segment, last_segment, relast, started, superseded}
use Rattle.reconstructor_state.specs.State.{with_counts, view_with, lengths_with}
use Rattle.reconstructor_checks.specs.StateChecks.{broken}
use Rattle.reconstructor_bootstrap.specs.declared.SnapshotError.{SnapshotError}
use Rattle.reconstructor_bootstrap.specs.declared.BootstrapError.{BootstrapError}
use Rattle.reconstructor_bootstrap.specs.declared.BootstrapError.TheVariants.{Unusable, NotAPiece, AmountOutOfRange, ListFull, Rejected}
use Rattle.reconstructor_bootstrap.specs.declared.Reply.{Reply}
use Rattle.reconstructor_bootstrap.specs.declared.Work.{Work}
use Rattle.reconstructor_bootstrap.specs.Snapshot.{snapshot_line, piece_error, boot_refusal}
use Rattle.message.specs.declared.L3Snapshot.{L3Snapshot}
use Rattle.piece.specs.declared.PieceError.{PieceError}

-- ---- what a call leaves

-- of the state, the memory and the last segment's record, with the record that it starts and that one's place: past the end of the list where it starts none
pub record Booted : Type 0 where
  pub answer : Result ⊤ BootstrapError
  pub book : BookReconstructor
  pub memory : Memory
  pub segment : Segment
  pub at : ℕ
  pub started : Segment

abbrev pub booted : Work → Memory → Booted
booted w mem = record { answer = w.answer; book = w.book; memory = mem; segment = w.segment; at = w.at; started = w.started }

-- and of the segment list
pub record Parts : Type 0 where
  pub answer : Result ⊤ BootstrapError
  pub book : BookReconstructor
  pub memory : Memory
  pub segments : List Segment

abbrev pub leaves : Reply → Memory → List Segment → Parts
leaves r mem sg = record { answer = r.answer; book = r.book; memory = mem; segments = sg }

-- the record put back as the last of a list's first n (as it was, it leaves the list as it was), and then the started one at its place
abbrev pub put_back : List Segment → ℕ → Booted → Parts
put_back sg n w =
    record {
      answer = w.answer;
      book = w.book;
      memory = w.memory;
      segments = set (relast sg n w.segment) w.at w.started;
    }

-- ---- refusals

-- 01, bootstrap: "Refusals 10 to 14 add one to rejected_snapshots (10 included) and leave all else; a valid book stays valid."
abbrev pub refused_book : Result ⊤ BootstrapError → BookReconstructor → BookReconstructor
refused_book (Ok t) b = b
refused_book (Err (Unusable e)) b = b
refused_book (Err NotAPiece) b = b
refused_book (Err AmountOutOfRange) b = b
refused_book (Err ListFull) b = b
refused_book (Err (Rejected e)) b = with_counts b (counted b.counts RejectedSnapshots)

-- of a call that is lent so many records
abbrev pub refused_work : Result ⊤ BootstrapError → BookReconstructor → ℕ → Segment → Work
refused_work a b lent g =
    record { book = refused_book a b; answer = a; segment = g; at = lent; started = no_segment }

-- ---- acceptance

-- the state: valid at the snapshot's sequence, with its n orders and one segment more
abbrev pub booted_book : BookReconstructor → ℕ → ℕ → BookReconstructor
booted_book b sequence n =
    record {
      product_id = b.product_id;
      rules = b.rules;
      number = b.number;
      status = Valid sequence;
      rows = n;
      segments = b.segments + 1;
      counts = b.counts;
    }

-- "Acceptance ends an open segment as superseded": the last one, which is open while the book is valid
unfoldable pub closed : Status → Segment → Segment
closed Empty g = g
closed (Valid last) g = superseded g
closed (Invalidated i) g = g

-- "adds a segment, and gives rows unknown priority with entered_at = the snapshot's sequence"
abbrev pub accepted : BookReconstructor → Memory → Segment → ℕ → List Entry → Booted
accepted b mem g sequence line =
    record {
      answer = Ok tt;
      book = booted_book b sequence (length line);
      memory = memory_by mem b.rows (snapshot sequence line);
      segment = closed b.status g;
      at = b.segments;
      started = started sequence;
    }

-- ---- the call

-- a refusal, or else what is taken
abbrev pub unless_refused : Option BootstrapError → BookReconstructor → Memory → ℕ → Segment → Booted → Booted
unless_refused (Some e) b mem lent g p = booted (refused_work (Err e) b lent g) mem
unless_refused None b mem lent g p = p

-- bytes that are no snapshot have met 4 or 5 before
abbrev pub taken : Result L3Snapshot PieceError → BookReconstructor → Memory → ℕ → Segment → List ℕ → Booted
taken (Err e) b mem lent g bytes = booted (refused_work (Err (piece_error e)) b lent g) mem
taken (Ok s) b mem lent g bytes = accepted b mem g s.sequence (snapshot_line s bytes)

-- the last record being g, of a list of so many; the ceiling of the limits is an argument
unfoldable pub bootstrapped_to : ℕ → BookReconstructor → Memory → ℕ → Segment → List ℕ → Booted
bootstrapped_to top b mem lent g bytes =
    unless_refused
    (boot_refusal top b.product_id b.rules (lengths_with mem lent) (broken b mem) (view_with b mem g) bytes) b mem lent g
    (taken (read_snapshot bytes) b mem lent g bytes)

-- on a lent list; before any snapshot there is no last record
unfoldable pub bootstrapped : ℕ → BookReconstructor → Memory → List Segment → List ℕ → Parts
bootstrapped top b mem sg bytes = put_back sg b.segments (bootstrapped_to top b mem (length sg) (last_segment sg b.segments) bytes)

-- ---- the answer of the validation

unfoldable pub validated : Option SnapshotError → Result ⊤ SnapshotError
validated None = Ok tt
validated (Some e) = Err e
