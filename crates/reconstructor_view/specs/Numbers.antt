-- What the cases of each answer stand for: 01's number, and the values.
use Rattle.std.specs.Prelude.{ℕ, List, [], ◌∷◌, Option, Some, None, Result, Ok, Err, ⊤}
use Rattle.message.specs.Told.{Told, told, nothing}
use Rattle.book_valid.specs.declared.AuditFinding.TheVariants.{NotLent, SizeNotPositive, IdTwice, Crossed}
use Rattle.reconstructor_answers.specs.Numbers.{state_error_number, invalidation_values}
use Rattle.reconstructor_segments.specs.declared.Segment.{Segment}
use Rattle.reconstructor_segments.specs.Segments.{elapsed, accepted_messages}
use Rattle.reconstructor_view.specs.declared.ViewError.{ViewError}
use Rattle.reconstructor_view.specs.declared.ViewError.TheVariants.{Unusable, NotBootstrapped, Invalidated}
use Rattle.reconstructor_answers.specs.declared.Invalidation.{Invalidation}
use Rattle.reconstructor_view.specs.declared.BestPrices.{BestPrices}
use Rattle.book_valid.specs.declared.AuditFinding.{AuditFinding}

-- why a read is turned away; 18 carries the invalidation in force
abbrev pub view_error_told : ViewError → Told
view_error_told (Unusable e) = told (state_error_number e) []
view_error_told NotBootstrapped = told 15 []
view_error_told (Invalidated i) = told 18 (invalidation_values i)

abbrev pub view_error_number : ViewError → ℕ
view_error_number e = (view_error_told e).number

-- last_sequence: the sequence
abbrev pub sequence_told : Result ℕ ViewError → Told
sequence_told (Ok last) = told 0 (last ∷ [])
sequence_told (Err e) = view_error_told e

-- best: of the buys, then of the sells, 1 and the price, or 0 and 0 where there is none
abbrev pub present : Option ℕ → ℕ
present (Some p) = 1
present None = 0

abbrev pub price_of : Option ℕ → ℕ
price_of (Some p) = p
price_of None = 0

abbrev pub best_told : Result BestPrices ViewError → Told
best_told (Ok p) = told 0 (present p.bid ∷ price_of p.bid ∷ present p.ask ∷ price_of p.ask ∷ [])
best_told (Err e) = view_error_told e

-- audit: 3 for a finding, which number 3 has said before
abbrev pub finding_number : Result ⊤ AuditFinding → ℕ
finding_number (Ok tt) = 0
finding_number (Err NotLent) = 3
finding_number (Err SizeNotPositive) = 3
finding_number (Err IdTwice) = 3
finding_number (Err Crossed) = 3

abbrev pub audited_told : Result (Result ⊤ AuditFinding) ViewError → Told
audited_told (Ok a) = told (finding_number a) []
audited_told (Err e) = view_error_told e

-- the invalidation in force
abbrev pub invalidation_told : Option Invalidation → Told
invalidation_told (Some i) = told 0 (invalidation_values i)
invalidation_told None = told nothing []

-- a segment's record: its eight numbers, its elapsed time, and how many messages it accepted
abbrev pub segment_values : Segment → List ℕ
segment_values g =
    g.start_seq ∷
    g.last_good_seq ∷
    g.end ∷ g.end_good ∷ g.end_seq ∷ g.end_detail ∷ g.first_us ∷ g.last_us ∷ elapsed g ∷ accepted_messages g ∷ []

abbrev pub segment_told : Option Segment → Told
segment_told (Some g) = told 0 (segment_values g)
segment_told None = told nothing []
