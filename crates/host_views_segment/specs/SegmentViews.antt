-- The exported reads of the state's own fields and of the lent list, whatever the standing: what each answers and writes. State and list stay as they are; a refusal, 7 included, writes nothing.
use Rattle.std.specs.Prelude.{ℕ, List}
use Rattle.host_words.specs.Block.{book_of}
use Rattle.reconstructor_view.specs.Numbers.{invalidation_told, segment_told}
use Rattle.reconstructor_view.specs.ValueReads.{invalidation_of, segment_read}
use Rattle.host_boundary.specs.Boundary.{own_boundary, unless_turned}
use Rattle.host_records.specs.Records.{records_of}
use Rattle.host_answers.specs.Answers.{Answered, answered, told_in}

unfoldable pub invalidation_call : List ℕ → List ℕ → Answered
invalidation_call st out =
    unless_turned (own_boundary st) (λ (k : ℕ). answered k out) (told_in (invalidation_told (invalidation_of (book_of st).status)) out)

unfoldable pub segment_call : List ℕ → List ℕ → ℕ → List ℕ → Answered
segment_call st sg place out =
    unless_turned (own_boundary st) (λ (k : ℕ). answered k out) (told_in (segment_told (segment_read (book_of st) (records_of sg) place)) out)
