-- The exported reads of a valid book whose answer is a value: what each answers and writes. Rows, state and what is lent to be read stay as they are; a refusal, 7 included, writes nothing.
use Rattle.std.specs.Prelude.{ℕ, List, false}
use Rattle.reconstructor_state.specs.State.{ceiling}
use Rattle.book.specs.Memory.{memory, extent_of}
use Rattle.host_words.specs.Block.{book_of}
use Rattle.reconstructor_view.specs.Numbers.{sequence_told, best_told, audited_told}
use Rattle.reconstructor_view.specs.ValueReads.{last_sequence, best_read, audit_read}
use Rattle.host_boundary.specs.Boundary.{boundary, unless_turned}
use Rattle.host_answers.specs.Answers.{Answered, answered, told_in}

unfoldable pub last_call : List ℕ → List ℕ → List ℕ → Answered
last_call st ws out =
    unless_turned (boundary st (extent_of (memory ws)) false false false) (λ (k : ℕ). answered k out)
    (told_in (sequence_told (last_sequence ceiling (book_of st) (memory ws))) out)

unfoldable pub best_call : List ℕ → List ℕ → List ℕ → Answered
best_call st ws out =
    unless_turned (boundary st (extent_of (memory ws)) false false false) (λ (k : ℕ). answered k out) (told_in (best_told (best_read ceiling (book_of st) (memory ws))) out)

unfoldable pub audit_call : List ℕ → List ℕ → ℕ
audit_call st ws =
    unless_turned (boundary st (extent_of (memory ws)) false false false) (λ (k : ℕ). k) (audited_told (audit_read ceiling (book_of st) (memory ws))).number
