-- The exported estimates: what each answers and writes. Rows, state and what is lent to be read stay as they are; a refusal, 7 included, writes nothing.
use Rattle.std.specs.Prelude.{ℕ, List, cond, false, ltb, length}
use Rattle.std.specs.Int.{w64}
use Rattle.std.proofs.Common.{to_z}
use Rattle.piece.specs.Piece.{side_of}
use Rattle.reconstructor_state.specs.State.{ceiling}
use Rattle.book.specs.Memory.{memory, extent_of}
use Rattle.host_words.specs.Block.{book_of}
use Rattle.queue.specs.Numbers.{estimate_told, ahead_told}
use Rattle.queue.specs.Estimates.{EstimateParts, queue_estimate, queue_estimate_own, volume_ahead}
use Rattle.host_word_tests.specs.WordTests.{no_bit, no_estimate}
use Rattle.host_boundary.specs.Boundary.{boundary, unless_turned}
use Rattle.host_answers.specs.Answers.{Answered, answered, told_in, lastly}
use Rattle.host_estimate_words.specs.Estimates.{estimate_words, estimate_of}

pub record EstimateCall : Type 0 where
  pub number : ℕ
  pub ahead : List ℕ
  pub estimate : List ℕ

abbrev pub estimate_called : ℕ → List ℕ → List ℕ → EstimateCall
estimate_called k l e = record { number = k; ahead = l; estimate = e }

-- what is left of the ahead-list, where there are words for the estimate; else it is as lent
abbrev pub after_estimate : List ℕ → List ℕ → EstimateParts → EstimateCall
after_estimate l e p =
    cond (ltb (length e) estimate_words) (estimate_called (lastly (estimate_told p.answer).number) l e)
    (estimate_called (told_in (estimate_told p.answer) e).number p.ahead (told_in (estimate_told p.answer) e).out)

unfoldable pub estimate_call : List ℕ → List ℕ → ℕ → ℕ → List ℕ → List ℕ → EstimateCall
estimate_call st ws side price l e =
    unless_turned (boundary st (extent_of (memory ws)) false false (no_bit side)) (λ (k : ℕ). estimate_called k l e)
    (after_estimate l e (queue_estimate ceiling (book_of st) (memory ws) (side_of side) (to_z w64 price) l))

unfoldable pub own_call : List ℕ → List ℕ → ℕ → ℕ → List ℕ → Answered
own_call st ws high low e =
    unless_turned (boundary st (extent_of (memory ws)) false false false) (λ (k : ℕ). answered k e)
    (told_in (estimate_told (queue_estimate_own ceiling (book_of st) (memory ws) (record { high = high; low = low }))) e)

unfoldable pub ahead_call : List ℕ → List ℕ → List ℕ → List ℕ → List ℕ → Answered
ahead_call st ws e l out =
    unless_turned (boundary st (extent_of (memory ws)) false (ltb (length e) estimate_words) (no_estimate e)) (λ (k : ℕ). answered k out)
    (told_in (ahead_told (volume_ahead ceiling (book_of st) (memory ws) (estimate_of e) l)) out)
