-- A message piece read and applied, or stepped: where the reader refuses it, the reader's number is the answer and nothing is touched.
use Rattle.std.specs.Prelude.{ℕ, List, cond, eqb, replicate}
use Rattle.piece.specs.Words.{message_words}
use Rattle.piece.specs.Piece.{read_message}
use Rattle.host_pieces.specs.Pieces.{message_number, message_out}
use Rattle.host_calls.specs.Calls.{BookCall, called, apply_call, StepCall, step_called, step_call}

abbrev pub blank : List ℕ
blank = replicate message_words 0

unfoldable pub read_number : List ℕ → ℕ
read_number bytes = message_number blank (read_message bytes)

unfoldable pub read_words : List ℕ → List ℕ
read_words bytes = message_out blank (read_message bytes)

-- what is done with the message's words, or with the reader's number
unfoldable pub if_read : {A : Type 0} → List ℕ → (List ℕ → A) → (ℕ → A) → A
if_read bytes on_words on_number = cond (eqb (read_number bytes) 0) (on_words (read_words bytes)) (on_number (read_number bytes))

abbrev pub piece_call : List ℕ → List ℕ → List ℕ → List ℕ → BookCall
piece_call st ws sg bytes = if_read bytes (apply_call st ws sg) (λ k. called k st ws sg)

abbrev pub piece_step : List ℕ → List ℕ → List ℕ → List ℕ → List ℕ → StepCall
piece_step st ws sg hs bytes = if_read bytes (step_call st ws sg hs) (λ k. step_called k st ws sg hs)
