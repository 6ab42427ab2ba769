-- The two ways of a piece that is read.
use Prim.Native.Nat.{ℕ}
use mathlib.Core.Path.{◌≡◌, refl, ◌∙◌}
use mathlib.Core.List.{List}
use borrow.Author.Tests.{eq-eqb, ne_eqb}
use Rattle.piece.specs.Piece.{read_message}
use Rattle.host_pieces.specs.Pieces.{message_number, message_out}
use Rattle.recorded_pieces.specs.Pieces.{blank, read_number, read_words, if_read}

number_read : (bytes : List ℕ) → message_number blank (read_message bytes) ≡ read_number bytes
unfolding read_number
number_read bytes = refl

words-read : (bytes : List ℕ) → message_out blank (read_message bytes) ≡ read_words bytes
unfolding read_words
words-read bytes = refl

pub turned-away : {A : Type 0} (bytes : List ℕ) (f : List ℕ → A) (g : ℕ → A) (k : ℕ) → k ≡ message_number blank (read_message bytes) → (k ≡ 0 → ⊥) → g k ≡ if_read bytes f g
unfolding if_read
turned-away bytes f g k e n = rw (← (e ∙ number_read bytes), ne_eqb k 0 n)

pub goes_on : {A : Type 0} (bytes : List ℕ) (f : List ℕ → A) (g : ℕ → A) (k : ℕ) (m : List ℕ) (a : A) → k ≡ message_number blank (read_message bytes) → k ≡ 0 → m ≡ message_out blank (read_message bytes) → a ≡ f m → a ≡ if_read bytes f g
unfolding if_read
goes_on bytes f g k m a e z w h = rw (← (e ∙ number_read bytes), eq-eqb k 0 z, ← (w ∙ words-read bytes)) h
