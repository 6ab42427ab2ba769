-- What a reader tells in lent words: a value of so many words, or its refusal.
-- Assumes nothing.
use Prim.Native.Nat.{ℕ, suc, ◌≤◌, ◌<◌}
use mathlib.Core.Path.{◌≡◌, refl, ap}
use mathlib.Core.List.{List, [], ◌++◌}
use native.Mathlib.Omega.{arith}
use borrow.Author.Tests.{lt-ltb, le-ltb}
use lib.ListN.{length, drop}
use Rattle.message.specs.declared.L3Message.{L3Message}
use Rattle.message.specs.Told.{told}
use Rattle.piece.specs.declared.PieceError.{PieceError}
use Rattle.piece.specs.declared.PieceError.TheVariants.{NotAPiece, OutOfRange}
use Rattle.piece.specs.Piece.{piece_number}
use Rattle.piece.specs.Words.{message_list}
use Rattle.host_words.proofs.Puts.{length-event}
use Rattle.host_answers.specs.Answers.{answered, given, told_in}

pub given-none : (values out : List ℕ) (n : ℕ) → length values ≡ n → length out < n → given values out ≡ answered 7 out
given-none values out n e h = rw (lt-ltb (length out) (length values) (omega (arith, e, h)))

pub given_all : (values out : List ℕ) (n : ℕ) → length values ≡ n → n ≤ length out → given values out ≡ answered 0 (values ++ drop n out)
given_all values out n e h = rw (le-ltb (length out) (length values) (omega (arith, e, h))) (ap (λ (k : ℕ). answered 0 (values ++ drop k out)) e)

pub length-message : (m : L3Message) → length (message_list m) ≡ 21
length-message m = ap (λ (k : ℕ). suc (suc (suc (suc (suc k))))) (length-event m.event)

pub piece-refused : (e : PieceError) (out : List ℕ) → told_in (told (piece_number e) []) out ≡ answered (piece_number e) out
piece-refused NotAPiece out = refl
piece-refused OutOfRange out = refl
