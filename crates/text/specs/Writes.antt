-- What a function that writes text promises.
use Rattle.std.specs.Prelude.{ℕ, ◌+◌, ◌≡◌, List, length}
use Rattle.std.proofs.lemmas.List.Edits.{sets}

-- the bytes stand in the text from a place on, all else in it is as it was, and `end` is the place behind them
pub record Writes (before : List ℕ) (at : ℕ) (bytes : List ℕ) (after : List ℕ) (end : ℕ) : Type 0 where
  pub text : after ≡ sets before at bytes
  pub ends : end ≡ at + length bytes
