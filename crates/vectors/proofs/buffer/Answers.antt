use Prim.Native.Nat.{ℕ}
use mathlib.Core.Path.{sym}
use Rattle.std.proofs.lemmas.List.{length-replicate}
use Rattle.vectors.proofs.buffer.Goals as goal

pub returns : goal.returns
returns c = sym (length-replicate {0} {A = ℕ} 524288 0)
