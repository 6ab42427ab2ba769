-- The parts of what an answer makes of a handshake (`after`). Nothing here is for a reader to believe.
use Rattle.std.specs.Prelude.{ℕ, Bool, true, false, Result, Ok, Err}
use Rattle.reconstructor_answers.specs.declared.Applied.{Applied}
use Rattle.reconstructor_answers.specs.declared.ApplyError.{ApplyError}
use Rattle.reconstructor_answers.specs.declared.ApplyError.TheVariants as refusals
use Rattle.reconstructor_counts.specs.Counts.{saturated}

-- whether an answer ends the handshake
abbrev pub ends : Result Applied ApplyError → Bool
ends (Ok a) = false
ends (Err (refusals.Unusable e)) = false
ends (Err refusals.AmountOutOfRange) = false
ends (Err refusals.WrongProduct) = false
ends (Err refusals.NotBootstrapped) = false
ends (Err (refusals.Invalidated i)) = true
ends (Err (refusals.AwaitingSnapshot i)) = true

-- the number applied, once an answer is in
abbrev pub applied_by : ℕ → Result Applied ApplyError → ℕ
applied_by n (Ok a) = saturated n
applied_by n (Err e) = n
