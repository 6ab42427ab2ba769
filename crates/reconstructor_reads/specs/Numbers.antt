-- What the cases of a level read's answer stand for: 01's number, and the number of entries. The entries themselves are in the lent words.
use Rattle.std.specs.Prelude.{ℕ, [], ◌∷◌, Option, Some, None, Result, Ok, Err}
use Rattle.message.specs.Told.{Told, told, nothing}
use Rattle.reconstructor_answers.specs.Numbers.{state_error_number}
use Rattle.reconstructor_view.specs.Numbers.{view_error_told}
use Rattle.reconstructor_reads.specs.declared.LevelError.{LevelError}
use Rattle.reconstructor_reads.specs.declared.LevelError.TheVariants as levels
use Rattle.reconstructor_reads.specs.declared.StaleError.{StaleError}
use Rattle.reconstructor_reads.specs.declared.StaleError.TheVariants as stales

-- of a read of a valid book. 01, Reads: "The answer counts the entries"
abbrev pub level_told : Result ℕ LevelError → Told
level_told (Ok n) = told 0 (n ∷ [])
level_told (Err (levels.View e)) = view_error_told e
level_told (Err levels.OutputTooSmall) = told 7 []

-- "unless invalid it answers none"
abbrev pub stale_told : Result (Option ℕ) StaleError → Told
stale_told (Ok (Some n)) = told 0 (n ∷ [])
stale_told (Ok None) = told nothing []
stale_told (Err (stales.Unusable e)) = told (state_error_number e) []
stale_told (Err stales.OutputTooSmall) = told 7 []
