-- The numbers of 01's table that `bootstrap`'s errors stand for. None carries a value of its own.
use Rattle.std.specs.Prelude.{ℕ, [], Result, Ok, Err, ⊤}
use Rattle.message.specs.Told.{Told, told}
use Rattle.reconstructor_answers.specs.Numbers.{state_error_number}
use Rattle.reconstructor_bootstrap.specs.declared.SnapshotError.{SnapshotError}
use Rattle.reconstructor_bootstrap.specs.declared.SnapshotError.TheVariants.{WrongProduct, DuplicateId, InvalidValue, Crossed, CapacityExceeded}
use Rattle.reconstructor_bootstrap.specs.declared.BootstrapError.{BootstrapError}
use Rattle.reconstructor_bootstrap.specs.declared.BootstrapError.TheVariants.{Unusable, NotAPiece, AmountOutOfRange, ListFull, Rejected}

-- 10 to 14
abbrev pub snapshot_error_number : SnapshotError → ℕ
snapshot_error_number WrongProduct = 10
snapshot_error_number DuplicateId = 11
snapshot_error_number InvalidValue = 12
snapshot_error_number Crossed = 13
snapshot_error_number CapacityExceeded = 14

-- 1 to 6, 10 to 14
abbrev pub bootstrap_error_number : BootstrapError → ℕ
bootstrap_error_number (Unusable e) = state_error_number e
bootstrap_error_number NotAPiece = 4
bootstrap_error_number AmountOutOfRange = 5
bootstrap_error_number ListFull = 6
bootstrap_error_number (Rejected e) = snapshot_error_number e

-- the answer of `bootstrap`
abbrev pub snapshot_told : Result ⊤ BootstrapError → Told
snapshot_told (Ok t) = told 0 []
snapshot_told (Err e) = told (bootstrap_error_number e) []

abbrev pub snapshot_number : Result ⊤ BootstrapError → ℕ
snapshot_number a = (snapshot_told a).number
