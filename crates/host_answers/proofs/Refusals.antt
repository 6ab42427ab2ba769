-- A refusal's number is not 0, so that its words stay.
-- Assumes nothing.
use mathlib.Core.Path.{◌≡◌, refl}
use mathlib.Core.List.{List, []}
use Prim.Native.Nat.{ℕ}
use Rattle.message.specs.Told.{told}
use Rattle.reconstructor_answers.specs.declared.StateError.{StateError}
use Rattle.reconstructor_answers.specs.declared.StateError.TheVariants.{LimitAboveCeiling, LentTooShort, MalformedBook}
use Rattle.reconstructor_answers.specs.Numbers.{state_error_number}
use Rattle.reconstructor_view.specs.declared.ViewError.{ViewError}
use Rattle.reconstructor_view.specs.declared.ViewError.TheVariants as views
use Rattle.reconstructor_view.specs.Numbers.{view_error_told}
use Rattle.host_answers.specs.Answers.{answered, told_in, lastly}

pub state-refused : (e : StateError) (out : List ℕ) → told_in (told (state_error_number e) []) out ≡ answered (state_error_number e) out
state-refused LimitAboveCeiling out = refl
state-refused LentTooShort out = refl
state-refused MalformedBook out = refl

pub view-refused : (e : ViewError) (out : List ℕ) → told_in (view_error_told e) out ≡ answered (view_error_told e).number out
view-refused (views.Unusable e) out = state-refused e out
view-refused views.NotBootstrapped out = refl
view-refused (views.Invalidated i) out = refl

pub state-lastly : (e : StateError) → lastly (state_error_number e) ≡ state_error_number e
state-lastly LimitAboveCeiling = refl
state-lastly LentTooShort = refl
state-lastly MalformedBook = refl
