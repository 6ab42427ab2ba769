-- A refusal is a chain of checks, in the order in which 01 names them.
use Rattle.std.specs.Prelude.{Bool, true, false, Option, Some, None}

-- what a check says if it fails, and else what the next checks say
unfoldable pub check : {A : Type 0} → Bool → A → Option A → Option A
check true d k = Some d
check false d k = k

-- what an inner chain says, as a case of the outer answer, and else what the next checks say
unfoldable pub first : {A B : Type 0} → Option A → (A → B) → Option B → Option B
first (Some a) f k = Some (f a)
first None f k = k
