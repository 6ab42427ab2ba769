-- An answer as these papers tell it. 01, Matching forms to places: "Where an answer is an enum, a definition gives this paper's number and values for each of its
-- cases. The promises use that definition."
use Rattle.std.specs.Prelude.{ℕ, List}

-- the number of 01's table, 0 where the call is not turned away, or one of those below; and the values that the case carries, as 64-bit words
pub record Told : Type 0 where
  pub number : ℕ
  pub values : List ℕ

abbrev pub told : ℕ → List ℕ → Told
told number values = record { number = number; values = values }

-- ---- numbers for what is no refusal, outside 01's table

-- a message was applied and changed the book; 0 where it was applied without effect
abbrev pub changed : ℕ
changed = 256

-- 01, Reads: "it answers none"
abbrev pub nothing : ℕ
nothing = 256

-- 01, bootstrap_with_buffer: "is dropped and counted"
abbrev pub dropped_number : ℕ
dropped_number = 512
