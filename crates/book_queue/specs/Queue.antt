-- The orders at a side and price, and the words that reads write of them.
use Rattle.std.specs.Prelude.{ℕ, cond, List, [], ◌∷◌, ◌++◌, ltb}
use Rattle.message.specs.declared.L3Side.{L3Side}
use Rattle.book.specs.declared.Resting.{Resting}
use Rattle.book.specs.Line.{same_level}
use Rattle.book.specs.Rows.{side_of}
use Rattle.book_queue.specs.declared.EntryForm.{EntryForm}
use Rattle.book_queue.specs.declared.EntryForm.TheVariants.{Queue, Ahead}

-- the rows at a side and price. 01, The ledger: "in order of arrival"
abbrev pub rows_at : L3Side → ℕ → List Resting → List Resting
rows_at s p [] = []
rows_at s p (o ∷ os) = cond (same_level (side_of o.kind) o.price s p) (o ∷ rows_at s p os) (rows_at s p os)

-- the words of an entry
abbrev pub entry_width : EntryForm → ℕ
entry_width Queue = 5
entry_width Ahead = 3

-- 01, Reads: "`level_queue` id high, id low, remaining, 1 if observed else 0, entered_at if observed else 0"; the ahead-list has "three words an
-- order (id, entered_at)". Kinds 0 and 1 are of a snapshot, not observed
abbrev pub entry_words : EntryForm → Resting → List ℕ
entry_words Queue o =
    o.high ∷ o.low ∷ o.remaining ∷ cond (ltb o.kind 2) 0 1 ∷ cond (ltb o.kind 2) 0 o.entered_at ∷ []
entry_words Ahead o = o.high ∷ o.low ∷ o.entered_at ∷ []

abbrev pub entries_words : EntryForm → List Resting → List ℕ
entries_words f [] = []
entries_words f (o ∷ os) = entry_words f o ++ entries_words f os
