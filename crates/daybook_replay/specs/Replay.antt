-- A day's replay: the pieces of a day file, in file order, on a fresh book.
use Rattle.std.specs.Prelude.{ℕ, ◌+◌, ◌*◌, Bool, ◌||◌, ◌&&◌, cond, List, [], ◌∷◌, eqb, leb, replicate, Option, Some, None}
use Rattle.message.specs.declared.ProductId.{ProductId}
use Rattle.message.specs.Told.{changed}
use Rattle.book.specs.Rows.{row_words}
use Rattle.book.specs.Memory.{memory}
use Rattle.reconstructor_state.specs.State.{limited_rules, new_book}
use Rattle.daybook_file.specs.DayFile.{pieces_of, product_of}
use Rattle.daybook_segments.specs.DaySegments.{no_segments}
use Rattle.daybook_pieces.specs.Played.{DayBook, played}
use Rattle.daybook_segments.specs.declared.Day.{Day}
use Rattle.daybook_segments.specs.declared.Stop.{Stop}

-- 02, paper 1: "with limits 512 and 512, at most 64 segments, and the first piece's product"
abbrev pub day_limit : ℕ
day_limit = 512

-- a fresh book has any words in its memory, since rules look at those of rows in use alone: here zeros
unfoldable pub fresh_rows : List ℕ
fresh_rows = replicate (row_words * day_limit) 0

abbrev pub fresh_day : ProductId → DayBook
fresh_day product =
    record {
      book = new_book product (limited_rules day_limit day_limit) 0;
      memory = memory fresh_rows;
      segments = no_segments;
    }

-- what is accepted goes on, 0 or, where the book changed, 256; "refusals 10 to 17 don't stop it"
abbrev pub is_continued : ℕ → Bool
is_continued n = (eqb n 0 || eqb n changed) || (leb 10 n && leb n 17)

abbrev pub ended_by : DayBook → Option Stop → Day
ended_by s stop = record { book = s.book; segments = s.segments; stop = stop }

-- "Snapshots and messages go in file order", the next piece being the kth, from 1; "piece (from 1) and number if another refusal stopped it"
unfoldable pub replayed : DayBook → ℕ → List (List ℕ) → Day
replayed s k [] = ended_by s None
replayed s k (p ∷ ps) =
    cond (is_continued (played s p).number) (replayed (played s p).after (k + 1) ps) (ended_by (played s p).after (Some (record { piece = k; number = (played s p).number })))

-- of a file that keeps the rules
unfoldable pub day_of : List ℕ → Day
day_of f = replayed (fresh_day (product_of (pieces_of f))) 1 (pieces_of f)
