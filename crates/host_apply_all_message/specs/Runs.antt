-- What a message of a run requires and leaves for the next one.
use Rattle.std.specs.Prelude.{ℕ, ◌≤◌, ◌≡◌, false, List, length, Option}
use Rattle.book.specs.Memory.{memory, orders_of}
use Rattle.book_index.specs.declared.Bounds.{Bounds}
use Rattle.book_index.specs.Index.{Indexed}
use Rattle.reconstructor_state.specs.State.{ceiling}
use Rattle.reconstructor_checks.specs.StateChecks.{Usable}
use Rattle.host_records.specs.Records.{records_in}
use Rattle.host_words.specs.Block.{state_words, book_of}
use Rattle.host_word_tests.specs.WordTests.{no_book}

-- lent words that are enough, a state that passes 1, 2 and 3, and an index of its rows
pub record Runs (st ws sg places : List ℕ) (b : Option Bounds) : Type 0 where
  pub whole : state_words ≤ length st
  pub book : no_book st ≡ false
  pub usable : Usable ceiling (book_of st) (memory ws) (records_in sg)
  pub index : Indexed places b (orders_of (memory ws) (book_of st).rows)
