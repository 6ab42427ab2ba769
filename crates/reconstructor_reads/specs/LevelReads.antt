-- The level reads: what each answers, writes and leaves, for every input. 01, Reads and Rows and pieces.
use Rattle.std.specs.Prelude.{ℕ, Bool, cond, List, ltb, ℤ, length, Option, Some, None, Result, Ok, Err}
use Rattle.message.specs.declared.L3Side.{L3Side}
use Rattle.message.specs.Amounts.{nat_of}
use Rattle.book.specs.declared.Resting.{Resting}
use Rattle.book.specs.Rows.{line_of}
use Rattle.book.specs.Memory.{Memory, orders_of}
use Rattle.book_scratch.specs.Scratch.{zeroed}
use Rattle.book_levels.specs.Levels.{prices, levels_words, written}
use Rattle.book_queue.specs.declared.EntryForm.TheVariants.{Queue}
use Rattle.book_queue.specs.Queue.{rows_at, entry_width, entries_words}
use Rattle.reconstructor_state.specs.declared.Status.{Status}
use Rattle.reconstructor_state.specs.declared.Status.TheVariants as statuses
use Rattle.reconstructor_answers.specs.declared.StateError.{StateError}
use Rattle.reconstructor_state.specs.declared.BookReconstructor.{BookReconstructor}
use Rattle.reconstructor_view.specs.declared.ViewError.{ViewError}
use Rattle.reconstructor_view.specs.ValueReads.{read_refusal_of, view_refusal_of}
use Rattle.reconstructor_reads.specs.declared.OutputTooSmall.{OutputTooSmall}
use Rattle.reconstructor_reads.specs.declared.LevelError.{LevelError}
use Rattle.reconstructor_reads.specs.declared.LevelError.TheVariants as levels
use Rattle.reconstructor_reads.specs.declared.StaleError.{StaleError}
use Rattle.reconstructor_reads.specs.declared.StaleError.TheVariants as stales

-- ---- what is shown

-- 01, Reads, "words an entry": "`level_queue` id high, id low, remaining, 1 if observed else 0, entered_at if observed else 0; `priority_profile` price, total,
-- unknown; `stale_l2` price, total", and `l2` likewise
abbrev pub queue_words : ℕ
queue_words = entry_width Queue

abbrev pub profile_words : ℕ
profile_words = 3

abbrev pub l2_words : ℕ
l2_words = 2

-- the entries of a read, and the words written of them
pub record Content : Type 0 where
  pub entries : ℕ
  pub words : List ℕ

-- the orders at a side and price, in order of arrival
abbrev pub queue_content : L3Side → ℕ → List Resting → Content
queue_content s p os = record { entries = length (rows_at s p os); words = entries_words Queue (rows_at s p os) }

-- the levels of a side, best first, so many words each
abbrev pub levels_content : ℕ → L3Side → List Resting → Content
levels_content width s os =
    record { entries = length (prices s (line_of os)); words = levels_words width s os (prices s (line_of os)) }

-- ---- what is left in the lent words

-- 7
abbrev pub too_small : OutputTooSmall
too_small = record {}

-- the answer, the scratch and the output afterwards
pub record Shows : Type 0 where
  pub answer : Result ℕ OutputTooSmall
  pub scratch : List ℕ
  pub out : List ℕ

abbrev pub shows : Result ℕ OutputTooSmall → List ℕ → List ℕ → Shows
shows a sc out = record { answer = a; scratch = sc; out = out }

-- 7: "output too small". "The answer counts the entries; words past them are untouched"; scratch has "its first max_orders words zeroed on success"
unfoldable pub shown : ℕ → Content → List ℕ → List ℕ → Shows
shown max_orders c sc out =
    cond (ltb (length out) (length c.words)) (shows (Err too_small) sc out)
    (shows (Ok c.entries) (zeroed max_orders sc) (written c.words out))

-- ---- the reads of a valid book

pub record LevelRead : Type 0 where
  pub answer : Result ℕ LevelError
  pub scratch : List ℕ
  pub out : List ℕ

abbrev pub leaves : Result ℕ LevelError → List ℕ → List ℕ → LevelRead
leaves a sc out = record { answer = a; scratch = sc; out = out }

-- how many entries there are, or 7
abbrev pub level_shown : Result ℕ OutputTooSmall → Result ℕ LevelError
level_shown (Ok k) = Ok k
level_shown (Err e) = Err levels.OutputTooSmall

-- "a refusal changes no state and no buffer"
unfoldable pub level_read : Option ViewError → Shows → List ℕ → List ℕ → LevelRead
level_read (Some e) w sc out = leaves (Err (levels.View e)) sc out
level_read None w sc out = leaves (level_shown w.answer) w.scratch w.out

-- 2: "scratch under max_orders"
abbrev pub scratch_short : BookReconstructor → List ℕ → Bool
scratch_short b sc = ltb (length sc) b.rules.max_orders

-- a read of some content of the orders
abbrev pub read_of : ℕ → BookReconstructor → Memory → List ℕ → Content → List ℕ → LevelRead
read_of top b mem sc c out =
    level_read (view_refusal_of top b mem (scratch_short b sc)) (shown b.rules.max_orders c sc out) sc out

-- "An absent price gives an empty list": a price that is not above zero is 0 here, which no row has
abbrev pub level_queue : ℕ → BookReconstructor → Memory → List ℕ → L3Side → ℤ → List ℕ → LevelRead
level_queue top b mem sc s z out = read_of top b mem sc (queue_content s (nat_of z) (orders_of mem b.rows)) out

abbrev pub priority_profile : ℕ → BookReconstructor → Memory → List ℕ → L3Side → List ℕ → LevelRead
priority_profile top b mem sc s out = read_of top b mem sc (levels_content profile_words s (orders_of mem b.rows)) out

abbrev pub l2 : ℕ → BookReconstructor → Memory → List ℕ → L3Side → List ℕ → LevelRead
l2 top b mem sc s out = read_of top b mem sc (levels_content l2_words s (orders_of mem b.rows)) out

-- ---- the read of an invalid book

pub record StaleRead : Type 0 where
  pub answer : Result (Option ℕ) StaleError
  pub scratch : List ℕ
  pub out : List ℕ

abbrev pub leaves_stale : Result (Option ℕ) StaleError → List ℕ → List ℕ → StaleRead
leaves_stale a sc out = record { answer = a; scratch = sc; out = out }

-- how many levels there are, or 7
abbrev pub stale_shown : Result ℕ OutputTooSmall → Result (Option ℕ) StaleError
stale_shown (Ok k) = Ok (Some k)
stale_shown (Err e) = Err stales.OutputTooSmall

-- "`stale_l2` is a level read with 1, 2, 3 and last 7; unless invalid it answers none and writes nothing, scratch included"
abbrev pub stale_standing : Status → Shows → List ℕ → List ℕ → StaleRead
stale_standing statuses.Empty w sc out = leaves_stale (Ok None) sc out
stale_standing (statuses.Valid last) w sc out = leaves_stale (Ok None) sc out
stale_standing (statuses.Invalidated i) w sc out = leaves_stale (stale_shown w.answer) w.scratch w.out

unfoldable pub stale_read : Option StateError → Status → Shows → List ℕ → List ℕ → StaleRead
stale_read (Some e) s w sc out = leaves_stale (Err (stales.Unusable e)) sc out
stale_read None s w sc out = stale_standing s w sc out

abbrev pub stale_l2 : ℕ → BookReconstructor → Memory → List ℕ → L3Side → List ℕ → StaleRead
stale_l2 top b mem sc s out =
    stale_read (read_refusal_of top b mem (scratch_short b sc)) b.status
    (shown b.rules.max_orders (levels_content l2_words s (orders_of mem b.rows)) sc out)
    sc
    out
