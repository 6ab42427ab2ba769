-- A message of a run is a call of `pinuglaw_apply`, and the state and the index go on.
-- Assumes nothing.
use Rattle.std.specs.Prelude.{Option}
use Prim.Native.Nat.{ℕ, ◌≤◌}
use mathlib.Core.Path.{◌≡◌, sym, subst, ap, ◌∙◌}
use mathlib.Core.Bool.{true, false}
use mathlib.Core.List.{List}
use native.Mathlib.Omega.{arith}
use borrow.Author.Tests.{le-ltb}
use lib.Dec.{ltb}
use lib.ListN.{length}
use Rattle.book.specs.Rows.{most_rows}
use Rattle.book.specs.Memory.{memory, extent_of, orders_of}
use Rattle.book_index.specs.declared.Bounds.{Bounds}
use Rattle.book_index.specs.Index.{Indexed}
use Rattle.reconstructor_segments.specs.declared.Segment.{Segment}
use Rattle.reconstructor_segments.specs.Segments.{last_segment, relast}
use Rattle.reconstructor_state.specs.declared.BookReconstructor.{BookReconstructor}
use Rattle.reconstructor_state.specs.State.{ceiling}
use Rattle.reconstructor.specs.declared.Work.{Work}
use Rattle.reconstructor.specs.Applied.{Worked, worked, Parts, applied_to, applied, put_back}
use Rattle.reconstructor.specs.Inner.{trusted_to}
use Rattle.reconstructor_checks.specs.StateChecks.{Usable, Trusted}
use Rattle.host_records.specs.Records.{records_in, records_of, relaid}
use Rattle.host_records.proofs.Records.{length-records}
use Rattle.reconstructor_answers.specs.Numbers.{answer_number}
use Rattle.host_words.specs.Block.{state_words, book_of, message_of, restored, sets_status}
use Rattle.host_word_tests.specs.WordTests.{no_book}
use Rattle.host_message_tests.specs.MessageTests.{no_message}
use Rattle.host_calls.specs.Calls.{called, after_apply, apply_call}
use Rattle.reconstructor_checks.proofs.StateChecks.{trusted_under}
use Rattle.reconstructor.proofs.ByValue.{applied-trusted, applied-trusted_to}
use Rattle.reconstructor.proofs.Kept.{usable-kept}
use Rattle.host_boundary.proofs.Passed.{passes, wrong-number}
use Rattle.host_boundary.proofs.Written.{book-kept}
use Rattle.host_calls.proofs.Blocks.{less, applied-state}
use Rattle.host_apply_all_message.specs.Runs.{Runs}

-- what the loop carries, of the state as it was loaded
module _ (st ws sg ps : List ℕ) (bd : Option Bounds) (b : BookReconstructor) (e : b ≡ book_of st) where
  pub loaded : Runs st ws sg ps bd → Trusted most_rows b (memory ws) × Indexed ps bd (orders_of (memory ws) b.rows)
  loaded r = rw e (trusted_under ceiling (book_of st) (memory ws) (records_in sg) (omega arith) r.usable, r.index)

-- ---- a message

-- what its call was seen to give leaves the words of `apply_call`, and the loop goes on
module _ (st ws sg m : List ℕ) (w : Work) (ut vs tg : List ℕ) (g : Segment) (at : g ≡ last_segment (records_of sg) (book_of st).segments)
    (e : worked w (memory vs) ≡ trusted_to (book_of st) (memory ws) g (message_of m)) (eg : tg ≡ relaid sg (relast (records_of sg) (book_of st).segments w.segment))
    (eu : ut ≡ restored st (sets_status w.answer) w.book) (whole : state_words ≤ length st) (is : no_book st ≡ false) (u : Usable ceiling (book_of st) (memory ws) (records_in sg)) where
  abbrev after : Parts
  after = applied ceiling (book_of st) (memory ws) (records_of sg) (message_of m)

  usable-records : Usable ceiling (book_of st) (memory ws) (length (records_of sg))
  usable-records = rw (length-records sg) u

  -- the work with the record written back is what the rules leave
  done : put_back (records_of sg) (book_of st).segments (worked w (memory vs)) ≡ after
  done =
      ap (put_back (records_of sg) (book_of st).segments) (e ∙ ap (λ (x : Segment). trusted_to (book_of st) (memory ws) x (message_of m)) at)
      ∙ sym (applied-trusted (book_of st) (memory ws) (records_of sg) (message_of m) ceiling usable-records)

  pub applies : 21 ≤ length m → no_message m ≡ false → called (answer_number w.answer) ut vs tg ≡ apply_call st ws sg m
  unfolding apply_call
  applies full right =
      rw (passes st (extent_of (memory ws)) (less st sg) (ltb (length m) 21) (no_message m) (record { whole = whole; full = le-ltb (length m) 21 full; right = right; book = is }), eu, eg)
      (ap (after_apply st sg) done)

  -- by value, what the rules leave of a usable state
  work : worked w (memory vs) ≡ applied_to ceiling (book_of st) (memory ws) (records_in sg) g (message_of m)
  work = e ∙ sym (applied-trusted_to ceiling (book_of st) (memory ws) (records_in sg) g (message_of m) u)

  pub runs_on : (qs : List ℕ) (bd : Option Bounds) → length ut ≡ length st → length tg ≡ length sg → Indexed qs bd (orders_of (memory vs) w.book.rows) → Runs ut vs tg qs bd
  runs_on qs bd long same index =
      let now : book_of ut ≡ w.book =
      ap book_of eu ∙ subst (λ (p : Parts). book_of (after_apply st sg p).state ≡ p.book) (sym done) (applied-state st ws sg (message_of m) whole ceiling) in
      let usable : Usable ceiling w.book (memory vs) (records_in sg) =
      subst (λ (x : Worked). Usable ceiling x.book x.memory (records_in sg)) (sym work) (usable-kept ceiling (book_of st) (memory ws) (records_in sg) u g (message_of m)) in
      record { whole = omega arith; book = rw eu (book-kept st (sets_status w.answer) w.book whole is); usable = rw (now, same) usable; index = rw now index }

-- ---- a message whose words are those of none

pub no-apply : (st ws sg m : List ℕ) → state_words ≤ length st → 21 ≤ length m → no_message m ≡ true → called 4 st ws sg ≡ apply_call st ws sg m
unfolding apply_call
no-apply st ws sg m whole full none = rw (le-ltb (length m) 21 full, none, wrong-number st (extent_of (memory ws)) (less st sg) whole)
