-- A run, message by message: each is a call of `pinuglaw_apply`, and its number goes to its own word.
-- Assumes nothing.
use Rattle.std.specs.Prelude.{Option}
use Prim.Native.Nat.{ℕ, suc, ◌+◌, ◌*◌, ◌-◌, ◌≤◌, ◌<◌}
use mathlib.Core.Path.{◌≡◌, refl, sym, ap, ◌∙◌}
use mathlib.Core.Bool.{true, false}
use mathlib.Core.List.{List, ◌++◌, append_assoc}
use native.Mathlib.Nat.{add-zero, zero-add}
use native.Mathlib.Numerals.{add-one}
use native.Mathlib.Omega.{arith}
use lib.ListN.{length, set, take, drop, length-drop, length-set, take-append-drop}
use lib.Seq.{take_all, take-suc-set, drop-set-lt, drop-drop}
use Rattle.book.specs.Memory.{memory, orders_of}
use Rattle.book_index.specs.declared.Bounds.{Bounds}
use Rattle.book_index.specs.Index.{row_marked, row_bounded, all}
use Rattle.reconstructor_state.specs.declared.BookReconstructor.{BookReconstructor}
use Rattle.reconstructor_state.specs.State.{ceiling}
use Rattle.reconstructor_checks.specs.StateChecks.{Usable}
use Rattle.host_records.specs.Records.{records_in}
use Rattle.host_words.specs.Block.{state_words, book_of}
use Rattle.host_word_tests.specs.WordTests.{no_book}
use Rattle.host_calls.specs.Calls.{BookCall, called, apply_call}
use Rattle.reconstructor_checks.proofs.StateChecks.{sound}
use Rattle.host_apply_all_message.specs.Runs.{Runs}
use Rattle.host_apply_all_run.specs.Run.{Run, then, run, ApplyAllCall, apply_all_called, count_of, after_run}

-- what the loop starts with, of the state as it was loaded
module _ (st ws sg ps : List ℕ) (bd : Option Bounds) (b : BookReconstructor) (e : b ≡ book_of st) where
  pub runs-start : state_words ≤ length st → no_book st ≡ false → Usable ceiling (book_of st) (memory ws) (records_in sg) → length ps ≤ 65536 → all (row_marked ps) (orders_of (memory ws) b.rows) ≡ true
      → all (row_bounded bd) (orders_of (memory ws) b.rows) ≡ true → Runs st ws sg ps bd
  runs-start whole is u few marks within =
      record {
        whole = whole;
        book = is;
        usable = u;
        index = record { few = few; marks = rw e at marks; within = rw e at within; single = (sound (book_of st) (memory ws) u.sound).formed.single };
      }

-- ---- the loop

-- what is left of the run once i answers are written: the rest of it on the words as they are now
abbrev pub left : ℕ → List ℕ → Run → ApplyAllCall
left i out r =
    apply_all_called 0 r.state r.rows r.segments (take i out ++ (r.numbers ++ drop (i + length r.numbers) out))

pub left-first : (out : List ℕ) (r : Run) → after_run out r ≡ left 0 out r
left-first out r = rw (zero-add (length r.numbers))

left-then : (i : ℕ) (out : List ℕ) (k : ℕ) (r : Run) → i < length out → left i out (then k r) ≡ left (i + 1) (set out i k) r
left-then i out k r h =
    let n = length r.numbers in
    let e : i + suc n ≡ suc i + n = omega arith in
    ap (λ (x : List ℕ). apply_all_called 0 r.state r.rows r.segments x)
    (rw (add-one i, take-suc-set out i k h, drop-set-lt (suc i + n) out i k (omega arith), e, append_assoc))

module _ (st ws sg ms out : List ℕ) (count i k : ℕ) (ut vs tg : List ℕ) where
  pub left-next : i < count → i < length out → called k ut vs tg ≡ apply_call st ws sg (drop (21 * i) ms)
      → left i out (run (count - i) st ws sg (drop (21 * i) ms)) ≡ left (i + 1) (set out i k) (run (count - (i + 1)) ut vs tg (drop (21 * (i + 1)) ms))
  unfolding run
  left-next h q e =
      let c : count - i ≡ suc (count - (i + 1)) = omega arith in
      let d : drop 21 (drop (21 * i) ms) ≡ drop (21 * (i + 1)) ms =
      drop-drop 21 (21 * i) ms ∙ ap (λ (x : ℕ). drop x ms) (let z : 21 * i + 21 ≡ 21 * (i + 1) = omega arith in z) in
      rw (c, ← d)
      (ap (λ (x : BookCall). left i out (then x.number (run (count - (i + 1)) x.state x.rows x.segments (drop 21 (drop (21 * i) ms))))) (sym e)
      ∙ left-then i out k (run (count - (i + 1)) ut vs tg (drop 21 (drop (21 * i) ms))) q)

  pub left-last : count ≤ i → left i out (run (count - i) st ws sg (drop (21 * i) ms)) ≡ apply_all_called 0 st ws sg out
  unfolding run
  left-last h =
      let c : count - i ≡ 0 = omega arith in
      rw c (ap (λ (x : List ℕ). apply_all_called 0 st ws sg x) (rw add-zero (take-append-drop i out)))

-- a message's words are the words from there on
pub message-at : (ms : List ℕ) (i : ℕ) → take (length ms - 21 * i) (drop (21 * i) ms) ≡ drop (21 * i) ms
message-at ms i = take_all (length ms - 21 * i) (drop (21 * i) ms) (omega (arith, length-drop (21 * i) ms))

-- what holds after i messages
pub record Looped (st₀ ws₀ sg₀ ms out₀ ps₀ st ws sg out ps : List ℕ) (b : Option Bounds) (i : ℕ) : Type 0 where
  pub few : i ≤ count_of ms
  pub runs : Runs st ws sg ps b
  pub state : length st ≡ length st₀
  pub rows : length ws ≡ length ws₀
  pub segments : length sg ≡ length sg₀
  pub answers : length out ≡ length out₀
  pub places : length ps ≡ length ps₀
  pub rest : after_run out₀ (run (count_of ms) st₀ ws₀ sg₀ ms) ≡ left i out (run (count_of ms - i) st ws sg (drop (21 * i) ms))

pub loop-start : (st ws sg ms out ps : List ℕ) (b : Option Bounds) → Runs st ws sg ps b → Looped st ws sg ms out ps st ws sg out ps b 0
loop-start st ws sg ms out ps b r =
    let z : count_of ms - 0 ≡ count_of ms = omega arith in
    let d : drop (21 * 0) ms ≡ ms = refl in
    record {
      few = omega arith;
      runs = r;
      state = refl;
      rows = refl;
      segments = refl;
      answers = refl;
      places = refl;
      rest = rw (z, d) (left-first out (run (count_of ms) st ws sg ms));
    }

module _ (st₀ ws₀ sg₀ ms out₀ ps₀ st ws sg out ps : List ℕ) (b : Option Bounds) (i : ℕ) (l : Looped st₀ ws₀ sg₀ ms out₀ ps₀ st ws sg out ps b i) where
  pub loop-next : (k : ℕ) (ut vs tg qs : List ℕ) (b' : Option Bounds) → called k ut vs tg ≡ apply_call st ws sg (take (length ms - 21 * i) (drop (21 * i) ms))
      → Runs ut vs tg qs b' → length ut ≡ length st → length vs ≡ length ws → length tg ≡ length sg → length qs ≡ length ps → i < count_of ms
      → count_of ms ≤ length out₀ → Looped st₀ ws₀ sg₀ ms out₀ ps₀ ut vs tg (set out i k) qs b' (i + 1)
  loop-next k ut vs tg qs b' e r ht hs hg hp h q =
      record {
        few = omega arith;
        runs = r;
        state = ht ∙ l.state;
        rows = hs ∙ l.rows;
        segments = hg ∙ l.segments;
        answers = length-set out i k ∙ l.answers;
        places = hp ∙ l.places;
        rest = l.rest ∙ left-next st ws sg ms out (count_of ms) i k ut vs tg h (omega (arith, l.answers)) (rw (message-at ms i) at e);
      }
