-- What a book that may be read has: each check that the refusal passed, peeled off one after the other, is a fact of the state and its memory.
-- Assumes nothing.
use Rattle.std.specs.Prelude.{Option, Some, None, Result, Ok, Err}
use Prim.Native.Nat.{ℕ}
use mathlib.Core.Path.{◌≡◌, refl}
use mathlib.Core.Bool.{Bool, false}
use native.Mathlib.Omega.{arith}
use Rattle.laws.proofs.Bools.{or_no}
use Rattle.book.specs.Memory.{Memory, extent_of, orders_of}
use Rattle.book_valid.specs.Audit.{audit_rows}
use Rattle.book_valid.proofs.Audited.{rows_ok}
use Rattle.reconstructor_state.specs.declared.BookReconstructor.{BookReconstructor}
use Rattle.reconstructor_state.specs.State.{last_of}
use Rattle.reconstructor_state.proofs.Checks.{passed, first-passed}
use Rattle.reconstructor_checks.specs.StateChecks.{memory_short, Trusted}
use Rattle.reconstructor_checks.proofs.StateChecks.{sound}
use Rattle.reconstructor_view.specs.declared.ViewError.{ViewError}
use Rattle.reconstructor_view.specs.ValueReads.{read_refusal, view_refusal, standing, read_refusal_of, view_refusal_of, sequence_of}

-- ---- what an answer tells

answer-refused : (o : Option ViewError) (last : ℕ) (r : Result ℕ ViewError) (e : ViewError) → r ≡ sequence_of o last → r ≡ Err e → o ≡ Some e
unfolding sequence_of
answer-refused None last r e p q = let z : ◌≡◌ {A = ℕ} 0 1 = cc in absurd (omega arith)
answer-refused (Some d) last r e p q = cc

answer-valid : (o : Option ViewError) (last : ℕ) (r : Result ℕ ViewError) (l : ℕ) → r ≡ sequence_of o last → r ≡ Ok l → (o ≡ None) × (l ≡ last)
unfolding sequence_of
answer-valid None last r l p q = (refl, cc)
answer-valid (Some d) last r l p q = let z : ◌≡◌ {A = ℕ} 0 1 = cc in absurd (omega arith)

-- ---- what a read has once 1, 2 and 3 are passed

pub record Readable (top : ℕ) (b : BookReconstructor) (mem : Memory) (short : Bool) : Type 0 where
  pub trusted : Trusted top b mem
  pub room : short ≡ false

module _ (top : ℕ) (b : BookReconstructor) (mem : Memory) (short : Bool) where
  pub readable : read_refusal_of top b mem short ≡ None → Readable top b mem short
  unfolding read_refusal
  readable h =
      let h₁ = passed _ _ _ h in
      let h₂ = passed _ _ _ h₁.1 in
      let h₃ = passed _ _ _ h₂.1 in
      let two = or_no (memory_short b.rules (extent_of mem)) short h₂.0 in
      record { trusted = record { within = h₁.0; room = two.0; sound = h₃.0 }; room = two.1 }

  pub valid-read : view_refusal_of top b mem short ≡ None → Readable top b mem short × (standing b.status ≡ None)
  unfolding view_refusal
  valid-read h = let p = first-passed _ _ _ h in (readable p.0, p.1)

  -- the same from the answer of `valid_book`
  module _ (r : Result ℕ ViewError) (told : r ≡ sequence_of (view_refusal_of top b mem short) (last_of b.status)) where
    pub refused-for : (e : ViewError) → r ≡ Err e → view_refusal_of top b mem short ≡ Some e
    refused-for e q = answer-refused _ _ r e told q

    pub found-valid : (last : ℕ) → r ≡ Ok last → (view_refusal_of top b mem short ≡ None) × (last ≡ last_of b.status) × Readable top b mem short
    found-valid last q = let v = answer-valid _ _ r last told q in (v.0, v.1, (valid-read v.0).0)

  -- an audit finds nothing
  pub audit_ok : Readable top b mem short → audit_rows (orders_of mem b.rows) ≡ (Ok tt)
  audit_ok r = rows_ok _ _ (orders_of mem b.rows) (sound b mem r.trusted.sound).formed
