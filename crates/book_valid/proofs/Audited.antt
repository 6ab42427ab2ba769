-- An audit of a well-formed book finds nothing.
-- Assumes nothing.
use Rattle.std.specs.Prelude.{Ok}
use Prim.Native.Nat.{ℕ, ◌*◌}
use mathlib.Core.Path.{◌≡◌, refl}
use mathlib.Core.Bool.{false}
use mathlib.Core.List.{List, [], ◌∷◌}
use native.Mathlib.Omega.{arith}
use lib.ListN.{length}
use borrow.Author.Tests.{ne_eqb, le-ltb}
use Rattle.laws.proofs.Bools.{or_no, or_both}
use Rattle.book.specs.declared.Resting.{Resting}
use Rattle.book.specs.Rows.{Lent, most_rows, row_words, rows_of}
use Rattle.book.specs.Broken.{row_broken, some_row_broken, WellFormed}
use Rattle.book.proofs.Kept.{sound_row}
use Rattle.book_valid.specs.Audit.{some_empty, audit_rows, audit_of}

none_empty : (os : List Resting) → some_row_broken os ≡ false → some_empty os ≡ false
none_empty [] h = refl
none_empty (o ∷ os) h =
    let d = or_no (row_broken o) (some_row_broken os) h in
    let s = (sound_row o d.0).remaining.low in
    or_both _ _ (ne_eqb o.remaining 0 (λ z. omega (arith, s, z))) (none_empty os d.1)

pub rows_ok : (mo ml : ℕ) (os : List Resting) → WellFormed mo ml os → audit_rows os ≡ (Ok tt)
rows_ok mo ml os w = rw (none_empty os w.sound, w.single, w.apart)

pub audit_ok : (mo ml : ℕ) (ws : List ℕ) (n : ℕ) → Lent ws n → WellFormed mo ml (rows_of ws n) → audit_of ws n ≡ (Ok tt)
audit_ok mo ml ws n l w = rw (le-ltb most_rows n l.few, le-ltb (length ws) (row_words * n) l.room) (rows_ok mo ml (rows_of ws n) w)
