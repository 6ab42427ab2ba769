-- The search by place finds a row exactly where the line has an order of that id.
use Rattle.std.specs.Prelude.{◌≡◌, ℕ, ◌+◌, true, false, cond, List, [], ◌∷◌, Some, is_some, refl}
use mathlib.Core.Path.{ap, ◌∙◌}
use Rattle.message.specs.declared.OrderId.{OrderId}
use Rattle.message.specs.Same.{same_id}
use Rattle.book.specs.declared.Resting.{Resting}
use Rattle.book.specs.Line.{find, present, rests}
use Rattle.book.specs.Rows.{find_row, id_of, entry_of, line_of, rows_of}
use Rattle.reconstructor_snapshot.proofs.id_rests.Goals as goal

some-find_row : (os : List Resting) (d : OrderId) (i : ℕ) → is_some (find_row os d i) ≡ rests d (line_of os)
some-find_row [] d i = refl
some-find_row (o ∷ os) d i =
    elim (same_id (id_of o) d) as (λ b. is_some (cond b (Some i) (find_row os d (i + 1))) ≡ present (cond b (Some (entry_of o)) (find d (line_of os)))) [
      | true ↦ refl
      | false ↦ some-find_row os d (i + 1)
    ]

pub returns : goal.returns
returns c =
    let a = c.args in
    c.is_some.ensures ∙ ap is_some c.find.ensures ∙ some-find_row (rows_of a.rows.words.now a.rows.count) (id_of a.order) 0
