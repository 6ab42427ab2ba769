-- What an effect does to the orders, seen on the line that they stand for.
-- Assumes nothing.
use Prim.Native.Nat.{ℕ}
use mathlib.Core.Path.{◌≡◌, refl, ap, ◌∙◌}
use mathlib.Core.List.{List, [], ◌∷◌, ◌++◌}
use Rattle.message.specs.declared.L3Side.{L3Side}
use Rattle.message.specs.declared.L3Side.TheVariants.{Buy, Sell}
use Rattle.book.specs.declared.Resting.{Resting}
use Rattle.book.specs.Line.{Entry}
use Rattle.book.specs.Rows.{line_of, entry_of, side_of, observed_kind, observed_row}
use Rattle.book.specs.Memory.{Effect, keep, join, cut_to, snapshot, line_by, orders_by}
use Rattle.book.proofs.Kept.{line_append, line_cut, line-snapshot}

pub observed-side : (s : L3Side) → side_of (observed_kind s) ≡ s
unfolding side_of
observed-side Buy = refl
observed-side Sell = refl

-- the rules see of a joined row what the message said
observed-entry : (seq : ℕ) (e : Entry) → entry_of (observed_row seq e) ≡ e
observed-entry seq e = ap (λ (s : L3Side). record { id = e.id; side = s; price = e.price; remaining = e.remaining }) (observed-side e.side)

-- the orders after an effect stand for the line after it
pub line-by : (f : Effect) (os : List Resting) → line_of (orders_by f os) ≡ line_by f (line_of os)
line-by keep os = refl
line-by (join seq e) os = line_append os (observed_row seq e ∷ []) ∙ ap (λ (x : Entry). line_of os ++ (x ∷ [])) (observed-entry seq e)
line-by (cut_to d r mark) os = line_cut d r mark os
line-by (snapshot seq es) os = line-snapshot seq es
