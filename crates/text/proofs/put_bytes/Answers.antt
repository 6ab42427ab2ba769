-- A block that replaces as many bytes is those bytes set one after another (`sets-eq`).
use mathlib.Core.Path.{refl, sym, ◌∙◌}
use lib.Seq.{sets-eq}
use Rattle.text.proofs.put_bytes.Goals as goal

pub returns : goal.returns
returns c = let a = c.args in record { text = c.put.ensures ∙ sym (sets-eq a.bytes.now a.text.now a.at c.requires); ends = refl }
