-- The status goes into its seven words, or what is there stays there; then the rest goes behind them (`two_stores`).
use mathlib.Core.Path.{refl, ◌∙◌}
use mathlib.Core.Bool.{false}
use Rattle.host_words.specs.Block.{restored, status_list, rest_list, status_after}
use Rattle.host_words.proofs.Blocks.{status-left, length-after, two_stores}
use Rattle.host_words_store.proofs.store_book.Goals as goal
use Rattle.host_words_store.proofs.store_book.Goals.{then-sets, else-sets}

pub returns : goal.returns
unfolding restored
returns c =
    let st = c.args.words.now in
    let b = c.args.book in
    let rest = rw c.rest_list.ensures at c.put-2.ensures in
    elim c.if-sets.branch [
      | then-sets w ↦
          rw w.if-sets.true
          (rest ∙ two_stores st c.requires c.if-sets.words (status_list b.status) (rest_list b) (w.words-is ∙ (rw w.status_list.ensures at w.put.ensures)) refl)
      | else-sets w ↦
          rw w.if-sets.false
          (rest ∙ two_stores st c.requires c.if-sets.words (status_after st false b.status) (rest_list b) (w.words-is ∙ status-left st) (length-after st c.requires false b.status))
    ]
