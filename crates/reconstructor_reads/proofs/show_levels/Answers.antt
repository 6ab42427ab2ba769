-- The levels counted are the prices of the side, and each has `width` words; so the code's 7 is the definition's, and what is written fits.
use Prim.Native.Nat.{◌*◌, ◌≤◌}
use mathlib.Core.Path.{◌≡◌, ◌∙◌, sym, ap}
use native.Mathlib.Omega.{arith}
use lib.ListN.{length}
use borrow.Author.Tests.{lt-ltb, le-ltb}
use Rattle.book.specs.Rows.{most_rows}
use Rattle.book.specs.Memory.{memory, orders_of, line_in}
use Rattle.book_levels.specs.Levels.{prices, levels_words}
use Rattle.book_levels.proofs.Prices.{prices-count}
use Rattle.book_levels.proofs.Writing.{few_words, prices_few, length-levels}
use Rattle.reconstructor_reads.specs.LevelReads.{shown}
use Rattle.reconstructor_reads.proofs.show_levels.Goals as goal

pub overflow_mul-width : goal.overflow_mul-width
overflow_mul-width c =
    let a = c.args in
    let l = line_in (memory a.sound.rows.words.now) a.sound.rows.count in
    let k = c.side_level_count-count.result in
    let e : k ≡ length (prices a.side l) = c.side_level_count-count.ensures ∙ sym (prices-count a.side l) in
    let few : k ≤ most_rows = omega (arith, e, prices_few a.side a.sound.rows.words.now a.sound.rows.count, c.args.sound.rows.lent.few) in
    record { fits = omega (arith, few_words a.width k c.requires.l2words_le_width.1 few) }

pub returns-then-out-width : goal.returns-then-out-width
unfolding shown
returns-then-out-width c =
    let a = c.args in
    let m = memory a.sound.rows.words.now in
    let ps = prices a.side (line_in m a.sound.rows.count) in
    let e : c.side_level_count-count.result ≡ length ps = c.side_level_count-count.ensures ∙ sym (prices-count a.side (line_in m a.sound.rows.count)) in
    let w : a.width * c.side_level_count-count.result ≡ a.width * length ps = ap (λ x. a.width * x) e in
    let n = length-levels a.width c.requires.l2words_le_width.1 a.side (orders_of m a.sound.rows.count) ps in
    rw (lt-ltb (length a.out.now) (length (levels_words a.width a.side (orders_of m a.sound.rows.count) ps)) (omega (arith, w, n, c.if-out-width.true)))

pub write_levels-requires : goal.write_levels-requires
write_levels-requires c =
    let a = c.args in
    let l = line_in (memory a.sound.rows.words.now) a.sound.rows.count in
    let e : c.side_level_count-count.result ≡ length (prices a.side l) = c.side_level_count-count.ensures ∙ sym (prices-count a.side l) in
    let w : a.width * c.side_level_count-count.result ≡ a.width * length (prices a.side l) = ap (λ x. a.width * x) e in
    record { n_le_max_orders = c.requires.n_le_max_orders; le_width = (c.requires.l2words_le_width, omega (arith, w, c.if-out-width.false)) }

pub returns : goal.returns
unfolding shown
returns c =
    let a = c.args in
    let m = memory a.sound.rows.words.now in
    let ps = prices a.side (line_in m a.sound.rows.count) in
    let e : c.side_level_count-count.result ≡ length ps = c.side_level_count-count.ensures ∙ sym (prices-count a.side (line_in m a.sound.rows.count)) in
    let w : a.width * c.side_level_count-count.result ≡ a.width * length ps = ap (λ x. a.width * x) e in
    let n = length-levels a.width c.requires.l2words_le_width.1 a.side (orders_of m a.sound.rows.count) ps in
    let f = le-ltb (length a.out.now) (length (levels_words a.width a.side (orders_of m a.sound.rows.count) ps)) (omega (arith, w, n, c.if-out-width.false)) in
    rw (f, c.write_levels.ensures.out_after, c.write_levels.ensures.marks_after, e)
