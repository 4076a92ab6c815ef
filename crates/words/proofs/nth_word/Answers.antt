-- `words::nth_word` meets its contract: the bytes are those of the word.
-- Assumes nothing.
use native.Mathlib.Omega.{arith}
use lib.ListN.{length}
use Rattle.words.specs.Texts.{nth}
use Rattle.words.proofs.Places.{Within, word_within}
use Rattle.words.proofs.nth_word.Goals as goal

pub slice_bounds-result-count : goal.slice_bounds-result-count
slice_bounds-result-count c =
    let w : Within c.word_at-word.result (length c.args.line.now) = rw c.word_at-word.ensures (word_within c.args.line.now c.args.k) in omega arith

pub slice_bounds-result-start : goal.slice_bounds-result-start
slice_bounds-result-start c =
    let w : Within c.word_at-word.result (length c.args.line.now) = rw c.word_at-word.ensures (word_within c.args.line.now c.args.k) in omega arith

pub slice_bounds-result-end : goal.slice_bounds-result-end
slice_bounds-result-end c =
    let w : Within c.word_at-word.result (length c.args.line.now) = rw c.word_at-word.ensures (word_within c.args.line.now c.args.k) in omega arith

pub returns : goal.returns
unfolding nth
returns c = rw (← c.word_at-word.ensures)
