-- `words::word_at` meets its contract: each turn finds the word behind the last one.
-- Assumes nothing.
use mathlib.Core.Path.{ap, ◌∙◌}
use native.Mathlib.Numerals.{add-one}
use native.Mathlib.Omega.{arith}
use Rattle.words.specs.Texts.{word_at}
use Rattle.words.proofs.word_at.Goals as goal

pub loop-init : goal.loop-init
unfolding word_at
loop-init c = c.next_word-found.ensures

pub loop-preserved : goal.loop-preserved
unfolding word_at
loop-preserved c = rw (c.next_word-found-in-loop.ensures, c.loop.invariant, add-one)

pub returns : goal.returns
returns c = c.loop.invariant ∙ ap (word_at c.args.line.now) (omega arith)
