-- `words::word_at` meets its contract: each turn finds the word behind the last one.
-- Assumes nothing.
use mathlib.Core.Path.{◌≡◌}
use Rattle.words.specs.Texts.{word_at}
use Rattle.words.proofs.word_at.Given as goal

abbrev pub invariant-loop : goal.invariant-loop
invariant-loop l = l.found ≡ word_at l.line l.counter
