-- `words::next_word` meets its contract: the blanks, and what follows them.
-- Assumes nothing.
use Rattle.std.proofs.Common.{rules, tests}
use Rattle.words.specs.Texts.{blank, solid, next_word}
use Rattle.words.proofs.next_word.Goals as goal

pub returns : goal.returns
unfolding next_word
returns c =
    let from = c.run-from.ensures blank (λ b r k. search (rules, tests)) in
    let to = c.run-to.ensures solid (λ b r k. search (rules, tests)) in
    rw (← from, ← to)
