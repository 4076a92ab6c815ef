-- `words::decimal` meets its contract.
-- Assumes nothing.
use Rattle.words.specs.Figures.{decimal_of}
use Rattle.words.proofs.decimal.Goals as goal

pub returns : goal.returns
unfolding decimal_of
returns c = c.figures.ensures
