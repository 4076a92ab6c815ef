-- `high`: the line as it stands, with zeros behind it. Assumes nothing.
use Rattle.looks.proofs.Looking.{highs_told}
use Rattle.looks.proofs.high.Goals as goal

pub returns : goal.returns
returns c = highs_told c.args.t c.requires.shape
