-- `low`: the line as it stands, with zeros behind it. Assumes nothing.
use Rattle.looks.proofs.Looking.{lows_told}
use Rattle.looks.proofs.low.Goals as goal

pub returns : goal.returns
returns c = lows_told c.args.t c.requires.shape
