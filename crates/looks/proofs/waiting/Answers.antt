-- `waiting`: the line as it stands, with zeros behind it. Assumes nothing.
use Rattle.looks.proofs.Looking.{waiting_told}
use Rattle.looks.proofs.waiting.Goals as goal

pub returns : goal.returns
returns c = waiting_told c.args.t c.requires.shape
