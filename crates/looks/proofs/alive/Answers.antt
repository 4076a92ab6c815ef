-- `alive`: the mask that the machine keeps is that of the living. Assumes nothing.
use mathlib.Core.Path.{sym}
use Rattle.looks.proofs.Looking.{all_alive}
use Rattle.looks.proofs.alive.Goals as goal

pub returns : goal.returns
returns c = sym (all_alive c.args.t c.requires.shape)
