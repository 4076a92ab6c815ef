-- `Tables::carries_on` meets its contract.
use Rattle.tables.proofs.Choosing.{carry_comes}
use Rattle.tables.proofs.Tables.carries_on.Goals as goal

pub returns : goal.returns
returns c = rw c.does-on.ensures (carry_comes c.args.x c.args.self c.requires.0)
