-- `Tables::turn` meets its contract.
use Rattle.tables.proofs.Turning.{turn_step}
use Rattle.tables.proofs.Tables.turn.Goals as goal

pub returns : goal.returns
returns c =
    rw (c.slot_of.ensures, c.seated.ensures) (turn_step c.args.k c.args.self c.requires.0 c.requires.1)
