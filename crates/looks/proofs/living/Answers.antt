-- `living`: the count of the rows is that of the living. Assumes nothing.
use mathlib.Core.Path.{sym, ◌∙◌}
use Rattle.tables.proofs.Seats.{members}
use Rattle.looks.proofs.living.Goals as goal

pub returns : goal.returns
returns c =
    c.living_of.ensures ∙ sym (members c.args.t c.requires.shape c.args.customer)
