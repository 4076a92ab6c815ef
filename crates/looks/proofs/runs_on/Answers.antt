-- `runs_on`: the library's search is the first place. Assumes nothing.
use mathlib.Core.Path.{◌∙◌}
use Rattle.std.proofs.Common.{rules, tests}
use Rattle.std.proofs.lemmas.Iterator.{YieldsList-from_slice}
use Rattle.std.proofs.lemmas.Iterator.Search.{position_from_yields_List}
use Rattle.seats.specs.Seats.{sits_in}
use Rattle.lines.proofs.Turns.{position_first}
use Rattle.looks.proofs.runs_on.Goals as goal

pub returns : goal.returns
returns c =
    position_from_yields_List (sits_in c.args.slot) _ _ c.position.result c.position.ensures.ran (YieldsList-from_slice c.args.runners.now cc) (λ x b q k. search (rules, tests))
    ∙ position_first (sits_in c.args.slot) c.args.runners.now
