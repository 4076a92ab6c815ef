-- `lines::find_id`: the library's search is the first place. Assumes nothing.
use mathlib.Core.Path.{◌∙◌}
use Rattle.std.proofs.Common.{rules, tests}
use Rattle.std.proofs.lemmas.Iterator.{YieldsList-from_slice}
use Rattle.std.proofs.lemmas.Iterator.Search.{position_from_yields_List}
use Rattle.lines.specs.Lines.{is_id}
use Rattle.lines.proofs.Turns.{position_first}
use Rattle.lines.proofs.find_id.Goals as goal

pub returns : goal.returns
returns c =
    position_from_yields_List (is_id c.args.id) _ _ c.position.result c.position.ensures.ran (YieldsList-from_slice c.args.ids.now cc) (λ x b q k. search (rules, tests))
    ∙ position_first (is_id c.args.id) c.args.ids.now
