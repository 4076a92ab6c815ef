-- `idle_of`: the library's sum is the tally. Assumes nothing.
use mathlib.Core.Path.{ap, ◌∙◌}
use native.Mathlib.Omega.{arith}
use Rattle.std.proofs.lemmas.Iterator.{YieldsList-from_slice}
use Rattle.std.proofs.lemmas.Iterator.Consumers.{sum_from_yields_List, fits_from_yields_list}
use Rattle.lines.specs.Lines.{entry, tally}
use Rattle.looks.proofs.Looking.{sum_tally}
use Rattle.looks.proofs.idle_of.Goals as goal

pub sum-requires-clause-fits : goal.sum-requires-clause-fits
sum-requires-clause-fits c =
    let all = c.args.idles.now in
    fits_from_yields_list _ _ (YieldsList-from_slice all cc) (omega (arith, sum_tally all, ap (tally (entry all)) c.requires.0, c.requires.1))

pub returns : goal.returns
returns c =
    let all = c.args.idles.now in
    sum_from_yields_List _ c.sum.result c.sum.ensures.ran (YieldsList-from_slice all cc) ∙ sum_tally all ∙ ap (tally (entry all)) c.requires.0
