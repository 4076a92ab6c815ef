use Rattle.std.proofs.Common.{◌∙◌}
use Rattle.paging.proofs.Pages.{entry_within, miss_none, miss_some}
use Rattle.paging.proofs.missed.Goals as goal

pub wanted-requires : goal.wanted-requires
wanted-requires c =
    let a = c.args in
    (c.requires.0, record { from = c.requires.1; upto = c.requires.2; entries = entry_within a.page c.in-Some.e c.in-Some.ensures })

pub returns-in-Some : goal.returns-in-Some
returns-in-Some c =
    let a = c.args in
    c.wanted.ensures ∙ miss_some a.p a.u a.page c.in-Some.e c.in-Some.ensures

pub returns-in-None : goal.returns-in-None
returns-in-None c = let a = c.args in c.answered.ensures ∙ miss_none a.p a.u a.page c.in-None.ensures
