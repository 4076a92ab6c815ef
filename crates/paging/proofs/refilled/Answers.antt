use Rattle.std.proofs.Common.{◌∙◌}
use Rattle.paging.proofs.Pages.{entry_within, no_entry, some_entry}
use Rattle.paging.proofs.refilled.Goals as goal

pub entry_at-requires : goal.entry_at-requires
entry_at-requires c = let a = c.args in record { from = c.requires.0; upto = c.requires.1; entries = entry_within a.page c.in-Some.e c.in-Some.ensures }

pub returns-in-Some : goal.returns-in-Some
returns-in-Some c =
    let a = c.args in
    c.answered.ensures ∙ rw c.entry_at.ensures (some_entry a.p a.u a.page c.in-Some.e c.in-Some.ensures)

pub returns-in-None : goal.returns-in-None
returns-in-None c = let a = c.args in c.answered-in-None.ensures ∙ no_entry a.p a.u a.page c.in-None.ensures
