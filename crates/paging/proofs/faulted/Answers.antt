use mathlib.Core.Path.{◌∙◌}
use Rattle.paging.proofs.Pages.{by_store, by_modification}
use Rattle.paging.proofs.faulted.Goals as goal

pub returns-in-Store : goal.returns-in-Store
returns-in-Store c = let a = c.args in c.missed-in-Store.ensures ∙ by_store a.p a.u a.page a.c c.in-Store.is

pub returns-in-Modification : goal.returns-in-Modification
returns-in-Modification c = let a = c.args in c.answered.ensures ∙ by_modification a.p a.u a.page a.c c.in-Modification.is
