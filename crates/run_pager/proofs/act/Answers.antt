use Rattle.std.proofs.Common.{sym, ap, ◌∙◌}
use Rattle.run_pager.specs.Acts.{acted}
use Rattle.run_pager.proofs.Acts.{done}
use Rattle.run_pager.proofs.act.Goals as goal

pub returns-in-Asked : goal.returns-in-Asked
returns-in-Asked c =
    let a = c.args in
    done a.t a.k c.requires.0 a.ask c.requires.1 c.asked.result (c.asked.ensures ∙ ap (λ ask. acted ask a.t a.k) (sym c.in-Asked.is))
