use mathlib.Core.Path.{refl, sym, subst}
use Rattle.lent.specs.declared.Kept.{Kept}
use Rattle.lent.specs.Lent.{Keeping}
use Rattle.lent.proofs.Laws.{lent_keeps}
use Rattle.lender.specs.Lender.{rows_of}
use Rattle.lender.proofs.event.Goals as goal

pub returns : goal.returns
returns c =
    let a = c.args in
    let e = c.lend.ensures in
    (rw (e.0, e.1) refl, subst (λ (r : Kept). Keeping r.keeper) (sym e.0) (lent_keeps a.v a.k c.requires.1 (rows_of a.t)))
