use mathlib.Core.Path.{◌∙◌, ap}
use Rattle.swap.specs.Sheets.{over}
use Rattle.lent.specs.declared.Decided.{Decided}
use Rattle.lent.specs.Lent.{decided}
use Rattle.lent.proofs.Laws.{lent_turn, lent_rows}
use Rattle.lent.proofs.event.Goals as goal

-- what is decided of the sheet that was read is what the lent rows come to
pub returns : goal.returns
returns c =
    let a = c.args in
    let ys = a.rows.now in
    let d = c.decide-d.ensures ∙ ap (decided a.v a.k) c.read_rows-s.ensures in
    (ap (λ (x : Decided). x.turn) d ∙ lent_turn a.v a.k c.requires ys, c.write_rows.ensures ∙ ap (λ (x : Decided). over ys x.sheet.rows) d ∙ lent_rows a.v a.k c.requires ys)
