use Rattle.std.proofs.Common.{◌∙◌, ap, sym, get_or}
use Rattle.pages.specs.Rules.{free}
use Rattle.swap.specs.declared.Sheet.{Sheet}
use Rattle.swap.specs.Sheets.{put}
use Rattle.swap.proofs.Rows.{add_one, sheet_at, sheet_more}
use Rattle.swap.proofs.read_rows.Goals as goal

pub loop-row-preserved : goal.loop-row-preserved
loop-row-preserved c =
    let l = c.args.rows.now in
    let i = c.loop-row.row-index in
    c.with_row-s.ensures ∙ ap (λ (s : Sheet). put (get_or l i free) s) c.loop-row.invariant ∙ sheet_more l i c.loop-row-test.true ∙ ap (sheet_at l) (sym (add_one i))
