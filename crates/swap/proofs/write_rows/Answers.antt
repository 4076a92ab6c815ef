use Rattle.std.proofs.Common.{rules, ◌≡◌, ◌∙◌, length, arith}
use Rattle.pages.specs.Numbers.{frames}
use Rattle.swap.proofs.Rows.{mixed_next, mixed_end}
use Rattle.swap.proofs.write_rows.Goals as goal

pub loop-i-preserved : goal.loop-i-preserved
loop-i-preserved c =
    let sixteen : length c.args.s.rows ≡ frames = search rules in
    mixed_next c.loop-i.i c.up_to_16-n.result c.args.rows.now c.args.s.rows c.loop-i.rows _ c.row_of.result c.up_to_16-n.ensures c.loop-i-test.true sixteen c.loop-i.invariant c.row_of.ensures c.set_row.ensures

pub returns : goal.returns
returns c =
    let sixteen : length c.args.s.rows ≡ frames = search rules in
    c.loop-i.invariant ∙ mixed_end c.loop-i.i c.args.rows.now c.args.s.rows sixteen (omega (arith, c.up_to_16-n.ensures, c.loop-i-test.false))
