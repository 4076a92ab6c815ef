-- `lines::strike`: so far the places below i are struck. Assumes nothing.
use mathlib.Core.Path.{◌∙◌}
use native.Mathlib.Omega.{arith}
use Rattle.lines.specs.Lines.{blanked}
use Rattle.lines.proofs.Marks.{over_none, strike_hit, strike_miss, strike_end}
use Rattle.lines.proofs.strike.Goals.{else-mark, then-mark}
use Rattle.lines.proofs.strike.Goals as goal

pub loop-i-init : goal.loop-i-init
loop-i-init g c = let a = c.args in over_none (blanked a.blank a.marks.now a.a.now) a.a.now

pub loop-i-preserved : goal.loop-i-preserved
loop-i-preserved g c =
    let a = c.args in
    let l = c.loop-i in
    elim c.if-mark.branch [
      | then-mark w ↦ w.a-is ∙ strike_hit a.blank a.marks.now a.a.now l.a l.i l.invariant (omega (arith, c.told-a, c.loop-i-test.true)) w.if-mark.true
      | else-mark w ↦ w.a-is ∙ strike_miss a.blank a.marks.now a.a.now l.a l.i l.invariant (omega (arith, c.told-a, c.loop-i-test.true)) w.if-mark.false
    ]

pub returns : goal.returns
returns g c = let a = c.args in strike_end a.blank a.marks.now a.a.now c.loop-i.a c.loop-i.i c.loop-i.invariant (omega (arith, c.told-a, c.loop-i-test.false))
