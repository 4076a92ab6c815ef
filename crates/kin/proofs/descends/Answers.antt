-- `Descends` meets its contract.
use mathlib.Core.Path.{sym, ◌∙◌}
use Rattle.kin.proofs.Climbs.{kin_top, kin_up}
use Rattle.kin.proofs.descends.Goals as goal

pub returns-in_default : goal.returns-in_default
returns-in_default c =
    sym (c.loop-s.invariant.0 ∙ kin_top c.args.parents.now c.args.ids.now c.requires.3 c.args.id c.loop-s.s c.loop-s.invariant.1 c.if-ids-s.false c.in_default.is)

pub loop-s-preserved : goal.loop-s-preserved
loop-s-preserved c = (
  c.loop-s.invariant.0 ∙ kin_up c.args.parents.now c.args.ids.now c.requires.3 c.args.id c.loop-s.s _ c.loop-s.invariant.1 c.if-ids-s.false c.in-Some.is,
  (c.requires.3 c.loop-s.s _ c.loop-s.invariant.1 c.in-Some.is).slot,
)
