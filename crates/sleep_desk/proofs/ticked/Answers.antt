-- `ticked`: line 2 is a tick, and no other. Assumes nothing.
use Rattle.sleeping.proofs.Steps.{comes_by}
use Rattle.sleep_desk.specs.Promised.{outcome}
use Rattle.sleep_desk.proofs.Steps.{comes_itself, no_tick, a_tick}
use Rattle.sleep_desk.proofs.ticked.Goals as goal

pub returns-then-line-ne-TICK : goal.returns-then-line-ne-TICK
returns-then-line-ne-TICK c =
    let s = c.args in
    comes_by (no_tick (outcome s.turn) s.line c.if-line-ne-TICK.true) (comes_itself c.requires)

pub returns : goal.returns
returns c =
    let s = c.args in
    comes_by (a_tick (outcome s.turn) s.line c.if-line-ne-TICK.false) c.tick.ensures
