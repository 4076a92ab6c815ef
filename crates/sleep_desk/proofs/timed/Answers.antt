-- `timed`: the gap passes at processor 0, and nothing is told elsewhere. Assumes nothing.
use Rattle.sleeping.specs.Promised.{view}
use Rattle.sleeping.proofs.Steps.{comes_by}
use Rattle.sleep_desk.specs.Rules.{quiet}
use Rattle.sleep_desk.proofs.Steps.{gap_elsewhere, gap_here}
use Rattle.sleep_desk.proofs.timed.Goals as goal

pub returns-then-processor-ne-TIMING : goal.returns-then-processor-ne-TIMING
returns-then-processor-ne-TIMING c =
    let s = c.args in
    comes_by (gap_elsewhere (quiet (view s.sleepers)) s.processor s.gap c.if-processor-ne-TIMING.true) c.answered.ensures

pub returns : goal.returns
returns c =
    let s = c.args in
    comes_by (gap_here (quiet (view s.sleepers)) s.processor s.gap c.if-processor-ne-TIMING.false) c.pass.ensures
