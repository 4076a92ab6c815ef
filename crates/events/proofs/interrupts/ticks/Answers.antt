-- `Tables::ticks` meets its contract.
use Rattle.calls.proofs.Serving.{tick_comes}
use Rattle.events.proofs.interrupts.ticks.Goals as goal

pub returns : goal.returns
returns c =
    tick_comes c.args.t c.tick-w.result c.resume.result c.tick-w.ensures (rw c.wakes-x.ensures at c.resume.ensures)
