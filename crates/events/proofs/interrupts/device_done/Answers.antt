-- `Tables::device_done` meets its contract.
use Rattle.calls.proofs.Serving.{device_comes}
use Rattle.events.proofs.interrupts.device_done.Goals as goal

pub returns : goal.returns
returns c =
    device_comes c.args.d c.requires.1 c.args.t c.wake-w.result c.resume.result c.wake-w.ensures (rw c.serves-x.ensures at c.resume.ensures)
