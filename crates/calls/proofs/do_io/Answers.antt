-- `do_io` meets its contract.
use native.Mathlib.Omega.{arith}
use Rattle.calls.proofs.Serving.{io_traps, io_waits}
use Rattle.calls.proofs.do_io.Goals as goal

pub returns-then-a1-ge-DEVICES : goal.returns-then-a1-ge-DEVICES
returns-then-a1-ge-DEVICES c =
    io_traps c.args.t c.requires.0 c.args.a1 c.pass_up_or_die.result c.if-a1-ge-DEVICES.true c.pass_up_or_die.ensures

pub returns : goal.returns
returns c =
    io_waits c.args.t c.requires.0 c.args.a1 c.block.result (omega (arith, c.if-a1-ge-DEVICES.false)) (rw c.serves-x.ensures at c.block.ensures)
