-- `Tables::perform`: the three kinds of event. Assumes nothing.
use Rattle.rules.specs.Rules.{bad_line, needs_runner}
use Rattle.events.proofs.Eventful.{manned}
use Rattle.events.proofs.perform.Goals as goal

pub call-requires : goal.call-requires
unfolding needs_runner
call-requires c =
    (c.requires.0, manned c.args.e c.args.t.running c.requires.2 (rw c.in-Call.is), c.requires.3)

pub interrupt-requires : goal.interrupt-requires
unfolding needs_runner bad_line
interrupt-requires c =
    (c.requires.0, rw c.in-Interrupt.is at c.requires.1, λ one. manned c.args.e c.args.t.running c.requires.2 (rw (c.in-Interrupt.is, one)))

pub exception-requires : goal.exception-requires
unfolding needs_runner
exception-requires c =
    (c.requires.0, manned c.args.e c.args.t.running c.requires.2 (rw c.in-Exception.is))
