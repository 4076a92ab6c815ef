-- `Tables::interrupt`: line 1, line 2, a device. Assumes nothing.
use Rattle.std.proofs.Common.{arith, rules}
use Rattle.verdicts.proofs.Tests.{line_known}
use Rattle.tables.proofs.Choosing.{comes_by}
use Rattle.events.proofs.Eventful.{slice_ends, clock_ticks, device_answers}
use Rattle.events.proofs.interrupts.interrupt.Goals as goal

pub returns-then-line-eq1 : goal.returns-then-line-eq1
returns-then-line-eq1 c =
    let m = c.args.t in
    let one = c.if-line-eq1.true in
    comes_by _ _ _ (slice_ends m c.requires.0 c.args.line c.args.first c.args.second one (c.requires.2 one)) (rw c.bare-x.ensures at c.back.ensures)

pub returns-then-line-eq2 : goal.returns-then-line-eq2
returns-then-line-eq2 c =
    comes_by _ _ _ (clock_ticks c.args.t c.requires.0 c.args.line c.args.first c.args.second (search rules)) c.ticks.ensures

pub sub_device-d-requires : goal.sub_device-d-requires
sub_device-d-requires c =
    let a = c.args in
    (omega (arith, line_known a.line a.first a.second c.requires.1), c.requires.1)

pub returns : goal.returns
returns c =
    comes_by _ _ _ (device_answers c.args.t c.requires.0 c.args.line c.args.first c.args.second c.sub_device-d.result (search rules) (search rules) c.sub_device-d.ensures.0) c.device_done.ensures
