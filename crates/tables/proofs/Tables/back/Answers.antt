-- `Tables::back` meets its contract.
use Rattle.std.proofs.Common.{sym, ap, subst, arith}
use Rattle.rules.specs.Machine.{back}
use Rattle.rules.specs.Rules.{schedule}
use Rattle.tables.specs.declared.Tables.{Tables}
use Rattle.tables.specs.View.{view, Shape}
use Rattle.tables.specs.Promised.{Comes}
use Rattle.tables.proofs.Seats.{room_beside}
use Rattle.tables.proofs.Moves.{backed, back_step}
use Rattle.tables.proofs.Choosing.{then_schedule}
use Rattle.tables.proofs.Tables.back.Goals as goal

pub joins-m-requires : goal.joins-m-requires
joins-m-requires c =
    let room = room_beside c.args.self c.requires.0 c.requires.1 in
    (c.requires.1, omega (arith, room), omega (arith, room))

pub schedule-requires : goal.schedule-requires
schedule-requires c =
    let step = back_step c.args.self c.requires.0 c.requires.1 in
    (subst Shape (sym c.joins-m.ensures) step.shape, ap (λ (m : Tables). m.running) c.joins-m.ensures)

pub returns : goal.returns
returns c =
    let m = c.args.self in
    let x = c.args.x in
    then_schedule back x m (backed m) c.schedule.result (back_step m c.requires.0 c.requires.1)
    (subst (λ (k : Tables). Comes (schedule x (view k)) c.schedule.result) c.joins-m.ensures c.schedule.ensures)
