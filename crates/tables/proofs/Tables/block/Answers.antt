-- `Tables::block` meets its contract.
use Rattle.std.proofs.Common.{set, refl, subst, arith}
use Rattle.rules.specs.Numbers.{base_slots}
use Rattle.tables.proofs.Seats.{room_beside}
use Rattle.tables.proofs.Moves.{put_waits, blocked, block_step}
use Rattle.tables.proofs.Choosing.{then_schedule}
use Rattle.rules.specs.Machine.{block}
use Rattle.tables.specs.Codes.{decode}
use Rattle.rules.specs.Rules.{schedule}
use Rattle.tables.specs.declared.Tables.{Tables}
use Rattle.tables.specs.View.{view}
use Rattle.tables.specs.Promised.{put_running, Comes}
use Rattle.tables.proofs.Tables.block.Goals as goal

pub push-requires : goal.push-requires
push-requires c =
    omega (arith, room_beside c.args.self c.requires.0 c.requires.1)

pub schedule-requires : goal.schedule-requires
schedule-requires c =
    (rw c.push.ensures (block_step c.args.self c.requires.0 c.requires.1 c.args.code c.requires.2 c.requires.3).shape, refl)

pub returns : goal.returns
returns c =
    let m = c.args.self in
    let g = c.requires in
    let k = c.args.code in
    then_schedule (block (decode k)) c.args.x m (blocked m k) c.schedule.result (block_step m g.0 g.1 k g.2 g.3)
    (subst (λ (j : Tables). Comes (schedule c.args.x (view j)) c.schedule.result)
    (λ i. put_running base_slots m.four (put_waits (c.push.ensures i) (set m.lines m.running k) m))
    c.schedule.ensures)
