-- `Tables::resume` meets its contract.
use Rattle.std.proofs.Common.{arith}
use Rattle.tables.proofs.Choosing.{resumed, idle_resumed}
use Rattle.tables.proofs.Tables.resume.Goals as goal

pub returns-then-at-lt-SLOTS : goal.returns-then-at-lt-SLOTS
returns-then-at-lt-SLOTS c = resumed c.args.x c.args.self c.requires c.carries_on.result c.if-at-lt-SLOTS.true c.carries_on.ensures

pub returns : goal.returns
returns c = idle_resumed c.args.x c.args.self c.requires c.schedule.result (omega (arith, c.if-at-lt-SLOTS.false)) c.schedule.ensures
