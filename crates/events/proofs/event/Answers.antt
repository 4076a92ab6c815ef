-- `event`: there is no such processor; or the machine turns to it, the event happens, and it turns back. Assumes
-- nothing.
use Rattle.std.proofs.Common.{arith, rules}
use Rattle.events.proofs.Arriving.{over_answers, none_answers, there_holds, low_back, arrives_answers}
use Rattle.events.proofs.event.Goals as goal

pub returns-then-ne : goal.returns-then-ne
returns-then-ne c =
    over_answers c.args.t c.requires c.args.processor c.args.e c.refused.result (search rules) c.refused.ensures.0 c.refused.ensures.1

pub returns-then-t-k : goal.returns-then-t-k
returns-then-t-k c =
    none_answers c.args.t c.requires c.args.processor c.args.e c.refused-then-t-k.result (search rules) c.if-t-k.true c.refused-then-t-k.ensures.0 c.refused-then-t-k.ensures.1

pub at_hand-done-requires : goal.at_hand-done-requires
at_hand-done-requires c =
    there_holds c.args.t c.requires c.args.processor (omega (arith, c.if-t-k.false)) c.turn-there.result c.turn-there.ensures

pub turn-requires : goal.turn-requires
turn-requires c =
    let done = c.at_hand-done in (
      done.ensures.shape,
      low_back c.args.t c.requires c.args.processor (omega (arith, c.if-t-k.false)) c.turn-there.result c.turn-there.ensures c.args.e done.result done.ensures,
    )

pub returns : goal.returns
returns c =
    let done = c.at_hand-done in
    arrives_answers c.args.t c.requires c.args.processor (omega (arith, c.if-t-k.false)) c.turn-there.result c.turn-there.ensures c.args.e done.result done.ensures c.turn.result c.turn.ensures
