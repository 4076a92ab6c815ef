-- `Tables::joins` meets its contract.
use Rattle.std.proofs.Common.{◌<◌, length, sym, ap, ◌∙◌, rules}
use Rattle.lines.specs.declared.queue.Queue.{Queue}
use Rattle.tables.specs.Promised.{put_ready}
use Rattle.tables.proofs.Lining.{joins_high, joins_low}
use Rattle.tables.proofs.Tables.joins.Goals as goal

pub returns-then-is_high : goal.returns-then-is_high
returns-then-is_high c =
    let high-room : c.args.self.high.count < length c.args.self.high.slots = search rules in
    let low-room : c.args.self.low.count < length c.args.self.low.slots = search rules in
    let m = c.args.self in
    ap (λ (q : Queue). put_ready q m.low m) c.push.ensures ∙ joins_high m c.args.slot high-room low-room (sym c.is_high.ensures ∙ c.if-is_high.true)

pub returns : goal.returns
returns c =
    let high-room : c.args.self.high.count < length c.args.self.high.slots = search rules in
    let low-room : c.args.self.low.count < length c.args.self.low.slots = search rules in
    let m = c.args.self in
    ap (λ (q : Queue). put_ready m.high q m) c.push-2.ensures ∙ joins_low m c.args.slot high-room low-room (sym c.is_high.ensures ∙ c.if-is_high.false)
