-- `event`: the desk answers, and the sleepers take what they hear. Assumes nothing.
use Rattle.std.proofs.Common.{◌^◌, ◌<◌, rules}
use Rattle.desk.specs.View.{view}
use Rattle.sleep_desk.proofs.Steps.{gap_wraps, serves}
use Rattle.sleep_desk.proofs.event.Goals as goal

pub returns : goal.returns
returns c =
    let last_fits : c.last-last.result < 2 ^ 32 = search rules in
    let clock-fits : c.clock_of.result < 2 ^ 32 = search rules in
    let gap-fits : c.wrapping_sub_u32-gap.result < 2 ^ 32 = search rules in
    let a = c.args in
    let m = view a.pair.machine in
    let gap = c.wrapping_sub_u32-gap.result in
    serves a.number a.processor gap a.e a.pair c.event-done.result c.told-turn.result c.event-done.ensures c.told-turn.ensures
    (λ there. gap_wraps a.processor a.e m gap c.last-last.result c.clock_of.result there c.last-last.ensures c.clock_of.ensures
    gap-fits clock-fits last_fits c.wrapping_sub_u32-gap.ensures.value)
