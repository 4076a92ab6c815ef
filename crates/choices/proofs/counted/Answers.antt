-- `counted` meets its contract.
use mathlib.Core.Path.{sym, ◌∙◌}
use native.Mathlib.Omega.{arith}
use lib.ListN.{replicate, length-replicate}
use Rattle.rules.specs.Machine.{origin}
use Rattle.choices.proofs.Turns.{not_yet}
use Rattle.choices.proofs.counted.Goals as goal

pub overflow_add-result : goal.overflow_add-result
overflow_add-result c =
    let a = c.args in
    let high = length-replicate a.high origin in
    let low = length-replicate a.low origin in
    let high-turn = sym (c.takes_low.ensures (replicate a.high origin) (replicate a.low origin) high low) ∙ c.if-takes_low.false in
    omega (arith, not_yet (replicate a.high origin) (replicate a.low origin) a.four high-turn (omega (arith, low, c.if-low-gt0.true)))
