-- `sleeping::tick` meets its contract: by wake time, those who are due are the first.
-- Assumes nothing.
use native.Mathlib.Omega.{arith}
use Rattle.sleeping.proofs.Arrays.{numbers_part}
use Rattle.sleeping.proofs.Steps.{comes_by, due_fit, tick_none, tick_some}
use Rattle.sleeping.proofs.tick.Goals as goal

pub returns-then-k-eq0 : goal.returns-then-k-eq0
returns-then-k-eq0 c =
    comes_by (tick_none c.args.sleepers c.requires c.no_later-k.result c.no_later-k.ensures.lead c.if-k-eq0.true) c.answered.ensures

pub returns : goal.returns
returns c =
    let m = c.args.sleepers in
    let fit = due_fit m c.requires c.no_later-k.result c.no_later-k.ensures.lead in
    rw (c.numbers.ensures, numbers_part m.rows c.no_later-k.result (omega (arith, fit, c.requires.long, c.requires.room)), c.cut_out-left.ensures) (tick_some m c.requires c.no_later-k.result c.no_later-k.ensures.lead c.if-k-eq0.false)
