-- `sleeping::numbers` meets its contract: the numbers up to the place passed, and noughts behind.
-- Assumes nothing.
use Rattle.std.proofs.Common.{◌≡◌, length, arith, ◌∙◌}
use Rattle.sleeping.proofs.Arrays.{numbers_more, numbers_are}
use Rattle.sleeping.proofs.numbers.Goals as goal

pub loop-i-preserved : goal.loop-i-preserved
loop-i-preserved c = rw c.loop-i.invariant (numbers_more c.args.rows.now c.loop-i.i c.loop-i-test.true c.requires)

pub returns : goal.returns
returns c =
    let rows = c.args.rows.now in
    let e : c.loop-i.i ≡ length rows = omega arith in
    c.loop-i.invariant ∙ rw e (numbers_are rows)
