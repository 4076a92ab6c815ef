-- `sleeping::pass` meets its contract: the gap is accepted, or it would bring the sum above its limit.
-- Assumes nothing.
use native.Mathlib.Omega.{arith}
use Rattle.sleeping.specs.Promised.{view}
use Rattle.sleeping.proofs.Steps.{comes_by, pass_full, pass_on}
use Rattle.sleeping.proofs.pass.Goals as goal

pub returns-then-sum-gap : goal.returns-then-sum-gap
returns-then-sum-gap c =
    let m = c.args.sleepers in
    comes_by (pass_full c.args.gap (view m) c.requires.sound.limit (omega arith)) c.refused.ensures

pub returns : goal.returns
returns c =
    let m = c.args.sleepers in
    comes_by (pass_on c.args.gap (view m) (omega (arith, c.requires.sound.limit))) c.answered.ensures
