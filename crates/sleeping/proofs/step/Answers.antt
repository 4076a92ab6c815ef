-- `sleeping::step` meets its contract, operation by operation.
-- Assumes nothing.
use Rattle.sleeps.specs.Rules.{step}
use Rattle.sleeping.proofs.step.Goals as goal

pub returns-in-Gap : goal.returns-in-Gap
unfolding step
returns-in-Gap c = rw c.in-Gap.is c.pass.ensures

pub returns-in-Ask : goal.returns-in-Ask
unfolding step
returns-in-Ask c = rw c.in-Ask.is c.ask.ensures

pub returns-in-Tick : goal.returns-in-Tick
unfolding step
returns-in-Tick c = rw c.in-Tick.is c.tick.ensures

pub returns-in-End : goal.returns-in-End
unfolding step
returns-in-End c = rw c.in-End.is c.end.ensures
