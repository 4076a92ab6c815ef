-- `asked`: by the kind of the event. Assumes nothing.
use Rattle.sleep_desk.specs.Rules.{through}
use Rattle.sleep_desk.proofs.Steps.{comes_itself}
use Rattle.sleep_desk.proofs.asked.Goals as goal

pub returns-in-Exception : goal.returns-in-Exception
unfolding through
returns-in-Exception c = rw c.in-Exception.is (comes_itself c.requires)
