-- `support` meets its contract.
use Rattle.rules.specs.Rules.{support}
use Rattle.calls.proofs.support.Goals as goal

pub returns : goal.returns
unfolding support
returns c = rw c.says-result.ensures at c.replies.ensures
