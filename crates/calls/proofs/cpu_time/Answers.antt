-- `cpu_time` meets its contract.
use Rattle.rules.specs.Rules.{cpu_time}
use native.Mathlib.Omega.{arith}
use Rattle.tables.proofs.Billing.{time_within}
use Rattle.calls.proofs.cpu_time.Goals as goal

pub says-result-requires : goal.says-result-requires
says-result-requires c =
    omega (arith, time_within c.args.t c.requires.0 c.args.t.running c.requires.1, c.requires.0.within)

pub returns : goal.returns
unfolding cpu_time
returns c = rw c.says-result.ensures at c.replies.ensures
