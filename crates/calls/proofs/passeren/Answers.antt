-- `passeren` meets its contract.
use native.Mathlib.Omega.{arith}
use Rattle.calls.proofs.Serving.{p_traps, p_blocks, p_falls}
use Rattle.calls.proofs.passeren.Goals as goal

pub returns-then-k-ge-SEMAPHORES : goal.returns-then-k-ge-SEMAPHORES
returns-then-k-ge-SEMAPHORES c =
    p_traps c.args.t c.requires.0 c.args.a1 c.pass_up_or_die.result c.if-k-ge-SEMAPHORES.true c.pass_up_or_die.ensures

pub returns-then-v-eq0 : goal.returns-then-v-eq0
returns-then-v-eq0 c =
    p_blocks c.args.t c.requires.0 c.args.a1 c.block.result (omega (arith, c.if-k-ge-SEMAPHORES.false)) c.if-v-eq0.true (rw c.bare-x.ensures at c.block.ensures)

pub returns : goal.returns
returns c =
    p_falls c.args.t c.requires.0 c.args.a1 c.carries_on.result (omega (arith, c.if-k-ge-SEMAPHORES.false)) c.if-v-eq0.false (rw c.bare-x.ensures at c.carries_on.ensures)
