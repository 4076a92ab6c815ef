-- `verhogen` meets its contract.
use native.Mathlib.Omega.{arith}
use Rattle.calls.proofs.Serving.{v_traps, v_tops, v_wakes, v_rises}
use Rattle.calls.proofs.verhogen.Goals as goal

pub returns-then-k-ge-SEMAPHORES : goal.returns-then-k-ge-SEMAPHORES
returns-then-k-ge-SEMAPHORES c =
    v_traps c.args.t c.requires.0 c.args.a1 c.pass_up_or_die.result c.if-k-ge-SEMAPHORES.true c.pass_up_or_die.ensures

pub returns-then-v-ge-TOP : goal.returns-then-v-ge-TOP
returns-then-v-ge-TOP c =
    v_tops c.args.t c.requires.0 c.args.a1 c.pass_up_or_die-then-v-ge-TOP.result (omega (arith, c.if-k-ge-SEMAPHORES.false)) c.if-v-ge-TOP.true c.pass_up_or_die-then-v-ge-TOP.ensures

pub returns-then-bits-eq0 : goal.returns-then-bits-eq0
returns-then-bits-eq0 c =
    v_rises c.args.t c.requires.0 c.args.a1 (omega (arith, c.if-k-ge-SEMAPHORES.false)) (omega (arith, c.if-v-ge-TOP.false)) c.wake-w.result c.wake-w.ensures c.carries_on.result c.if-bits-eq0.true (rw c.wakes-x.ensures at c.carries_on.ensures)

pub returns : goal.returns
returns c =
    v_wakes c.args.t c.requires.0 c.args.a1 (omega (arith, c.if-k-ge-SEMAPHORES.false)) (omega (arith, c.if-v-ge-TOP.false)) c.wake-w.result c.wake-w.ensures c.carries_on-2.result c.if-bits-eq0.false (rw c.wakes-x.ensures at c.carries_on-2.ensures)
