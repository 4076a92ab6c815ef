-- `line_of`: the tests of `decode`, in its order. Assumes nothing.
use Rattle.tables.specs.Codes.{decode}
use borrow.Author.Tests.{le-leb, lt-leb, lt-ltb, le-ltb}
use Rattle.looks.proofs.line_of.Goals as goal

pub returns-then-code-le-LAST_SEMAPHORE : goal.returns-then-code-le-LAST_SEMAPHORE
unfolding decode
returns-then-code-le-LAST_SEMAPHORE c = simp (le-leb _ _ c.if-code-le-LAST_SEMAPHORE.true)

pub returns-then-code-lt-CLOCK : goal.returns-then-code-lt-CLOCK
unfolding decode
returns-then-code-lt-CLOCK c = simp (lt-leb _ _ c.if-code-le-LAST_SEMAPHORE.false, lt-ltb _ _ c.if-code-lt-CLOCK.true)

pub returns : goal.returns
unfolding decode
returns c = simp (lt-leb _ _ c.if-code-le-LAST_SEMAPHORE.false, le-ltb _ _ c.if-code-lt-CLOCK.false)
