use borrow.Author.Tests.{le-leb, lt-leb}
use Rattle.lines.specs.Lines.{spared_of}
use Rattle.lines.proofs.spared.Goals as goal

pub returns-then-at-ge-SLOTS : goal.returns-then-at-ge-SLOTS
unfolding spared_of
returns-then-at-ge-SLOTS c =
    rw (le-leb _ _ c.if-at-ge-SLOTS.true)

pub returns-then-doomed-at : goal.returns-then-doomed-at
unfolding spared_of
returns-then-doomed-at c =
    rw (lt-leb _ _ c.if-at-ge-SLOTS.false, c.if-doomed-at.true)

pub returns : goal.returns
unfolding spared_of
returns c =
    rw (lt-leb _ _ c.if-at-ge-SLOTS.false, c.if-doomed-at.false)
