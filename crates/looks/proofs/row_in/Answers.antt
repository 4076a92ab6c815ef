-- `row_in`: each number by its slot; a free row is zero, and what is no slot has none. Assumes nothing.
use mathlib.Core.Path.{sym}
use Rattle.looks.proofs.Looking.{row_out, row_told}
use Rattle.looks.proofs.row_in.Goals as goal

pub returns-then-s-ge-SLOTS : goal.returns-then-s-ge-SLOTS
returns-then-s-ge-SLOTS c = sym (row_out c.args.t c.requires.shape c.args.slot c.if-s-ge-SLOTS.true)

pub returns : goal.returns
returns c =
    rw (c.place_of.ensures, c.parent_of.ensures) (sym (row_told c.args.t c.requires.shape c.args.slot))
