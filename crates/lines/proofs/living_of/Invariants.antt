-- `lines::living_of`: so far the members in the slots below s are counted. Assumes nothing.
use mathlib.Core.Path.{◌≡◌}
use Rattle.lines.specs.Lines.{members_of}
use Rattle.lines.proofs.living_of.Given as goal

abbrev pub invariant-loop-s : goal.invariant-loop-s
invariant-loop-s l = l.living ≡ members_of l.s l.ids l.customers l.customer
