-- `lines::strike`: so far the places below i are struck. Assumes nothing.
use mathlib.Core.Path.{◌≡◌}
use Rattle.lines.proofs.Marks.{striking}
use Rattle.lines.proofs.strike.Given as goal

abbrev pub invariant-loop-i : goal.invariant-loop-i
invariant-loop-i g l = l.a ≡ striking l.blank l.marks l.initial.a l.i
