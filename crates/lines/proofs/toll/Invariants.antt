-- `lines::toll`: so far the slots below s are summed. Assumes nothing.
use Rattle.std.specs.Prelude.{if◌then◌else◌}
use mathlib.Core.Path.{◌≡◌}
use Rattle.lines.specs.Lines.{entry, marked, tally}
use Rattle.lines.proofs.toll.Given as goal

abbrev pub invariant-loop-s : goal.invariant-loop-s
invariant-loop-s l = l.sum ≡ tally (λ x. if marked l.marks x then entry l.weights x else 0) l.s
