-- The rows before the index are written.
use mathlib.Core.Path.{◌≡◌}
use Rattle.swap.proofs.Rows.{mixed}
use Rattle.swap.proofs.write_rows.Given as goal

abbrev pub invariant-loop-i : goal.invariant-loop-i
invariant-loop-i l = l.rows ≡ mixed l.i l.initial.rows l.s.rows
