-- The sheet holds the rows before this one.
use Rattle.std.proofs.Common.{◌≡◌}
use Rattle.swap.proofs.Rows.{sheet_at}
use Rattle.swap.proofs.read_rows.Given as goal

abbrev pub invariant-loop-row : goal.invariant-loop-row
invariant-loop-row l = l.s ≡ sheet_at l.rows l.row-index
