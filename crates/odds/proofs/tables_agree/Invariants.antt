-- What is left says the same as the whole.
use Rattle.std.proofs.Common.{◌≡◌, drop}
use Rattle.odds.specs.Odds.{every, table_agrees}
use Rattle.odds.proofs.tables_agree.Given as goal

abbrev pub invariant-loop-i : goal.invariant-loop-i
invariant-loop-i l = every (table_agrees l.fn.rows) 0 l.fn.tables ≡ every (table_agrees l.fn.rows) l.i (drop l.i l.fn.tables)
