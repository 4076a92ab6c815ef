-- What is left says the same as the whole.
use Rattle.std.proofs.Common.{◌≡◌, drop}
use Rattle.odds.specs.Odds.{every, row_agrees}
use Rattle.odds.proofs.rows_agree.Given as goal

abbrev pub invariant-loop-f : goal.invariant-loop-f
invariant-loop-f l = every (row_agrees l.fn.tables) 0 l.fn.rows ≡ every (row_agrees l.fn.tables) l.f (drop l.f l.fn.rows)
