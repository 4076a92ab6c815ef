-- What is left says the same as the whole.
use Rattle.std.proofs.Common.{◌≡◌, drop}
use Rattle.odds.specs.Odds.{every, entry_agrees}
use Rattle.odds.proofs.entries_agree.Given as goal

abbrev pub invariant-loop-e : goal.invariant-loop-e
invariant-loop-e l = every (entry_agrees l.fn.rows l.fn.u) 0 l.fn.t.entries ≡ every (entry_agrees l.fn.rows l.fn.u) l.e (drop l.e l.fn.t.entries)
