use Rattle.std.proofs.Common.{ℕ, List, length, ◌-◌, ◌≤◌}
use Rattle.std.specs.Io.KnownBytes.{Appends}
use Rattle.sleeping.specs.Promised.{Good, view}
use Rattle.run_sleep.proofs.Telling.{Telling}
use Rattle.run_sleep.proofs.answer.Given as goal

abbrev pub invariant-loop-at : goal.invariant-loop-at
invariant-loop-at g l = record {
  good : Good l.sleepers;
  few : l.number ≤ l.at;
  within : l.at ≤ length l.text;
  told : (w : List ℕ) × Appends (g.W.Write.contents l.initial.out) (g.W.Write.contents l.out) w × Telling l.text l.at (view l.sleepers) l.number w;
}

abbrev pub decreases-loop-at : goal.decreases-loop-at
decreases-loop-at g l = length l.text - l.at
