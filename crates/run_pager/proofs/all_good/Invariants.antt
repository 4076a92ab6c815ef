use Rattle.std.proofs.Common.{length, ◌-◌, ◌≤◌}
use Rattle.std.specs.Io.KnownBytes.{Keeps}
use Rattle.run_pager.proofs.Finding.{Finding}
use Rattle.run_pager.proofs.all_good.Given as goal

abbrev pub invariant-loop-at : goal.invariant-loop-at
invariant-loop-at g l = record {
  few : l.number ≤ l.at;
  within : l.at ≤ length l.text;
  finding : Finding l.text l.at l.number;
  quiet : Keeps (g.E.Write.contents l.initial.err) (g.E.Write.contents l.err);
}

abbrev pub decreases-loop-at : goal.decreases-loop-at
decreases-loop-at g l = length l.text - l.at
