-- `sleeping::numbers` meets its contract: the numbers up to the place passed, and noughts behind.
-- Assumes nothing.
use Rattle.std.proofs.Common.{◌≡◌, map, replicate}
use Rattle.std.proofs.Math.Seq.{paste}
use Rattle.sleeps.specs.Numbers.{places}
use Rattle.sleeps.specs.Rules.{number_of}
use Rattle.sleeping.proofs.numbers.Given as goal

abbrev pub invariant-loop-i : goal.invariant-loop-i
invariant-loop-i l = l.all ≡ paste (replicate places 0) 0 (map number_of l.rows) l.i
