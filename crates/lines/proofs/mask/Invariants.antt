-- `lines::mask`: so far the places below s are summed, and make less than 2 to the s. Assumes nothing.
use Rattle.std.specs.Prelude.{if◌then◌else◌}
use mathlib.Core.Path.{◌≡◌}
use Prim.Native.Nat.{◌^◌}
use Rattle.lines.specs.Lines.{marked, tally}
use Rattle.lines.proofs.mask.Given as goal

abbrev pub invariant-loop-s : goal.invariant-loop-s
invariant-loop-s g l = l.sum ≡ tally (λ x. if marked l.marks x then 2 ^ x else 0) l.s
