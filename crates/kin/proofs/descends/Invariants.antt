-- `Descends` meets its contract.
use mathlib.Core.Path.{◌≡◌}
use Prim.Native.Nat.{◌<◌}
use lib.ListN.{get_or}
use Rattle.rules.specs.Numbers.{base_slots}
use Rattle.kin.specs.Families.{kin}
use Rattle.kin.proofs.descends.Given as goal

abbrev pub invariant-loop-s : goal.invariant-loop-s
invariant-loop-s l = (kin l.parents l.ids l.id l.from ≡ kin l.parents l.ids l.id l.s) × (l.s < base_slots)

abbrev pub decreases-loop-s : goal.decreases-loop-s
decreases-loop-s l = get_or l.ids l.s 0
