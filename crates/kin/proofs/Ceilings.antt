-- A customer at its ceiling, and one that is not there.
-- Assumes nothing.
use mathlib.Core.Path.{◌≡◌, refl}
use mathlib.Core.Bool.{Bool, true, false, ◌||◌}
use mathlib.Core.List.{List}
use Prim.Native.Nat.{ℕ, ◌<◌, ◌≤◌}
use native.Mathlib.Omega.{arith}
use lib.Dec.{leb}
use lib.ListN.{length, get_or}
use borrow.Author.Tests.{le-leb, lt-leb}
use Rattle.rules.specs.Numbers.{base_slots, base_customers}
use Rattle.rules.proofs.Cases.{or_true}
use Rattle.lines.specs.Lines.{members_of}
use Rattle.kin.specs.Families.{at_ceiling}

or_false : (b : Bool) → (b || false) ≡ b
or_false true = refl
or_false false = refl

module _ (ids customers ceilings : List ℕ) (long : length ceilings ≡ base_customers) (c : ℕ) where
  pub ceiling_none : base_customers ≤ c → at_ceiling ids customers ceilings c ≡ true
  ceiling_none h = rw (le-leb (length ceilings) c (omega (arith, long))) (or_true (leb (get_or ceilings c 0) (members_of base_slots ids customers c)))

  pub ceiling_some : c < base_customers → at_ceiling ids customers ceilings c ≡ leb (get_or ceilings c 0) (members_of base_slots ids customers c)
  ceiling_some h = rw (lt-leb (length ceilings) c (omega (arith, long))) (or_false (leb (get_or ceilings c 0) (members_of base_slots ids customers c)))
