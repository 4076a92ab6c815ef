-- The calls that tell the caller a number of its own row, over tables alone.
-- Assumes nothing.
use Rattle.std.specs.Prelude.{Some}
use mathlib.Core.Path.{◌≡◌}
use Prim.Native.Nat.{ℕ}
use lib.IntN.{pos}
use lib.ListN.{get_or}
use borrow.Author.Tests.{eq-eqb, ne_eqb}
use Rattle.rules.specs.Rules.{identity, carry_on}
use Rattle.tables.specs.declared.Tables.{Tables}
use Rattle.tables.specs.View.{row, view}
use Rattle.answers.specs.Parts.{with_result}
use Rattle.kin.specs.Families.{parent_at}

module _ (m : Tables) (a1 : ℕ) where
  -- "a1 = 0 own id"
  pub own_id : a1 ≡ 0 → identity (row m m.running) a1 0 0 (view m) ≡ carry_on (row m m.running) (with_result (Some (pos (get_or m.ids m.running 0)))) (view m)
  unfolding identity
  own_id e = rw (eq-eqb a1 0 e)

  -- "otherwise the parent's, 0 for id 1"
  pub parent_id : (a1 ≡ 0 → ⊥)
      → identity (row m m.running) a1 0 0 (view m) ≡ carry_on (row m m.running) (with_result (Some (pos (parent_at m.parents m.ids m.running)))) (view m)
  unfolding identity
  parent_id n = rw (ne_eqb a1 0 n)
