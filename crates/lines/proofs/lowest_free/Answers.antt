-- `lines::lowest_free`: the count of zeros is the least free slot. Assumes nothing.
use Rattle.std.specs.Prelude.{Some, None, cond}
use mathlib.Core.Path.{◌≡◌, refl, sym, ◌∙◌}
use mathlib.Core.Bool.{Bool, true, false}
use Prim.Native.Nat.{ℕ}
use native.Mathlib.Omega.{arith}
use Rattle.std.specs.Bool.{then_some}
use Rattle.rules.specs.Numbers.{base_slots}
use Rattle.lines.proofs.Zeros.{lowest_zeros}
use Rattle.lines.proofs.lowest_free.Goals as goal

some_where : (b : Bool) (n : ℕ) → then_some b n ≡ cond b (Some n) None
some_where true n = refl
some_where false n = refl

pub returns : goal.returns
returns c ids long e =
    c.then_some.ensures
    ∙ some_where _ _
    ∙ sym (rw (sym e) at (lowest_zeros base_slots 64 ids long (omega arith)))
