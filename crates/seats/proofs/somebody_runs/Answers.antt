-- `seats::somebody_runs`: the library's `any` is the rule book's.
use mathlib.Core.Path.{◌∙◌}
use Rattle.std.specs.Prelude.{Option, is_some}
use mathlib.Core.Bool.{Bool}
use Prim.Native.Nat.{ℕ}
use Rattle.std.proofs.Common.{rules, tests}
use Rattle.std.proofs.lemmas.Iterator.{YieldsList-from_slice}
use Rattle.std.proofs.lemmas.Iterator.Search.{any_from_yields_List}
use Rattle.seats.proofs.Told.{any_listed}
use Rattle.seats.proofs.somebody_runs.Goals as goal

abbrev runs : Option ℕ → Bool
runs c = is_some c

pub returns : goal.returns
returns c =
    any_from_yields_List runs _ _ c.any.result c.any.ensures.ran (YieldsList-from_slice c.args.runners.now cc) (λ x b q k. search (rules, tests))
    ∙ any_listed runs c.args.runners.now
