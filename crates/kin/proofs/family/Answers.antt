-- `kin::family`: each slot is asked for.
use native.Mathlib.Omega.{arith}
use Rattle.std.proofs.Common.{rules, tests}
use mathlib.Core.Bool.{false}
use Rattle.rules.specs.Numbers.{base_slots}
use Rattle.lines.proofs.Mapped.{made, serves_places}
use Rattle.kin.specs.Families.{kin}
use Rattle.kin.proofs.family.Goals as goal

pub from_fn-requires : goal.from_fn-requires
from_fn-requires c = (omega arith, serves_places (λ x q r. search (rules, tests)) base_slots (λ x b. search rules))

pub returns : goal.returns
returns c = record {
  long = c.from_fn.ensures.items.long;
  each = λ s b. made _ _ (kin c.args.parents.now c.args.ids.now c.args.id) (λ x y q k. search (rules, tests)) c.from_fn.result base_slots c.from_fn.ensures.items s false b;
}
