-- `seats::leaving`: each seat is asked for.
use mathlib.Core.Path.{sym, ◌∙◌}
use mathlib.Core.Bool.{false}
use native.Mathlib.Omega.{arith}
use lib.ListN.{get_or, get_or-map}
use Rattle.std.proofs.Common.{rules, tests}
use Rattle.std.specs.Prelude.{None}
use Rattle.std.proofs.lemmas.List.{ext_get_or, length-map}
use Rattle.rules.specs.Numbers.{most_processors}
use Rattle.lines.proofs.Mapped.{made, serves_places}
use Rattle.seats.specs.Seats.{held_by, leaving_of}
use Rattle.seats.proofs.leaving.Goals as goal

pub from_fn-requires : goal.from_fn-requires
from_fn-requires c = (omega arith, serves_places (λ x q r. search (rules, tests)) most_processors (λ x b. let seat = c.requires.1 x in search rules))

pub returns : goal.returns
unfolding leaving_of
returns c =
    let rs = c.args.runners.now in
    let held = held_by c.args.doomed.now in
    let items = c.from_fn.ensures.items in
    ext_get_or false c.from_fn.result (leaving_of c.args.doomed.now rs) (items.long ∙ sym (length-map rs held ∙ c.requires.0))
    (λ k b. made _ _ (λ x. held (get_or rs x None)) (λ x y q j. search (rules, tests)) c.from_fn.result most_processors items k false (omega (arith, items.long, b))
    ∙ sym (get_or-map held rs k None))
