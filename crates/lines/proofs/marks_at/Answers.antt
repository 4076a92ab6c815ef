-- `lines::marks_at`: each code is compared. Assumes nothing.
use mathlib.Core.Path.{sym, ◌∙◌}
use mathlib.Core.Bool.{false}
use native.Mathlib.Omega.{arith}
use lib.Dec.{eqb}
use lib.ListN.{get_or}
use Rattle.std.proofs.Common.{rules, tests}
use Rattle.std.proofs.lemmas.List.{ext_get_or}
use Rattle.rules.specs.Numbers.{base_slots}
use Rattle.lines.specs.Lines.{marks_of}
use Rattle.lines.proofs.Mapped.{made, serves_places}
use Rattle.lines.proofs.Marks.{get_or_marks_of, length_marks_of}
use Rattle.lines.proofs.marks_at.Goals as goal

pub from_fn-requires : goal.from_fn-requires
from_fn-requires c = (omega arith, serves_places (λ x q r. search (rules, tests)) base_slots (λ x b. search rules))

pub returns : goal.returns
returns c =
    let ls = c.args.lines.now in
    let v = c.args.v in
    let items = c.from_fn.ensures.items in
    ext_get_or false c.from_fn.result (marks_of ls v) (items.long ∙ sym (length_marks_of ls v ∙ c.requires))
    (λ s b. made _ _ (λ x. eqb (get_or ls x 0) v) (λ x y q k. search (rules, tests)) c.from_fn.result base_slots items s false (omega (arith, items.long, b))
    ∙ sym (get_or_marks_of ls v s (omega (arith, items.long, b, c.requires))))
