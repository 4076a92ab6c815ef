-- `sleeping::end` meets its contract: the one of that number is taken out, and the others stay as they are.
-- Assumes nothing.
use mathlib.Core.Path.{refl, ap, sym, ◌∙◌}
use Rattle.std.specs.Option.{is_some}
use Rattle.sleeping.proofs.Steps.{comes_by, free, end_outside, end_awake, end_good, end_asleep}
use Rattle.sleeping.proofs.end.Goals as goal

pub returns-then-is_outside : goal.returns-then-is_outside
returns-then-is_outside c =
    let a = c.args in
    comes_by (end_outside a.sleepers c.requires a.number (sym c.is_outside.ensures ∙ c.if-is_outside.true)) c.refused.ensures

pub returns-in_default : goal.returns-in_default
returns-in_default c =
    let a = c.args in
    let f = free a.sleepers c.requires a.number c.place_of.result c.is_outside.ensures c.if-is_outside.false c.place_of.ensures.first refl (ap is_some c.in_default.is) in
    comes_by (end_awake a.sleepers c.requires a.number f.0 f.1) c.answered.ensures

pub answered-requires-2 : goal.answered-requires-2
answered-requires-2 c =
    let a = c.args in
    rw c.cut_out-left.ensures (end_good a.sleepers c.requires a.number c.in-Some.i (sym c.place_of.ensures.first ∙ c.in-Some.is))

pub returns : goal.returns
returns c =
    let a = c.args in
    comes_by (end_asleep a.sleepers c.requires a.number c.in-Some.i (sym c.place_of.ensures.first ∙ c.in-Some.is) (sym c.is_outside.ensures ∙ c.if-is_outside.false)) (rw c.cut_out-left.ensures at c.answered-2.ensures)
