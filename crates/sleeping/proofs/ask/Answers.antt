-- `sleeping::ask` meets its contract: each test is a row of the rule, and one who sleeps is put in behind all who
-- wake no later.
-- Assumes nothing.
use mathlib.Core.Path.{sym, ap, ◌∙◌}
use mathlib.Core.List.{[]}
use Rattle.sleeps.specs.Rules.{answered}
use Rattle.sleeps.specs.declared.Follows.TheVariants.{Sleeps}
use Rattle.sleeping.specs.Promised.{view}
use Rattle.sleeping.proofs.Steps.{comes_by, found_is, free, ask_outside, ask_asleep, ask_negative, ask_granted, one_fits, grown_view, grown_good}
use Rattle.sleeping.proofs.ask.Goals as goal

pub returns-then-is_outside : goal.returns-then-is_outside
returns-then-is_outside c =
    let a = c.args in
    comes_by (ask_outside a.number a.a1 (view a.sleepers) (sym c.is_outside.ensures ∙ c.if-is_outside.true)) c.refused.ensures

pub returns-then-is_some : goal.returns-then-is_some
returns-then-is_some c =
    let a = c.args in
    let asleep = found_is a.sleepers c.requires a.number c.place_of.result c.place_of.ensures.first c.is_some.ensures c.if-is_some.true in
    comes_by (ask_asleep a.number a.a1 (view a.sleepers) (sym c.is_outside.ensures ∙ c.if-is_outside.false) asleep) c.refused-then-is_some.ensures

pub returns-then-a1-ge-SIGN : goal.returns-then-a1-ge-SIGN
returns-then-a1-ge-SIGN c =
    let a = c.args in
    let f = free a.sleepers c.requires a.number c.place_of.result c.is_outside.ensures c.if-is_outside.false c.place_of.ensures.first c.is_some.ensures c.if-is_some.false in
    comes_by (ask_negative a.number a.a1 (view a.sleepers) f.0 f.1 c.if-a1-ge-SIGN.true) c.answered.ensures

pub put_in-more-requires : goal.put_in-more-requires
put_in-more-requires c =
    let a = c.args in
    let f = free a.sleepers c.requires a.number c.place_of.result c.is_outside.ensures c.if-is_outside.false c.place_of.ensures.first c.is_some.ensures c.if-is_some.false in
    one_fits a.sleepers c.requires a.number a.a1 c.no_later-at.result f.0 f.1 c.no_later-at.ensures.lead

pub answered-requires-2 : goal.answered-requires-2
answered-requires-2 c =
    let a = c.args in
    let f = free a.sleepers c.requires a.number c.place_of.result c.is_outside.ensures c.if-is_outside.false c.place_of.ensures.first c.is_some.ensures c.if-is_some.false in
    rw c.put_in-more.ensures (grown_good a.sleepers c.requires a.number a.a1 c.no_later-at.result f.0 f.1 c.no_later-at.ensures.lead)

pub returns : goal.returns
returns c =
    let a = c.args in
    let m = a.sleepers in
    let f = free m c.requires a.number c.place_of.result c.is_outside.ensures c.if-is_outside.false c.place_of.ensures.first c.is_some.ensures c.if-is_some.false in
    let grown = grown_view m c.requires a.number a.a1 c.no_later-at.result f.0 f.1 c.no_later-at.ensures.lead in
    comes_by (ask_granted a.number a.a1 (view m) f.0 f.1 c.if-a1-ge-SIGN.false ∙ ap (answered Sleeps []) (sym grown)) (rw c.put_in-more.ensures at c.answered-2.ensures)
