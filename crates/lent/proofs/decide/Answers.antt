use Rattle.std.proofs.Common.{rules, ◌≡◌, sym, ◌∙◌, subst, length}
use Rattle.pages.specs.Numbers.{frames}
use Rattle.pages.specs.Ruled.{Ruled}
use Rattle.lent.proofs.Laws.{stops, goes_on, sheet_ruled}
use Rattle.lent.proofs.decide.Goals as goal

pub returns-in-Some : goal.returns-in-Some
returns-in-Some c = let a = c.args in c.untouched.ensures ∙ stops a.v a.k a.s c.in-Some.r c.in-Some.ensures

pub event-requires : goal.event-requires
event-requires c =
    let a = c.args in
    let sixteen : length a.s.rows ≡ frames = search rules in
    subst Ruled (sym c.joined-p.ensures) (sheet_ruled a.v a.k a.s c.requires sixteen c.in-None.ensures)

pub returns-in-None : goal.returns-in-None
returns-in-None c =
    let a = c.args in
    c.apart.ensures ∙ rw (c.event.ensures, c.joined-p.ensures) (goes_on a.v a.k a.s c.in-None.ensures)
