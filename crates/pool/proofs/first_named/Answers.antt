use Rattle.std.proofs.Common.{rules, ◌≡◌, sym, ◌∙◌, take}
use Rattle.std.specs.Prelude.{None}
use borrow.Author.Tests.{tests}
use Rattle.std.proofs.lemmas.Iterator.{YieldsList-from_slice, YieldsList-from_take}
use Rattle.std.proofs.lemmas.Iterator.Search.{position_from_yields_List}
use Rattle.pages.specs.Rules.{names}
use Rattle.pool.proofs.Search.{first_position}
use Rattle.pool.proofs.first_named.Goals as goal

pub returns : goal.returns
returns c =
    let a = c.args in
    let t = names a.owner a.page in
    sym c.in_ok-i.was ∙ (position_from_yields_List t _ _ c.position.result c.position.ensures.ran (YieldsList-from_take a.n (YieldsList-from_slice a.rows.now cc) cc) (λ x b q k. search (rules, tests)) ∙ first_position t (take a.n a.rows.now))

pub returns-in_err-i : goal.returns-in_err-i
returns-in_err-i c =
    let a = c.args in
    let t = names a.owner a.page in
    let r : c.from_residual.result ≡ None = search rules in
    r ∙ (sym c.in_err-i.was ∙ (position_from_yields_List t _ _ c.position.result c.position.ensures.ran (YieldsList-from_take a.n (YieldsList-from_slice a.rows.now cc) cc) (λ x b q k. search (rules, tests)) ∙ first_position t (take a.n a.rows.now)))
