use mathlib.Core.Path.{sym, ap, ◌∙◌}
use Rattle.words.specs.Figures.{decimal_of, hexadecimal_of}
use Rattle.pager_asks.proofs.Numbers.{number_some, number_else}
use Rattle.pager_asks.proofs.number.Goals as goal

pub returns-in-Some : goal.returns-in-Some
returns-in-Some c =
    let a = c.args in
    let word = c.nth_word-word.ensures in
    number_some a.limit a.line.now a.k c.in-Some.n (sym c.in-Some.is ∙ c.decimal.ensures ∙ ap (decimal_of a.limit) word)

pub returns-in-None : goal.returns-in-None
returns-in-None c =
    let a = c.args in
    let word = c.nth_word-word.ensures in
    number_else a.limit a.line.now a.k a.expected _ (sym c.in-None.is ∙ c.decimal.ensures ∙ ap (decimal_of a.limit) word) (c.hexadecimal.ensures ∙ ap (hexadecimal_of a.limit) word) _ c.ok_or.ensures.value
