-- `sleep_text::gap_line` meets its contract.
-- Assumes nothing.
use mathlib.Core.Path.{sym, ◌∙◌}
use Rattle.std.proofs.lemmas.Result.{err_from_is_err_and}
use Rattle.sleep_text.specs.Lines.{gap_line}
use Rattle.sleep_text.proofs.Numbers.{none_told, some_told}
use Rattle.sleep_text.proofs.gap_line.Goals as goal

pub returns-in_err-gap : goal.returns-in_err-gap
unfolding gap_line
returns-in_err-gap c =
    let said = err_from_is_err_and c.from_residual.result c.from_residual.ensures.1 in
    let none = none_told c.decimal_at.result _ c.in_err-gap.field-0.0 c.in_err-gap.ensures.value in
    rw (said.1, said.2, none.1, sym c.decimal_at.ensures ∙ none.0)

pub returns : goal.returns
unfolding gap_line
returns c = rw (sym c.decimal_at.ensures ∙ some_told c.decimal_at.result _ c.in_ok-gap.gap c.in_ok-gap.ensures.value) c.ended.ensures
