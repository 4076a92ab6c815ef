-- `sleep_text::end_line` meets its contract: the number fits, since it is not above the limit.
-- Assumes nothing.
use mathlib.Core.Path.{sym, ◌∙◌}
use native.Mathlib.Omega.{arith}
use Prim.Native.Nat.{◌-◌, ◌^◌}
use Rattle.std.proofs.lemmas.Result.{err_from_is_err_and}
use Rattle.words.specs.Texts.{nth}
use Rattle.words.proofs.Limits.{decimal_within}
use Rattle.sleep_text.specs.Lines.{end_line}
use Rattle.sleep_text.proofs.Numbers.{none_told, some_told}
use Rattle.sleep_text.proofs.end_line.Goals as goal

pub returns-in_err-u : goal.returns-in_err-u
unfolding end_line
returns-in_err-u c =
    let said = err_from_is_err_and c.from_residual.result c.from_residual.ensures.1 in
    let none = none_told c.decimal_at.result _ c.in_err-u.field-0.0 c.in_err-u.ensures.value in
    rw (said.1, said.2, none.1, sym c.decimal_at.ensures ∙ none.0)

pub overflow_cast-u : goal.overflow_cast-u
overflow_cast-u c =
    omega (arith, decimal_within (2 ^ 32 - 1) (nth c.args.line.now 1) c.in_ok-u.u (sym c.decimal_at.ensures ∙ some_told c.decimal_at.result _ c.in_ok-u.u c.in_ok-u.ensures.value))

pub returns : goal.returns
unfolding end_line
returns c = rw (sym c.decimal_at.ensures ∙ some_told c.decimal_at.result _ c.in_ok-u.u c.in_ok-u.ensures.value) c.ended.ensures
