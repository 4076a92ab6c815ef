-- `sleep_text::ask_line` meets its contract: the numbers fit, since they are not above their limits.
-- Assumes nothing.
use mathlib.Core.Path.{sym, ◌∙◌}
use native.Mathlib.Omega.{arith}
use Prim.Native.Nat.{◌-◌, ◌^◌}
use Rattle.std.proofs.lemmas.Result.{err_from_is_err_and}
use Rattle.words.specs.Texts.{nth}
use Rattle.words.proofs.Limits.{decimal_within, signed_within}
use Rattle.sleep_text.specs.Lines.{ask_line}
use Rattle.sleep_text.proofs.Numbers.{none_told, some_told}
use Rattle.sleep_text.proofs.ask_line.Goals as goal

pub returns-in_err-u : goal.returns-in_err-u
unfolding ask_line
returns-in_err-u c =
    let said = err_from_is_err_and c.from_residual.result c.from_residual.ensures.1 in
    let none = none_told c.decimal_at.result _ c.in_err-u.field-0.0 c.in_err-u.ensures.value in
    rw (said.1, said.2, none.1, sym c.decimal_at.ensures ∙ none.0)

pub returns-in_err-a1 : goal.returns-in_err-a1
unfolding ask_line
returns-in_err-a1 c =
    let said = err_from_is_err_and c.from_residual-in_err-a1.result c.from_residual-in_err-a1.ensures.1 in
    let u = some_told c.decimal_at.result _ c.in_ok-u.u c.in_ok-u.ensures.value in
    let none = none_told c.signed_word_at.result _ c.in_err-a1.field-0.0 c.in_err-a1.ensures.value in
    rw (said.1, said.2, none.1, sym c.decimal_at.ensures ∙ u, sym c.signed_word_at.ensures ∙ none.0)

pub overflow_cast-u : goal.overflow_cast-u
overflow_cast-u c =
    omega (arith, decimal_within (2 ^ 32 - 1) (nth c.args.line.now 1) c.in_ok-u.u (sym c.decimal_at.ensures ∙ some_told c.decimal_at.result _ c.in_ok-u.u c.in_ok-u.ensures.value))

pub overflow_cast-a1 : goal.overflow_cast-a1
overflow_cast-a1 c =
    omega (arith, signed_within (nth c.args.line.now 2) c.in_ok-a1.a1 (sym c.signed_word_at.ensures ∙ some_told c.signed_word_at.result _ c.in_ok-a1.a1 c.in_ok-a1.ensures.value))

pub returns : goal.returns
unfolding ask_line
returns c =
    let u = some_told c.decimal_at.result _ c.in_ok-u.u c.in_ok-u.ensures.value in
    let a1 = some_told c.signed_word_at.result _ c.in_ok-a1.a1 c.in_ok-a1.ensures.value in
    rw (sym c.decimal_at.ensures ∙ u, sym c.signed_word_at.ensures ∙ a1) c.ended.ensures
