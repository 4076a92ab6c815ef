-- `words::figures` meets its contract: the digits left, behind those passed, say what the whole says. The sum stays
-- within the limit.
-- Assumes nothing.
use mathlib.Core.Path.{sym, ap, ◌∙◌}
use Prim.Native.Nat.{ℕ, ◌+◌}
use native.Mathlib.Omega.{arith}
use lib.ListN.{drop, get_or}
use Rattle.words.specs.Figures.{base_number, number_of, more_of}
use Rattle.words.proofs.Sums.{told_digit, told_none, base_some, base_most, more_bad, more_big, more_on, more_end}
use Rattle.words.proofs.figures.Goals as goal

pub returns-then-is_empty : goal.returns-then-is_empty
unfolding number_of
returns-then-is_empty c = let a = c.args in rw (sym c.is_empty.ensures ∙ c.if-is_empty.true)

pub loop-b-init : goal.loop-b-init
unfolding number_of
loop-b-init c = let a = c.args in (rw (sym c.is_empty.ensures ∙ c.if-is_empty.false), omega arith)

pub returns-in_err-digit : goal.returns-in_err-digit
returns-in_err-digit c =
    let a = c.args in
    let l = c.loop-b in
    c.from_residual.ensures
    ∙ sym (l.invariant.0 ∙ more_bad (base_number a.base) a.limit l.value a.word.now l.b-index (omega arith) (omega (arith, base_most a.base, told_none (get_or a.word.now l.b-index 0) c.in_err-digit.ensures)))

pub returns-then-number-digit : goal.returns-then-number-digit
returns-then-number-digit c =
    let a = c.args in
    let l = c.loop-b in
    let digit = told_digit (get_or a.word.now l.b-index 0) c.in_ok-digit.digit c.in_ok-digit.ensures in
    sym (l.invariant.0 ∙ more_bad (base_number a.base) a.limit l.value a.word.now l.b-index (omega arith) (omega (arith, c.number-number.ensures)))

pub returns-in_err-checked_mul : goal.returns-in_err-checked_mul
returns-in_err-checked_mul c =
    let a = c.args in
    let l = c.loop-b in
    let large = rw c.number-number.ensures at c.in_err-checked_mul.ensures in
    c.from_residual-in_err-checked_mul.ensures
    ∙ sym (l.invariant.0 ∙ more_big (base_number a.base) a.limit l.value a.word.now l.b-index (base_some a.base) (omega arith) (omega arith))

pub returns-in_err-value : goal.returns-in_err-value
returns-in_err-value c =
    let a = c.args in
    let l = c.loop-b in
    let digit = told_digit (get_or a.word.now l.b-index 0) c.in_ok-digit.digit c.in_ok-digit.ensures in
    let times = rw c.number-number.ensures at c.in_ok-checked_mul.ensures in
    let large = c.in_err-value.ensures in
    c.from_residual-in_err-value.ensures
    ∙ sym (l.invariant.0 ∙ more_big (base_number a.base) a.limit l.value a.word.now l.b-index (base_some a.base) (omega arith) (omega arith))

pub returns-then-limit-value : goal.returns-then-limit-value
returns-then-limit-value c =
    let a = c.args in
    let l = c.loop-b in
    let digit = told_digit (get_or a.word.now l.b-index 0) c.in_ok-digit.digit c.in_ok-digit.ensures in
    let times = rw c.number-number.ensures at c.in_ok-checked_mul.ensures in
    let sum = c.in_ok-value.ensures in
    sym (l.invariant.0 ∙ more_big (base_number a.base) a.limit l.value a.word.now l.b-index (base_some a.base) (omega arith) (omega arith))

pub loop-b-preserved : goal.loop-b-preserved
loop-b-preserved c =
    let a = c.args in
    let l = c.loop-b in
    let digit = told_digit (get_or a.word.now l.b-index 0) c.in_ok-digit.digit c.in_ok-digit.ensures in
    let times = rw c.number-number.ensures at c.in_ok-checked_mul.ensures in
    let sum = c.in_ok-value.ensures in
    (l.invariant.0 ∙ more_on (base_number a.base) a.limit l.value a.word.now l.b-index (omega arith) (omega (arith, c.number-number.ensures)) ∙ ap (λ (n : ℕ). more_of (base_number a.base) a.limit n (drop (l.b-index + 1) a.word.now)) (omega arith), omega arith)

pub returns : goal.returns
returns c =
    let a = c.args in
    let l = c.loop-b in
    sym (l.invariant.0 ∙ more_end (base_number a.base) a.limit l.value a.word.now l.b-index (omega arith) l.invariant.1)
