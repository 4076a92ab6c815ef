-- `words::signed_word` meets its contract.
-- Assumes nothing.
use mathlib.Core.Path.{refl, ◌∙◌}
use native.Mathlib.Omega.{arith}
use lib.ListN.{length, get_or}
use borrow.Author.Tests.{lt-ltb, le-ltb, ne_eqb, ltb-true, ltb-false}
use Rattle.std.specs.declared.option.Option.TheVariants.{Some, None}
use Rattle.report.specs.Text.{minus}
use Rattle.words.specs.Figures.{signed_word_of}
use Rattle.words.proofs.Limits.{signed_not, signed_size, signed_number}
use Rattle.words.proofs.signed_word.Goals.{in_default-via-then-word-lt1, in_default-via-else-word-lt1+in_default-1}
use Rattle.words.proofs.signed_word.Goals as goal

pub returns-in_default : goal.returns-in_default
unfolding signed_word_of
returns-in_default c =
    let w = c.args.word.now in
    elim c.in_default.branch [
      | in_default-via-then-word-lt1 b ↦ rw (le-ltb 0 (length w) (omega (arith, ltb-true))) c.decimal-in_default.ensures
      | in_default-via-else-word-lt1+in_default-1 b ↦ rw (lt-ltb 0 (length w) (omega (arith, ltb-false)), ne_eqb (get_or w 0 0) minus (omega (arith, ltb-false))) c.decimal-in_default.ensures
    ]

pub returns-in_err-size-in-45 : goal.returns-in_err-size-in-45
returns-in_err-size-in-45 c =
    let w = c.args.word.now in
    c.from_residual.ensures ∙ signed_not w (omega arith) (omega arith) None c.in_err-size-in-45.ensures refl

pub overflow_sub-result : goal.overflow_sub-result
overflow_sub-result c =
    let w = c.args.word.now in
    let size = c.in_ok-size-in-45.size in
    omega (arith, signed_size w (omega arith) (omega arith) (Some size) c.in_ok-size-in-45.ensures size refl)

pub returns-in_ok-size-in-45 : goal.returns-in_ok-size-in-45
returns-in_ok-size-in-45 c =
    let w = c.args.word.now in
    let size = c.in_ok-size-in-45.size in
    signed_number w (omega arith) (omega arith) (Some size) c.in_ok-size-in-45.ensures size refl
