-- `words::digit_value` meets its contract, range by range.
-- Assumes nothing.
use Prim.Native.Nat.{◌+◌}
use native.Mathlib.Omega.{arith}
use Rattle.words.proofs.Sums.{below_digits, ten_digits, below_large, large_digits, below_small, small_digits, above_digits, digit_told, none_told}
use Rattle.words.proofs.digit_value.Goals as goal

pub returns-in-48-to-57 : goal.returns-in-48-to-57
returns-in-48-to-57 c = digit_told c.args.b c.from.result (omega (arith, ten_digits c.args.b (omega arith) (omega arith))) (omega arith)

pub returns-in-65-to-70 : goal.returns-in-65-to-70
returns-in-65-to-70 c = digit_told c.args.b (c.from-in-65-to-70.result + 10) (omega (arith, large_digits c.args.b (omega arith) (omega arith))) (omega arith)

pub returns-in-97-to-102 : goal.returns-in-97-to-102
returns-in-97-to-102 c = digit_told c.args.b (c.from-in-97-to-102.result + 10) (omega (arith, small_digits c.args.b (omega arith) (omega arith))) (omega arith)

pub returns-in_default : goal.returns-in_default
returns-in_default c = none_told c.args.b _ (below_digits c.args.b (omega arith)) (omega arith)

pub returns-in_default-2 : goal.returns-in_default-2
returns-in_default-2 c = none_told c.args.b _ (below_large c.args.b (omega arith) (omega arith)) (omega arith)

pub returns-in_default-3 : goal.returns-in_default-3
returns-in_default-3 c = none_told c.args.b _ (below_small c.args.b (omega arith) (omega arith)) (omega arith)

pub returns-in_default-4 : goal.returns-in_default-4
returns-in_default-4 c = none_told c.args.b _ (above_digits c.args.b (omega arith)) (omega arith)
