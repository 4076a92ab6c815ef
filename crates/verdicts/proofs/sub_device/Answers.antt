-- `sub_device`: lines 3 to 6, then transmission, then receipt. Assumes nothing.
use native.Mathlib.Omega.{arith}
use Rattle.verdicts.proofs.Tests.{line_known, device_pending, device_sends, device_receives}
use borrow.Author.Rules.{rules}
use Rattle.verdicts.proofs.sub_device.Goals as goal

pub returns-then-line-lt7 : goal.returns-then-line-lt7
returns-then-line-lt7 c =
    device_pending c.args.line c.args.first c.args.second c.lowest_bit-x.result c.lowest_bit-x.ensures (search rules) (search rules)

pub returns-then-x-y : goal.returns-then-x-y
returns-then-x-y c =
    let a = c.args in
    device_sends a.line a.first a.second c.lowest_bit-x.result c.lowest_bit-x.ensures c.lowest_bit-y.result c.lowest_bit-y.ensures (omega (arith, line_known a.line a.first a.second c.requires.1)) (search rules)

pub returns : goal.returns
returns c =
    let a = c.args in
    device_receives a.line a.first a.second c.lowest_bit-x.result c.lowest_bit-x.ensures c.lowest_bit-y.result c.lowest_bit-y.ensures (omega (arith, line_known a.line a.first a.second c.requires.1)) (search rules)
