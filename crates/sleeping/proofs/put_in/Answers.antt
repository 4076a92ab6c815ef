-- `sleeping::put_in` meets its contract: those behind have moved back, and the new row stands before them.
-- Assumes nothing.
use Rattle.std.proofs.Common.{rules, ◌≡◌, length, arith, refl}
use Rattle.sleeping.proofs.Arrays.{put_is}
use Rattle.sleeping.proofs.put_in.Goals as goal

pub returns : goal.returns
returns c =
    let m = c.args.sleepers in
    let long : length m.rows ≡ 8 = search rules in
    rw (c.copy_within.ensures.after, put_is m.rows m.count c.args.at c.args.x (omega arith) (omega arith)) refl
