use Rattle.std.proofs.Common.{arith, sym}
use Rattle.pages.proofs.Ruled.{free_within}
use Rattle.paging.proofs.wanted.Goals as goal

pub overflow_cast-f : goal.overflow_cast-f
overflow_cast-f c =
    let z = free_within c.args.p c.requires.0 c.in-Some.f (sym c.in-Some.ensures) in
    omega arith
