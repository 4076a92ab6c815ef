-- `seats::mask`: the marked make less than 2 to the number of processors.
use native.Mathlib.Omega.{arith}
use Rattle.rules.specs.Numbers.{most_processors}
use Rattle.lines.proofs.Powers.{bits_below}
use Rattle.seats.proofs.mask.Goals as goal

pub overflow_cast-result : goal.overflow_cast-result
overflow_cast-result c = record { fits = omega (arith, c.mask.ensures, bits_below c.args.marks.now most_processors) }
