-- `place_of`: who runs, and on which processor; who does not is in a line or nowhere. Assumes nothing.
use Rattle.std.specs.Prelude.{Some}
use mathlib.Core.Path.{◌≡◌, sym, ◌∙◌}
use Prim.Native.Nat.{◌<◌}
use native.Mathlib.Omega.{arith}
use Rattle.rules.specs.Numbers.{most_processors}
use Rattle.lines.specs.Lines.{first_where}
use Rattle.seats.specs.Seats.{sits_in}
use Rattle.lines.proofs.Laws.{first_in}
use Rattle.looks.proofs.Looking.{place_running}
use Rattle.looks.proofs.place_of.Goals as goal

pub overflow_cast-result : goal.overflow_cast-result
overflow_cast-result c =
    let found : first_where (sits_in c.args.slot) 0 c.args.t.runners ≡ Some c.in-Some.k = sym c.runs_on.ensures ∙ c.in-Some.is in
    let few : c.in-Some.k < most_processors = omega (arith, first_in (sits_in c.args.slot) c.args.t.runners 0 c.in-Some.k found, c.requires.0.shape.runners_long) in
    omega (arith, few)

pub returns-in-Some : goal.returns-in-Some
returns-in-Some c =
    let found : first_where (sits_in c.args.slot) 0 c.args.t.runners ≡ Some c.in-Some.k = sym c.runs_on.ensures ∙ c.in-Some.is in
    sym (place_running c.args.t c.requires.0.shape c.args.slot c.in-Some.k found)
