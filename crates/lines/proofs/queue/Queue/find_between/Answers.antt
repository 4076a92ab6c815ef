-- `lines::Queue::find_between`: the library's search is the first place. Assumes nothing.
use mathlib.Core.Path.{◌∙◌}
use native.Mathlib.Omega.{arith}
use lib.ListN.{take}
use Prim.Native.Nat.{◌<◌}
use Rattle.rules.specs.Numbers.{base_slots}
use Rattle.std.proofs.Common.{rules, tests}
use Rattle.std.proofs.lemmas.Grind.{get_or_default_zero}
use Rattle.std.proofs.lemmas.Iterator.{YieldsList-from_slice}
use Rattle.std.proofs.lemmas.Iterator.Adapters.{serves_from_places}
use Rattle.std.proofs.lemmas.Iterator.Search.{position_from_yields_List}
use Rattle.lines.specs.Lines.{in_lines}
use Rattle.lines.proofs.Turns.{position_first}
use Rattle.lines.proofs.queue.Queue.find_between.Goals as goal

pub position-requires-clause-callable : goal.position-requires-clause-callable
position-requires-clause-callable c =
    serves_from_places (YieldsList-from_slice (take c.args.self.now.count c.args.self.now.slots) cc) (λ x q r. search (rules, tests)) (λ x k b e. let s : x.now < base_slots = omega (arith, e, get_or_default_zero (take c.args.self.now.count c.args.self.now.slots) k x.now b, c.requires.1 k b) in search rules)

pub returns : goal.returns
returns c =
    let a = c.args in
    position_from_yields_List (in_lines a.lines.now a.low a.high) _ _ c.position.result c.position.ensures.ran (YieldsList-from_slice (take a.self.now.count a.self.now.slots) cc) (λ x b q k. search (rules, tests))
    ∙ position_first (in_lines a.lines.now a.low a.high) (take a.self.now.count a.self.now.slots)
