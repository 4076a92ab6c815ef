-- `parent_of` meets its contract: who is in the parent's slot is the first ancestor.
use mathlib.Core.Path.{sym, ap}
use mathlib.Core.List.{List}
use Prim.Native.Nat.{ℕ}
use Rattle.rules.specs.Words.{first}
use Rattle.kin.proofs.Climbs.{elders_top, elders_up}
use Rattle.kin.proofs.parent_of.Goals as goal

pub returns-in_default : goal.returns-in_default
returns-in_default c =
    sym (ap (λ (l : List ℕ). first l 0 (λ n. n)) (elders_top c.args.parents.now c.args.ids.now c.requires.3 c.args.slot c.requires.2 c.in_default.is))

pub bounds-ids-p : goal.bounds-ids-p
bounds-ids-p c = (c.requires.3 c.args.slot _ c.requires.2 c.in-Some.is).slot

pub returns : goal.returns
returns c =
    sym (ap (λ (l : List ℕ). first l 0 (λ n. n)) (elders_up c.args.parents.now c.args.ids.now c.requires.3 c.args.slot _ c.requires.2 c.in-Some.is))
