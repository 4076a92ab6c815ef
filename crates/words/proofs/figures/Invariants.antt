-- `words::figures` meets its contract: the digits left, behind those passed, say what the whole says. The sum stays
-- within the limit.
-- Assumes nothing.
use mathlib.Core.Path.{◌≡◌}
use Prim.Native.Nat.{◌≤◌}
use lib.ListN.{drop}
use Rattle.words.specs.Figures.{base_number, number_of, more_of}
use Rattle.words.proofs.figures.Given as goal

abbrev pub invariant-loop-b : goal.invariant-loop-b
invariant-loop-b l = (number_of (base_number l.fn.base) l.limit l.word ≡ more_of (base_number l.fn.base) l.limit l.value (drop l.b-index l.word)) × (l.value ≤ l.limit)
