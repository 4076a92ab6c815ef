-- `sleep_text::first_bad` meets its contract: what is found from here on is what is found in the whole. Each line
-- takes a byte at least.
-- Assumes nothing.
use mathlib.Core.Path.{◌≡◌}
use Prim.Native.Nat.{◌+◌, ◌-◌, ◌≤◌}
use lib.ListN.{length}
use Rattle.sleep_text.specs.Lines.{bad_from}
use Rattle.sleep_text.proofs.first_bad.Given as goal

abbrev pub invariant-loop-at : goal.invariant-loop-at
invariant-loop-at l = (bad_from (length l.text) l.text 0 1 ≡ bad_from (length l.text) l.text l.at l.number) × ((l.at ≤ length l.text) × (l.number ≤ l.at + 1))

abbrev pub decreases-loop-at : goal.decreases-loop-at
decreases-loop-at l = length l.text - l.at
