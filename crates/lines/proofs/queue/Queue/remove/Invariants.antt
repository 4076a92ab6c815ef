-- `lines::Queue::remove`: the entries behind the place are moved up, i so far. Assumes nothing.
use mathlib.Core.Path.{◌≡◌}
use Prim.Native.Nat.{◌-◌, ◌≤◌}
use Rattle.lines.proofs.Turns.{shifted}
use Rattle.lines.proofs.queue.Queue.remove.Given as goal

abbrev pub invariant-loop-i : goal.invariant-loop-i
invariant-loop-i l = (l.self.slots ≡ shifted l.initial.self.slots l.at (l.i - l.at)) × (l.self.count ≡ l.initial.self.count) × (l.at ≤ l.i)
