-- `lines::Queue::remove`: those behind the place moved up. Assumes nothing.
use mathlib.Core.Path.{◌≡◌, refl, ap, ◌∙◌}
use mathlib.Core.List.{List}
use Prim.Native.Nat.{ℕ, ◌+◌, ◌-◌}
use native.Mathlib.Omega.{arith}
use lib.ListN.{set}
use Rattle.lines.specs.declared.queue.Queue.{Queue}
use Rattle.lines.proofs.Turns.{shifted, shift_more, shift_end}
use Rattle.lines.proofs.queue.Queue.remove.Goals as goal

pub loop-i-preserved : goal.loop-i-preserved
loop-i-preserved c =
    let a = c.args in
    let i = c.loop-i.i in
    let q = a.self.now.slots in
    let z : i - a.at + 1 ≡ i + 1 - a.at = omega arith in
    (rw c.loop-i.invariant.0 (shift_more q a.at (i - a.at) i (omega arith) (omega arith) ∙ ap (λ (k : ℕ). shifted q a.at k) z), c.loop-i.invariant.1, omega arith)

pub returns : goal.returns
returns c =
    let a = c.args in
    let i = c.loop-i.i in
    let q = a.self.now.slots in
    let n = a.self.now.count in
    let z : i ≡ n - 1 = omega arith in (
      refl,
      ap (λ (s : List ℕ). with_slots s (n - 1)) (rw c.loop-i.invariant.0 (ap (λ (k : ℕ). set (shifted q a.at (k - a.at)) (n - 1) 0) z ∙ shift_end q n a.at (n - 1) (omega arith) (omega arith) refl)),
    )
  where
    with_slots : List ℕ → ℕ → Queue
    with_slots s k = record { slots = s; count = k }
