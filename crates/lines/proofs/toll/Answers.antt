-- `lines::toll`: so far the slots below s are summed. Assumes nothing.
use Rattle.std.specs.Prelude.{if◌then◌else◌}
use mathlib.Core.Path.{sym}
use Prim.Native.Nat.{ℕ, ◌+◌}
use native.Mathlib.Omega.{arith}
use Rattle.rules.specs.Numbers.{base_slots}
use Rattle.lines.specs.Lines.{entry, marked}
use Rattle.lines.proofs.Occ.{tally_none, tally_hit, tally_miss, tally_part}
use Rattle.lines.proofs.toll.Goals.{else-mark, then-mark}
use Rattle.lines.proofs.toll.Goals as goal

pub loop-s-init : goal.loop-s-init
loop-s-init c =
    let share : ℕ → ℕ = λ x. if marked c.args.marks.now x then entry c.args.weights.now x else 0 in
    sym (tally_none share)

pub overflow_add-sum : goal.overflow_add-sum
overflow_add-sum c =
    let share : ℕ → ℕ = λ x. if marked c.args.marks.now x then entry c.args.weights.now x else 0 in
    let a = c.args in
    omega (
      arith,
      c.loop-s.invariant,
      c.requires,
      tally_hit (entry a.weights.now) a.marks.now c.loop-s.s c.if-mark.true,
      tally_part share (c.loop-s.s + 1) base_slots (omega (arith, c.loop-s-test.true)),
    )

pub loop-s-preserved : goal.loop-s-preserved
loop-s-preserved c =
    let a = c.args in
    elim c.if-mark.branch [
      | then-mark w ↦ omega (arith, w.sum-is, c.loop-s.invariant, tally_hit (entry a.weights.now) a.marks.now c.loop-s.s w.if-mark.true)
      | else-mark w ↦ omega (arith, w.sum-is, c.loop-s.invariant, tally_miss (entry a.weights.now) a.marks.now c.loop-s.s w.if-mark.false)
    ]
