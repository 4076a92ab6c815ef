-- `lines::mask`: so far the places below s are summed, and make less than 2 to the s. Assumes nothing.
use Rattle.std.specs.Prelude.{if◌then◌else◌}
use mathlib.Core.Path.{sym}
use Prim.Native.Nat.{ℕ, ◌^◌}
use native.Mathlib.Omega.{arith}
use Rattle.rules.specs.Numbers.{base_slots}
use Rattle.lines.specs.Lines.{marked}
use Rattle.lines.proofs.Occ.{tally_none, tally_hit, tally_miss}
use Rattle.lines.proofs.Powers.{bits_fit}
use Rattle.lines.proofs.mask.Goals.{else-mark, then-mark}
use Rattle.lines.proofs.mask.Goals as goal

pub loop-s-init : goal.loop-s-init
loop-s-init g c =
    let bit : ℕ → ℕ = λ x. if marked c.args.marks.now x then 2 ^ x else 0 in
    sym (tally_none bit)

pub overflow_add-sum : goal.overflow_add-sum
overflow_add-sum g c =
    omega (arith, c.loop-s.invariant, c.power-sum.ensures, bits_fit c.args.marks.now c.loop-s.s base_slots (omega (arith, c.loop-s-test.true, c.requires)))

pub loop-s-preserved : goal.loop-s-preserved
loop-s-preserved g c =
    let ds = c.args.marks.now in
    elim c.if-mark.branch [
      | then-mark w ↦ omega (arith, w.sum-is, w.power-sum.ensures, c.loop-s.invariant, tally_hit (λ x. 2 ^ x) ds c.loop-s.s w.if-mark.true)
      | else-mark w ↦ omega (arith, w.sum-is, c.loop-s.invariant, tally_miss (λ x. 2 ^ x) ds c.loop-s.s w.if-mark.false)
    ]
