-- `sleep_text::put_numbers` meets its contract: the first numbers are put.
-- Assumes nothing.
use mathlib.Core.Path.{refl, ap, ◌∙◌}
use mathlib.Core.List.{◌∷◌}
use Prim.Native.Nat.{◌+◌}
use native.Mathlib.Omega.{arith}
use lib.ListN.{length, take, get_or, length-append}
use lib.Seq.{length-sets, take_all}
use Rattle.report.specs.Text.{space, decimal}
use Rattle.report.proofs.Laws.{puts_then}
use Rattle.sleep_text.specs.Answers.{spelt}
use Rattle.sleep_text.proofs.Spelling.{spelt_none, spelt_more, spelt_grows}
use Rattle.sleep_text.proofs.put_numbers.Goals as goal

pub loop-number-init : goal.loop-number-init
loop-number-init c = (rw spelt_none (record { bytes = refl; place = omega arith }), refl)

pub add_number-next-requires : goal.add_number-next-requires
add_number-next-requires c =
    let ns = c.args.numbers.now in
    let l = c.loop-number in
    let i = l.number-index in
    rw c.from.ensures
    (omega (arith, l.invariant.0.place, l.invariant.1, ap length (spelt_more ns i (omega arith)), length-append (spelt (take i ns)) (space ∷ decimal (get_or ns i 0)), spelt_grows ns (i + 1) (length ns) (omega arith) (omega arith), ap (λ s. length (spelt s)) (take_all (length ns) ns (omega arith))))

pub loop-number-preserved : goal.loop-number-preserved
loop-number-preserved c =
    let ns = c.args.numbers.now in
    let l = c.loop-number in
    let i = l.number-index in
    let puts = rw c.from.ensures at c.add_number-next.ensures in (
      rw (spelt_more ns i (omega arith)) (puts_then l.invariant.0 puts),
      ap length puts.bytes ∙ length-sets l.out l.next (space ∷ decimal (get_or ns i 0)) ∙ l.invariant.1,
    )

pub returns : goal.returns
returns c =
    let ns = c.args.numbers.now in
    let l = c.loop-number in
    rw (take_all l.number-index ns (omega arith)) at l.invariant.0
