-- `lines::living_of`: so far the members in the slots below s are counted. Assumes nothing.
use mathlib.Core.Path.{sym}
use native.Mathlib.Omega.{arith}
use borrow.Author.Tests.{eq-eqb, ne_eqb}
use Rattle.lines.proofs.Members.{members_none, members_free, members_hit, members_miss, members_few}
use Rattle.lines.proofs.living_of.Goals.{then-id-ne0+then-customers-s, else-id-ne0, else-id-ne0-via-then-id-ne0+else-customers-s, else-id-ne0-via-else-id-ne0}
use Rattle.lines.proofs.living_of.Goals as goal

pub loop-s-init : goal.loop-s-init
loop-s-init c = sym (members_none c.args.ids.now c.args.customers.now c.args.customer)

pub overflow_add-living : goal.overflow_add-living
overflow_add-living c =
    let a = c.args in
    omega (arith, c.loop-s.invariant, members_few a.ids.now a.customers.now a.customer c.loop-s.s)

pub loop-s-preserved : goal.loop-s-preserved
loop-s-preserved c =
    let a = c.args in
    let s = c.loop-s.s in
    elim c.if-id-ne0.branch [
      | then-id-ne0+then-customers-s w ↦ omega (arith, w.living-is, c.loop-s.invariant, members_hit a.ids.now a.customers.now a.customer s (ne_eqb _ _ w.if-id-ne0.true) (eq-eqb _ _ (sym w.if-customers-s.true)))
      | else-id-ne0 w ↦
          elim w.else-id-ne0.branch [
            | else-id-ne0-via-then-id-ne0+else-customers-s v ↦ omega (arith, w.living-is, c.loop-s.invariant, members_miss a.ids.now a.customers.now a.customer s (ne_eqb _ _ v.if-id-ne0.true) (ne_eqb _ _ (λ e. v.if-customers-s.false (sym e))))
            | else-id-ne0-via-else-id-ne0 v ↦ omega (arith, w.living-is, c.loop-s.invariant, members_free a.ids.now a.customers.now a.customer s (eq-eqb _ _ v.if-id-ne0.false))
          ]
    ]
