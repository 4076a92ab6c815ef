use Rattle.std.proofs.Common.{rules, ◌≡◌, length, arith, ◌∙◌}
use borrow.Author.Tests.{eq-eqb, ne_eqb}
use Rattle.pages.specs.Numbers.{frames}
use Rattle.pages.specs.Rules.{is_of}
use Rattle.pool.proofs.Ends.{one_more, none_more}
use Rattle.pool.proofs.frames_of.Goals as goal
use Rattle.pool.proofs.frames_of.Goals.{then-row-u, else-row-u}

pub overflow_add-m : goal.overflow_add-m
overflow_add-m c =
    let a = c.args in
    let sixteen : length a.rows ≡ frames = search rules in
    let l = c.loop-f in
    let z = one_more (is_of a.u) a.rows l.f l.m _ sixteen c.loop-f-test.true l.invariant (eq-eqb _ a.u c.if-row-u.true) in
    omega (arith, z.0)

pub loop-f-preserved : goal.loop-f-preserved
loop-f-preserved c =
    let a = c.args in
    let sixteen : length a.rows ≡ frames = search rules in
    let l = c.loop-f in
    elim c.if-row-u.branch [
      | then-row-u w ↦ w.m-is ∙ (one_more (is_of a.u) a.rows l.f l.m _ sixteen c.loop-f-test.true l.invariant (eq-eqb _ a.u w.if-row-u.true)).1
      | else-row-u w ↦ w.m-is ∙ none_more (is_of a.u) a.rows l.f l.m _ sixteen c.loop-f-test.true l.invariant (ne_eqb _ a.u w.if-row-u.false)
    ]
