use Rattle.std.proofs.Common.{◌+◌, ◌-◌, take, drop, arith, sym, ap, ◌∙◌, subst}
use Rattle.std.specs.Io.KnownBytes.{Appends}
use Rattle.std.proofs.KnownBytes.{Keeps-refl, Appends-nil, Appends-kept, Appends-trans}
use Rattle.words.specs.Texts.{nth}
use Rattle.words.specs.Complaints.{complaint}
use Rattle.pager_asks.specs.Asks.{ask_of}
use Rattle.run_pager.proofs.Finding.{begins, ends, one_good, moved, found}
use Rattle.run_pager.specs.Told.{expected_text}
use Rattle.run_pager.proofs.all_good.Goals as goal

pub loop-at-init : goal.loop-at-init
loop-at-init g c = record { few = omega arith; within = omega arith; finding = begins c.args.text.now; quiet = Keeps-refl _ }

pub loop-at-preserved : goal.loop-at-preserved
loop-at-preserved g c =
    let text = c.args.text.now in
    let loop = c.loop-at in
    let line = c.line_in-line in
    let asked = c.asked_by-ask.ensures ∙ ap (λ x. ask_of (take (x.end - loop.at) (drop loop.at text))) line.ensures.place in
    record {
      few = omega (arith, loop.invariant.few, line.ensures.within.2);
      within = line.ensures.within.3;
      finding = moved text loop.at loop.number c.loop-at-test.true asked (one_good text loop.at loop.number c.loop-at-test.true _ c.in_default.not-Err) (ap (λ x. x.next) line.ensures.place) loop.invariant.finding;
      quiet = loop.invariant.quiet;
    }

pub returns-in-Err-clause-good : goal.returns-in-Err-clause-good
returns-in-Err-clause-good g c =
    let text = c.args.text.now in
    let loop = c.loop-at in
    let asked = c.asked_by-ask.ensures ∙ ap (λ x. ask_of (take (x.end - loop.at) (drop loop.at text))) c.line_in-line.ensures.place in
    sym (found text loop.at loop.number c.loop-at-test.true asked c.in-Err.is loop.invariant.finding).0

pub returns-in-Err-clause-told : goal.returns-in-Err-clause-told
returns-in-Err-clause-told g c =
    let text = c.args.text.now in
    let loop = c.loop-at in
    let place = c.line_in-line.ensures.place in
    let asked = c.asked_by-ask.ensures ∙ ap (λ x. ask_of (take (x.end - loop.at) (drop loop.at text))) place in
    let told = (found text loop.at loop.number c.loop-at-test.true asked c.in-Err.is loop.invariant.finding).1 in
    let line = ap (λ x. complaint (loop.number + 1) (nth (take (x.end - loop.at) (drop loop.at text)) c.in-Err.bad.word) (expected_text c.in-Err.bad.expected)) place in
    let quiet = Appends-kept _ _ _ _ (Appends-nil (g.E.Write.contents c.args.err.now)) loop.invariant.quiet in
    subst (Appends (g.E.Write.contents c.args.err.now) (g.E.Write.contents c.tell.new.err)) (line ∙ sym told)
    (Appends-trans _ _ _ _ _ quiet c.in_ok-tell.ensures)

pub returns-clause-good : goal.returns-clause-good
returns-clause-good g c = sym (ends c.args.text.now c.loop-at.at c.loop-at.number c.loop-at-test.false c.loop-at.invariant.finding).0

pub returns-clause-quiet : goal.returns-clause-quiet
returns-clause-quiet g c e = c.loop-at.invariant.quiet

pub returns-clause-told : goal.returns-clause-told
returns-clause-told g c =
    let none = (ends c.args.text.now c.loop-at.at c.loop-at.number c.loop-at-test.false c.loop-at.invariant.finding).1 in
    subst (Appends (g.E.Write.contents c.args.err.now) (g.E.Write.contents c.loop-at.err)) (sym none)
    (Appends-kept _ _ _ _ (Appends-nil (g.E.Write.contents c.args.err.now)) c.loop-at.invariant.quiet)
