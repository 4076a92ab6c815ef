use Rattle.std.proofs.Common.{◌-◌, [], ◌++◌, take, drop, arith, ap, ◌∙◌, subst}
use Rattle.std.specs.Io.KnownBytes.{Appends}
use Rattle.std.proofs.KnownBytes.{Appends-nil, Appends-trans}
use Rattle.sleeping.specs.Promised.{view}
use Rattle.sleep_text.specs.Lines.{parsed}
use Rattle.run_sleep.specs.Said.{line_said}
use Rattle.run_sleep.proofs.Telling.{begins, ends, moved}
use Rattle.run_sleep.proofs.answer.Goals as goal

pub loop-at-init : goal.loop-at-init
loop-at-init g c = record {
  good = c.fresh-sleepers.ensures.0;
  few = omega arith;
  within = omega arith;
  told = ([], Appends-nil _, rw c.fresh-sleepers.ensures.1 (begins c.args.text.now));
}

pub loop-at-preserved : goal.loop-at-preserved
loop-at-preserved g c =
    let text = c.args.text.now in
    let loop = c.loop-at in
    let line = c.line_in-line in
    let told = loop.invariant.told in
    let after = c.in_ok-going.ensures.after in
    let said = line_said c.parse-parsed.result (view loop.sleepers) loop.number in
    let parse = c.parse-parsed.ensures ∙ ap (λ x. parsed (take (x.end - loop.at) (drop loop.at text))) line.ensures.place in
    record {
      good = c.in_ok-going.ensures.good.0;
      few = omega (arith, c.in_ok-going.ensures.good.1, loop.invariant.few, line.ensures.within.2);
      within = line.ensures.within.3;
      told = (
        told.0 ++ said.bytes,
        Appends-trans _ _ _ _ _ told.1 c.in_ok-going.ensures.bytes,
        moved text loop.at (view loop.sleepers) loop.number told.0 c.loop-at-test.true parse (ap (λ x. x.next) line.ensures.place) after.0 after.1 told.2,
      );
    }

pub returns : goal.returns
returns g c =
    let loop = c.loop-at in
    let told = loop.invariant.told in
    subst (Appends (g.W.Write.contents c.args.out.now) (g.W.Write.contents loop.out))
    (ends c.args.text.now loop.at (view loop.sleepers) loop.number told.0 c.loop-at-test.false told.2)
    told.1
