use Rattle.std.proofs.Common.{◌+◌, ◌-◌, [], ◌++◌, take, drop, arith, ap, ◌∙◌, subst}
use Rattle.std.specs.Io.KnownBytes.{Appends}
use Rattle.std.proofs.KnownBytes.{Appends-nil, Appends-trans}
use Rattle.pager_asks.specs.Asks.{ask_of}
use Rattle.pager_asks.proofs.Lengths.{sized}
use Rattle.run_pager.specs.Acts.{asks}
use Rattle.run_pager.specs.Said.{answer_text}
use Rattle.run_pager.proofs.Acts.{fresh_stands, asks_sized}
use Rattle.run_pager.proofs.Telling.{begins, ends, moved}
use Rattle.run_pager.proofs.run.Goals as goal

pub loop-at-init : goal.loop-at-init
loop-at-init g c =
    rw (c.fresh-t.ensures, c.fresh-k.ensures) (record {
      standing = fresh_stands;
      few = omega arith;
      within = omega arith;
      told = ([], Appends-nil _, begins c.args.text.now);
    })

pub act-done-requires : goal.act-done-requires
act-done-requires g c = (c.loop-at.invariant.standing, rw c.ask_in-ask.ensures (asks_sized _ (sized _)))

pub loop-at-preserved : goal.loop-at-preserved
loop-at-preserved g c =
    let text = c.args.text.now in
    let loop = c.loop-at in
    let line = c.line_in-line in
    let told = loop.invariant.told in
    let done = c.act-done in
    let asked = c.ask_in-ask.ensures ∙ ap (λ x. asks (ask_of (take (x.end - loop.at) (drop loop.at text)))) line.ensures.place in
    record {
      standing = done.ensures.1;
      few = omega (arith, c.more-number.ensures.most, loop.invariant.few, line.ensures.within.2);
      within = line.ensures.within.3;
      told = (
        told.0 ++ answer_text (loop.number + c.more-number.result) done.result.answer,
        Appends-trans _ _ _ _ _ told.1 c.in_ok-told.ensures,
        rw c.more-number.ensures.value (moved text loop.at loop.t loop.k loop.number told.0 c.loop-at-test.true asked done.ensures.0 (ap (λ x. x.next) line.ensures.place) told.2),
      );
    }

pub returns : goal.returns
returns g c =
    let loop = c.loop-at in
    let told = loop.invariant.told in
    subst (Appends (g.W.Write.contents c.args.out.now) (g.W.Write.contents loop.out))
    (ends c.args.text.now loop.at loop.t loop.k loop.number told.0 c.loop-at-test.false told.2)
    told.1
