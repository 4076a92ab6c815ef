-- `at_hand`: refused by the first row that applies, or what an accepted event does. Assumes nothing.
use Rattle.std.proofs.Common.{◌≡◌, ◌&&◌, leb, None, sym, ap, ◌∙◌, subst}
use Rattle.rules.specs.Numbers.{base_slots, base_sems, base_customers}
use Rattle.rules.specs.Machine.{charge}
use Rattle.rules.specs.Tables.{Sound}
use Rattle.rules.proofs.Sound.{sound_charged}
use Rattle.rules.proofs.Tables.{sound}
use Rattle.rules.specs.Rules.{needs_runner, refusal}
use Rattle.tables.specs.View.{view}
use Rattle.starts.proofs.Words.{refused_as, not_refused}
use Rattle.events.proofs.Eventful.{passes, says_no, says_yes}
use Rattle.events.proofs.at_hand.Goals as goal

pub returns-in-Err : goal.returns-in-Err
returns-in-Err c =
    says_no c.args.t c.requires c.args.e c.refused.result c.in-Err.why
    (refused_as tt (refusal (view c.args.t) c.args.e) (sym c.verdict.ensures ∙ c.in-Err.is)) c.refused.ensures.0 c.refused.ensures.1

pub charge-m-requires : goal.charge-m-requires
charge-m-requires c =
    let ok : refusal (view c.args.t) c.args.e ≡ None = not_refused tt (refusal (view c.args.t) c.args.e) (sym c.verdict.ensures ∙ c.in_default.is) in
    (c.requires.shape, rw c.clock_of.ensures (passes c.args.t c.args.e ok).1)

pub perform-requires : goal.perform-requires
perform-requires c =
    let m = c.args.t in
    let e = c.args.e in
    let ok : refusal (view m) e ≡ None = not_refused tt (refusal (view m) e) (sym c.verdict.ensures ∙ c.in_default.is) in
    let passed = passes m e ok in (
      c.charge-m.ensures.0.shape,
      passed.0,
      ap (λ r. needs_runner e && leb base_slots r) c.charge-m.ensures.1 ∙ passed.2,
      subst Sound (sym c.charge-m.ensures.0.seen) (sound_charged c.clock_of.result (view m) (sound base_slots base_sems base_customers m.processors (view m) c.requires.tables)),
    )

pub returns : goal.returns
returns c =
    let m = c.args.t in
    let ok : refusal (view m) c.args.e ≡ None = not_refused tt (refusal (view m) c.args.e) (sym c.verdict.ensures ∙ c.in_default.is) in
    says_yes m c.requires c.args.e c.perform.result c.charge-m.result ok
    (c.charge-m.ensures.0.seen ∙ ap (λ now. charge now (view m)) c.clock_of.ensures)
    c.perform.ensures
