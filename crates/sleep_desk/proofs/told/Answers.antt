-- `told`: nothing of a refused event; else its gap, and then what it asks. Assumes nothing.
use Rattle.std.proofs.Common.{true≢false, sym, ap, ◌∙◌}
use Rattle.std.specs.Option.{is_some}
use Rattle.events.specs.Promised.{at_processor}
use Rattle.sleeps.specs.Rules.{Outcome}
use Rattle.sleeping.specs.Promised.{view}
use Rattle.sleeping.proofs.Steps.{comes_by}
use Rattle.sleep_desk.specs.Rules.{asked, quiet, through}
use Rattle.sleep_desk.proofs.Steps.{no_some, outcome_of, refused_tells, accepted_tells}
use Rattle.sleep_desk.proofs.told.Goals as goal

pub returns-then-is_some : goal.returns-then-is_some
returns-then-is_some c =
    let s = c.args in
    comes_by (refused_tells (quiet (view s.sleepers)) s.number s.gap (at_processor s.processor s.e) s.answer (λ e. true≢false (sym c.if-is_some.true ∙ c.is_some.ensures ∙ ap is_some e))) c.answered.ensures

pub returns : goal.returns
returns c =
    let s = c.args in
    comes_by
    (accepted_tells (quiet (view s.sleepers)) s.number s.gap (at_processor s.processor s.e) s.answer (no_some s.answer.refusal (sym c.is_some.ensures ∙ c.if-is_some.false))
    ∙ ap (λ (o : Outcome). through (asked s.number s.e s.answer.action) o) (sym (outcome_of c.timed-turn.ensures)))
    c.asked.ensures
