use Rattle.std.proofs.Common.{Ok, ap, sym, ◌∙◌, subst}
use Rattle.std.specs.Io.KnownBytes.{Appends}
use Rattle.sleeping.specs.Promised.{view}
use Rattle.run_sleep.proofs.Telling.{said_bytes}
use Rattle.run_sleep.proofs.turn.Goals as goal

pub returns-clause-bytes : goal.returns-clause-bytes
returns-clause-bytes g c =
    let a = c.args in
    let k = c.in-Ok-Some.is in
    subst (Appends (g.W.Write.contents a.out.now) (g.W.Write.contents c.say.new.out))
    (said_bytes a.parsed c.in-Ok-Some.operation (view a.sleepers) a.number c.step-done.result.answer (k ∙ ap Ok (rw k at c.in-Ok-Some.field-0-is)) (sym c.is_gap.ensures ∙ c.if-is_gap.false) c.step-done.ensures.said)
    c.in_ok-say.ensures
