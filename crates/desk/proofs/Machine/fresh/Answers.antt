-- `Machine::fresh`: a start is taken or refused. Assumes nothing.
use Rattle.std.specs.Prelude.{◌≡◌, None}
use Rattle.std.proofs.Common.{sym, ◌∙◌, rules}
use Rattle.starts.specs.Verdict.{verdict}
use Rattle.starts.proofs.Words.{refused_as, not_refused}
use Rattle.desk.proofs.Begins.{start_some, start_few, start_taken, start_refused}
use Rattle.desk.proofs.Machine.fresh.Goals as goal

pub returns-in-Err : goal.returns-in-Err
returns-in-Err c =
    let s = c.args.start in
    start_refused s.clock s.values s.ceilings s.processors (search rules) (search rules) c.left.result c.in-Err.refusal
    (refused_as tt (verdict s) (sym c.check.ensures ∙ c.in-Err.is)) c.left.ensures.0 c.left.ensures.1

pub begun-begun-requires : goal.begun-begun-requires
begun-begun-requires c =
    let s = c.args.start in
    let ok : verdict s ≡ None = not_refused tt (verdict s) (sym c.check.ensures ∙ c.in_default.is) in
    (start_some s.processors s.values s.ceilings ok, start_few s.processors s.values s.ceilings ok)

pub returns : goal.returns
returns c =
    let s = c.args.start in
    let ok : verdict s ≡ None = not_refused tt (verdict s) (sym c.check.ensures ∙ c.in_default.is) in
    start_taken s.clock s.values s.ceilings s.processors (search rules) (search rules) c.begun-begun.result c.turn.result ok c.begun-begun.ensures.0 c.turn.ensures
