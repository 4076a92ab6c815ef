use Rattle.std.proofs.Common.{◌∙◌}
use Rattle.std.proofs.lemmas.Result.{err_from_is_err_and}
use Rattle.pages.specs.Rules.{step, refill, fault, ends}
use Rattle.paging.proofs.Refusals.{stops, goes_on}
use Rattle.paging.proofs.served.Goals as goal

pub returns-in_err-in_turn-in-Refill : goal.returns-in_err-in_turn-in-Refill
unfolding step
returns-in_err-in_turn-in-Refill c =
    let e = err_from_is_err_and c.from_residual.result c.from_residual.ensures.1 in
    let a = c.in-Refill in
    rw (e.1, e.2, a.is) (stops a.u c.args.p (refill a.u a.page c.args.p) _ c.in_err-in_turn-in-Refill.ensures)

pub returns-in_err-in_turn-in-Fault : goal.returns-in_err-in_turn-in-Fault
unfolding step
returns-in_err-in_turn-in-Fault c =
    let r = c.from_residual-in_err-in_turn-in-Fault in
    let e = err_from_is_err_and r.result r.ensures.1 in
    let a = c.in-Fault in
    rw (e.1, e.2, a.is) (stops a.u c.args.p (fault a.u a.page a.c c.args.p) _ c.in_err-in_turn-in-Fault.ensures)

pub returns-in_err-in_turn-in-End : goal.returns-in_err-in_turn-in-End
unfolding step
returns-in_err-in_turn-in-End c =
    let r = c.from_residual-in_err-in_turn-in-End in
    let e = err_from_is_err_and r.result r.ensures.1 in
    let a = c.in-End in
    rw (e.1, e.2, a.is) (stops a.u c.args.p (ends a.u c.args.p) _ c.in_err-in_turn-in-End.ensures)

pub returns-in_ok-in_turn-in-Refill : goal.returns-in_ok-in_turn-in-Refill
unfolding step
returns-in_ok-in_turn-in-Refill c =
    let a = c.in-Refill in
    let n = c.in_ok-in_turn-in-Refill.ensures in
    c.refilled.ensures ∙ rw (a.is, n.0) (goes_on a.u c.args.p (refill a.u a.page c.args.p) n.1)

pub returns-in_ok-in_turn-in-Fault : goal.returns-in_ok-in_turn-in-Fault
unfolding step
returns-in_ok-in_turn-in-Fault c =
    let a = c.in-Fault in
    let n = c.in_ok-in_turn-in-Fault.ensures in
    c.faulted.ensures ∙ rw (a.is, n.0) (goes_on a.u c.args.p (fault a.u a.page a.c c.args.p) n.1)

pub returns-in_ok-in_turn-in-End : goal.returns-in_ok-in_turn-in-End
unfolding step
returns-in_ok-in_turn-in-End c =
    let a = c.in-End in
    let n = c.in_ok-in_turn-in-End.ensures in
    c.ended.ensures ∙ rw (a.is, n.0) (goes_on a.u c.args.p (ends a.u c.args.p) n.1)

pub returns-in-Report : goal.returns-in-Report
unfolding step
returns-in-Report c = rw c.in-Report.is c.reported.ensures
