-- `identity` meets its contract.
use Rattle.calls.proofs.Telling.{own_id, parent_id}
use Rattle.calls.proofs.identity.Goals as goal

pub returns-then-a1-eq0 : goal.returns-then-a1-eq0
returns-then-a1-eq0 c =
    rw (own_id c.args.t c.args.a1 c.if-a1-eq0.true) (rw c.says-result.ensures at c.replies.ensures)

pub returns : goal.returns
returns c =
    rw (parent_id c.args.t c.args.a1 c.if-a1-eq0.false)
    (rw (c.says-result-2.ensures, c.parent_of-id.ensures) at c.replies-2.ensures)
