-- `left`: the least start, and its id 1 ends at once. Assumes nothing.
use Rattle.events.proofs.Ends.{least_holds, least_ended}
use Rattle.events.proofs.left.Goals as goal

pub at_hand-done-requires : goal.at_hand-done-requires
at_hand-done-requires c = least_holds c.begun-t.result c.begun-t.ensures.0 c.begun-t.ensures.1

pub returns : goal.returns
returns c =
    let begun = c.begun-t in
    let done = c.at_hand-done in
    least_ended begun.result begun.ensures.0 begun.ensures.1 done.result done.ensures c.turn.result c.turn.ensures
