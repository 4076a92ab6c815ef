use Rattle.words.proofs.Places.{end_place, end_within, next_further}
use Rattle.words.proofs.line_in.Goals as goal

pub returns-clause-within : goal.returns-clause-within
returns-clause-within c =
    let text = c.args.text.now in
    let at = c.args.at in
    let next = next_further text at c.requires in
    rw c.line_at.ensures (end_place text at c.requires, end_within text at c.requires, next.0, next.1)
