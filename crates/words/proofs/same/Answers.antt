-- `words::same` meets its contract: the library compares head by head too.
use mathlib.Core.Path.{sym, ◌∙◌}
use Rattle.words.proofs.Runs.{same_is}
use Rattle.words.proofs.same.Goals as goal

pub returns : goal.returns
returns c = c.eq.ensures ∙ sym (same_is c.args.one.now c.args.other.now)
