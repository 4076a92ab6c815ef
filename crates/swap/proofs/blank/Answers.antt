use mathlib.Core.Path.{refl}
use Rattle.swap.specs.Sheets.{fill}
use Rattle.swap.proofs.blank.Goals as goal

pub returns : goal.returns
unfolding fill
returns c = refl
