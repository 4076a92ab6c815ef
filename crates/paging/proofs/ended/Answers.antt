use Rattle.std.proofs.Common.{refl, ◌∙◌}
use Rattle.pages.specs.Rules.{ends}
use Rattle.paging.proofs.ended.Goals as goal

pub returns : goal.returns
unfolding ends
returns c = c.answered.ensures ∙ rw (c.frames_of-m.ensures, c.freed_rows-next.ensures) refl
