use Rattle.pages.proofs.Ruled.{at_hand}
use Rattle.paging.proofs.evicting.Goals as goal

-- the row at the hand is that of a page
pub marked-next-requires : goal.marked-next-requires
marked-next-requires c = (at_hand c.args.p c.requires.0 c.requires.1).page
