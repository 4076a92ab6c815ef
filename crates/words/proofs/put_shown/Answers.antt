-- `words::put_shown` meets its contract: the word, or as much of it as is shown.
-- Assumes nothing.
use mathlib.Core.Path.{sym}
use native.Mathlib.Omega.{arith}
use lib.Seq.{take_all, length-take-le}
use Rattle.words.specs.Complaints.{most_shown}
use Rattle.words.proofs.put_shown.Goals as goal

pub put_bytes-requires : goal.put_bytes-requires
put_bytes-requires c = let w = c.args.word.now in rw (take_all most_shown w (omega arith)) at c.requires

pub returns-then-word-le-SHOWN : goal.returns-then-word-le-SHOWN
returns-then-word-le-SHOWN c = let w = c.args.word.now in rw (take_all most_shown w (omega arith)) c.put_bytes.ensures

pub slice_bounds-put_bytes-end : goal.slice_bounds-put_bytes-end
slice_bounds-put_bytes-end c = let w = c.args.word.now in sym (length-take-le most_shown w (omega arith))
