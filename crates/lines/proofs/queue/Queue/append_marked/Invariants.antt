-- `lines::Queue::append_marked`: of those read so far the marked stand behind the line of k, up to j. Assumes nothing.
use lib.ListN.{take}
use Rattle.lines.specs.Lines.{joining}
use Rattle.lines.proofs.Turns.{Joining}
use Rattle.lines.proofs.queue.Queue.append_marked.Given as goal

abbrev pub invariant-loop-x : goal.invariant-loop-x
invariant-loop-x l = Joining (joining l.marks l.priorities l.high) l.initial.self.slots l.initial.self.count (take l.old.count l.old.slots) l.self.slots l.self.count l.x-index
