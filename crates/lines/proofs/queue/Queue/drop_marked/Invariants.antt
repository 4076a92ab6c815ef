-- `lines::Queue::drop_marked`: of the i read so far the k that are not doomed stand in front. Assumes nothing.
use Rattle.lines.specs.Lines.{alive}
use Rattle.lines.proofs.Turns.{Sifted}
use Rattle.lines.proofs.queue.Queue.drop_marked.Given as goal

abbrev pub invariant-loop-i : goal.invariant-loop-i
invariant-loop-i l = Sifted (alive l.doomed) l.initial.self.slots l.initial.self.count l.self.slots l.k l.i
