-- `lines::Queue::append_marked`: of those read so far the marked stand behind the line of k, up to j. Assumes nothing.
use mathlib.Core.Path.{sym, ◌∙◌}
use native.Mathlib.Omega.{arith}
use Rattle.lines.specs.Lines.{joining}
use Rattle.lines.specs.Queues.{items}
use Rattle.lines.proofs.Turns.{joining_none, joining_room, joining_hit, joining_miss}
use Rattle.lines.proofs.queue.Queue.append_marked.Goals.{else-is_joining, then-is_joining}
use Rattle.lines.proofs.queue.Queue.append_marked.Goals as goal

pub loop-x-init : goal.loop-x-init
loop-x-init c =
    let a = c.args in
    joining_none (joining a.marks.now a.priorities.now a.high) a.self.now.slots a.self.now.count (items a.old.now) (omega (arith, c.requires.1))

pub push-requires : goal.push-requires
push-requires c =
    let a = c.args in
    let l = c.loop-x in
    omega (arith, joining_room (joining a.marks.now a.priorities.now a.high) a.self.now.slots a.self.now.count (items a.old.now) (omega (arith, c.requires.1)) l.self.slots l.self.count l.x-index c.loop-x-test.true l.invariant (sym c.is_joining.ensures ∙ c.if-is_joining.true))

pub loop-x-preserved : goal.loop-x-preserved
loop-x-preserved c =
    let a = c.args in
    let l = c.loop-x in
    elim c.if-is_joining.branch [
      | then-is_joining w ↦ rw (w.self-is, w.push.ensures) (joining_hit (joining a.marks.now a.priorities.now a.high) a.self.now.slots a.self.now.count (items a.old.now) (omega (arith, c.requires.1)) l.self.slots l.self.count l.x-index c.loop-x-test.true l.invariant (sym c.is_joining.ensures ∙ w.if-is_joining.true))
      | else-is_joining w ↦ rw w.self-is (joining_miss (joining a.marks.now a.priorities.now a.high) a.self.now.slots a.self.now.count (items a.old.now) (omega (arith, c.requires.1)) l.self.slots l.self.count l.x-index c.loop-x-test.true l.invariant (sym c.is_joining.ensures ∙ w.if-is_joining.false))
    ]
