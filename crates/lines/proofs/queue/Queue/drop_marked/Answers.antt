-- `lines::Queue::drop_marked`: of the i read so far the k that are not doomed stand in front. Assumes nothing.
use mathlib.Core.Path.{◌≡◌, refl, sym, ap, ap₂, ◌∙◌}
use mathlib.Core.List.{List}
use mathlib.Core.Bool.{not}
use Prim.Native.Nat.{ℕ, ◌-◌, ◌<◌, ◌≤◌}
use native.Mathlib.Omega.{arith}
use lib.ListN.{length, get_or, replicate, length-replicate}
use Rattle.std.proofs.Common.{rules}
use Rattle.std.proofs.lemmas.Slice.{put_mid-paste}
use Rattle.lines.specs.declared.queue.Queue.{Queue}
use Rattle.rules.specs.Numbers.{base_slots}
use Rattle.lines.specs.Lines.{alive}
use Rattle.lines.proofs.Turns.{clear_end, sift_slot, sift_keep, sift_skip, sift_count, sift_end}
use Rattle.lines.proofs.queue.Queue.drop_marked.Goals.{else-not-doomed-s, then-not-doomed-s}
use Rattle.lines.proofs.queue.Queue.drop_marked.Goals as goal

pub bounds-doomed-s : goal.bounds-doomed-s
bounds-doomed-s c =
    let long : c.args.self.now.count ≤ length c.args.self.now.slots = omega arith in
    let slot : get_or c.loop-i.self.slots c.loop-i.i 0 < base_slots = let lp = c.loop-i in
    sift_slot (alive c.args.doomed.now) c.args.self.now.slots c.args.self.now.count long base_slots lp.self.slots lp.k lp.i c.requires.1 lp.invariant c.loop-i-test.true in
    slot

pub loop-i-preserved : goal.loop-i-preserved
loop-i-preserved c =
    let long : c.args.self.now.count ≤ length c.args.self.now.slots = omega arith in
    let lp = c.loop-i in
    let a = c.args in
    let hn = long in
    elim c.if-not-doomed-s.branch [ then-not-doomed-s w ↦ rw (w.self-is, w.k-is) (sift_keep (alive a.doomed.now) a.self.now.slots a.self.now.count hn lp.self.slots lp.k lp.i lp.invariant c.loop-i-test.true (ap not w.if-not-doomed-s.true)) | else-not-doomed-s w ↦ rw (w.self-is, w.k-is) (sift_skip (alive a.doomed.now) a.self.now.slots a.self.now.count hn lp.self.slots lp.k lp.i lp.invariant c.loop-i-test.true (ap not w.if-not-doomed-s.false)) ]

pub returns : goal.returns
returns c =
    let long : c.args.self.now.count ≤ length c.args.self.now.slots = omega arith in
    let lp = c.loop-i in
    let a = c.args in
    let hn = long in
    let d = a.self.now.count - lp.k in
    let zeros : c.fill.new.self ≡ replicate {A = ℕ} d 0 = search rules in
    ap₂ (λ (s : List ℕ) (n : ℕ). filled s n)
    (put_mid-paste lp.k d lp.self.slots c.fill.new.self (replicate d 0) d zeros refl (sym (length-replicate d 0))
    ∙ clear_end lp.self.slots lp.k a.self.now.count (omega (arith, lp.invariant.le_k, lp.invariant.le_i))
    ∙ sift_end (alive a.doomed.now) a.self.now.slots a.self.now.count hn lp.self.slots lp.k lp.i lp.invariant c.loop-i-test.false)
    (sift_count (alive a.doomed.now) a.self.now.slots a.self.now.count hn lp.self.slots lp.k lp.i lp.invariant c.loop-i-test.false)
  where
    filled : List ℕ → ℕ → Queue
    filled s n = record { slots = s; count = n }
