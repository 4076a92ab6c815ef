-- The mask of the frames before this one.
use Rattle.std.proofs.Common.{◌≡◌, take}
use Rattle.pages.specs.Rules.{mask, is_of}
use Rattle.pool.proofs.frames_of.Given as goal

abbrev pub invariant-loop-f : goal.invariant-loop-f
invariant-loop-f l = l.m ≡ mask (is_of l.u) (take l.f l.fn.rows)
