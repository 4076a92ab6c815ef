-- `totals_of`: idle time is that of all processors. Assumes nothing.
use mathlib.Core.Path.{sym, ap, ◌∙◌}
use Prim.Native.Nat.{ℕ}
use Rattle.looks.proofs.Looking.{idle_all}
use Rattle.looks.proofs.totals_of.Goals as goal

pub returns : goal.returns
returns c =
    let m = c.args.t in
    ap (λ (n : ℕ). record { gaps = m.total; idle = n; ended = m.ended }) (c.idle_of.ensures ∙ sym (idle_all m c.requires.shape c.requires.rests.nothing_here))
