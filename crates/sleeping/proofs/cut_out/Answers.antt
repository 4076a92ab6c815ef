-- `sleeping::cut_out` meets its contract: those behind have moved up, and what they leave is filled.
-- Assumes nothing.
use Rattle.std.proofs.Common.{rules, ◌≡◌, ℕ, ◌-◌, length, drop, replicate, length-drop, length-take-le, arith, refl, ap, ◌∙◌}
use Rattle.std.proofs.lemmas.List.{length-replicate}
use Rattle.std.proofs.lemmas.Slice.{put_mid-paste}
use Rattle.sleeping.specs.Rows.{blank}
use Rattle.sleeping.proofs.Arrays.{cut_is}
use Rattle.sleeping.proofs.cut_out.Goals as goal

pub returns : goal.returns
returns c =
    let m = c.args.sleepers in
    let k = c.args.k in
    let long : length m.rows ≡ 8 = search rules in
    let moved = c.copy_within.new.self in
    let freed = m.count - (m.count - k) in
    let count = length-take-le freed (drop (m.count - k) moved) (omega (arith, length-drop (m.count - k) moved, c.copy_within.ensures.len)) in
    let filled = put_mid-paste (m.count - k) freed moved c.fill.new.self (replicate k blank) k (c.fill.ensures.after (λ y e. e) ∙ ap (λ (j : ℕ). replicate j blank) (omega (arith, count))) (omega arith) (omega (arith, length-replicate k blank)) in
    rw (filled, c.copy_within.ensures.after, cut_is m.rows m.count c.args.at k (omega arith) (omega arith)) refl
