-- `readings` meets its contract: the others that are there have the start's reading.
use Rattle.std.proofs.Common.{rules, ◌≡◌, ◌-◌, ℕ, List, ◌∷◌, ◌++◌, replicate, ap, ◌∙◌}
use borrow.Rule.Slice.PartMut.{post_of}
use Rattle.tables.proofs.Begins.{zeros, readings_filled}
use Rattle.rules.specs.Numbers.{most_processors}
use Rattle.tables.proofs.fresh.readings.Goals as goal

pub returns : goal.returns
returns c =
    let n = c.args.processors - 1 in
    let same : c.fill.new.self ≡ replicate {A = ℕ} n c.args.clock = search rules in
    ap (λ (xs : List ℕ). 0 ∷ (xs ++ post_of {X = ℕ} 1 n (zeros most_processors))) same ∙ readings_filled c.args.clock c.args.processors c.requires.0 c.requires.1
