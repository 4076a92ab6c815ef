-- `words::run` meets its contract: what is taken while it passes is the run.
use mathlib.Core.Path.{◌≡◌, ap, sym, ◌∙◌}
use Prim.Native.Nat.{ℕ, ◌+◌}
use lib.ListN.{length, drop}
use Rattle.std.proofs.Common.{rules, min}
use Rattle.std.proofs.lemmas.Iterator.{YieldsList-from_slice}
use Rattle.std.proofs.lemmas.Iterator.Consumers.{YieldsList-at, count_from_yields_List}
use Rattle.std.proofs.lemmas.Iterator.Search.{YieldsList-from_take_while}
use Rattle.std.proofs.lemmas.List.{drop_min}
use Rattle.std.proofs.lemmas.List.Folds.{length-prefix_len}
use Rattle.words.proofs.Runs.{run_is, to_the_end}
use Rattle.words.proofs.run.Goals as goal

pub returns : goal.returns
returns g c = λ p h.
    let text = c.args.text.now in
    let at = c.args.at in
    let place : c.min.result ≡ min at (length text) = search rules in
    let cut : c.iter.result.rest.now ≡ drop at text = c.iter.ensures.rest ∙ to_the_end c.min.result text ∙ ap (λ (n : ℕ). drop n text) place ∙ drop_min at text in
    let count =
    count_from_yields_List c.take_while.result _ c.count.ensures.ran
    (YieldsList-from_take_while _ p
    (YieldsList-at c.take_while.ensures.source (YieldsList-from_slice (drop at text) cut))
    c.take_while.ensures.closure c.take_while.ensures.done (λ x b q k. (search rules, h x.now b (search rules)))) in
    ap (λ (n : ℕ). at + n) (count ∙ length-prefix_len p (drop at text) ∙ sym (run_is p (drop at text)))
