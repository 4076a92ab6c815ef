use Rattle.std.proofs.Common.{rules, ◌≡◌, length, refl, arith}
use borrow.Author.Tests.{tests}
use lib.ListN.{get_or}
use Rattle.pages.specs.Numbers.{frames}
use Rattle.pages.specs.Rules.{free, freed}
use Rattle.pool.proofs.Ends.{made, serves_places}
use Rattle.pool.proofs.freed_rows.Goals as goal

pub from_fn-requires : goal.from_fn-requires
from_fn-requires c = (omega arith, serves_places (λ x q r. search (rules, tests)) frames (λ x b. search rules))

pub returns : goal.returns
returns c =
    let rows = c.args.rows in
    let sixteen : length rows ≡ frames = search rules in
    made _ _ (λ x. freed c.args.u (get_or rows x free)) (λ x y q k. search (rules, tests)) rows c.from_fn.result (freed c.args.u) free (λ x. refl) frames sixteen c.from_fn.ensures.items
