-- What a line of the text does: an event is answered; `rows N` and `row FRAME OWNER ENTRY` change the table that is
-- lent, and tell nothing.
use Rattle.std.specs.Prelude.{ℕ, ◌≤◌, Option, Some, None}
use Rattle.std.specs.declared.result.Result.{Result}
use Rattle.std.specs.declared.result.Result.TheVariants.{Ok, Err}
use Rattle.pages.specs.declared.Answer.{Answer}
use Rattle.lent.specs.declared.Keeper.{Keeper}
use Rattle.lent.specs.Lent.{Keeping}
use Rattle.lender.specs.declared.SwapTable.{SwapTable}
use Rattle.lender.specs.Lender.{room, served, resized_to, with_row_at}
use Rattle.pager_asks.specs.declared.Ask.{Ask}
use Rattle.pager_asks.specs.declared.Ask.TheVariants.{Empty, Asked, Length, Set}
use Rattle.pager_asks.specs.declared.Bad.{Bad}
use Rattle.run_pager.specs.declared.Acted.{Acted}

-- what is done of a line: a bad one asks nothing
abbrev pub asks : Result Ask Bad → Ask
asks (Ok a) = a
asks (Err b) = Empty

-- how many answers that is
abbrev pub more : Option Answer → ℕ
more None = 0
more (Some a) = 1

abbrev pub quiet : SwapTable → Keeper → Acted
quiet t k = record { table = t; keeper = k; answer = None }

abbrev pub acted : Ask → SwapTable → Keeper → Acted
acted Empty t k = quiet t k
acted (Asked v) t k = record {
  table = (served v k t).table;
  keeper = (served v k t).turn.keeper;
  answer = Some (served v k t).turn.answer;
}
acted (Length n) t k = quiet (resized_to n t) k
acted (Set f row) t k = quiet (with_row_at f row t) k

-- the rule of what is kept, and the table has room
pub record Standing (t : SwapTable) (k : Keeper) : Type 0 where
  pub within : t.count ≤ room
  pub keeping : Keeping k
