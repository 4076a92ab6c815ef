-- What a line leaves obeys the rule.
use mathlib.Core.Path.{◌≡◌, refl, sym, subst}
use Rattle.std.specs.Prelude.{IfOk}
use Rattle.std.specs.declared.result.Result.{Result}
use Rattle.std.specs.declared.result.Result.TheVariants.{Ok, Err}
use native.Mathlib.Omega.{arith}
use Rattle.lent.specs.declared.Keeper.{Keeper}
use Rattle.lent.specs.Lent as lents
use Rattle.lent.proofs.Laws.{lent_keeps, fresh_keeping}
use Rattle.lender.specs.declared.SwapTable.{SwapTable}
use Rattle.lender.specs.Lender.{rows_of, fresh}
use Rattle.pager_asks.specs.declared.Ask.{Ask}
use Rattle.pager_asks.specs.declared.Ask.TheVariants.{Empty, Asked, Length, Set}
use Rattle.pager_asks.specs.declared.Bad.{Bad}
use Rattle.pager_asks.specs.Asks.{Sized}
use Rattle.run_pager.specs.declared.Acted.{Acted}
use Rattle.run_pager.specs.Acts.{asks, acted, Standing}

pub fresh_stands : Standing fresh lents.fresh
fresh_stands = record { within = omega arith; keeping = fresh_keeping }

pub asks_sized : (r : Result Ask Bad) → IfOk r Sized → Sized (asks r)
asks_sized (Ok a) s = s
asks_sized (Err b) s = tt

module _ (t : SwapTable) (k : Keeper) (s : Standing t k) where
  stands : (ask : Ask) → Sized ask → Standing (acted ask t k).table (acted ask t k).keeper
  stands Empty z = s
  stands (Asked v) z = record { within = s.within; keeping = lent_keeps v k s.keeping (rows_of t) }
  stands (Length n) z = record { within = z; keeping = s.keeping }
  stands (Set f row) z = record { within = s.within; keeping = s.keeping }

  pub done : (ask : Ask) → Sized ask → (r : Acted) → r ≡ acted ask t k → (r ≡ acted ask t k) × Standing r.table r.keeper
  done ask z r e = subst (λ (x : Acted). (x ≡ acted ask t k) × Standing x.table x.keeper) (sym e) (refl, stands ask z)
