-- The refusal of an event that names a U-proc, and what an event comes to.
use Rattle.std.specs.Prelude.{ℕ, ◌≡◌, Option, Some, None, MatchResult, if◌then◌else◌}
use Rattle.std.specs.declared.result.Result.{Result}
use Rattle.pages.specs.declared.Refusal.{Refusal}
use Rattle.pages.specs.declared.Refusal.TheVariants.{NoSuchUproc, OutOfTurn}
use Rattle.pages.specs.declared.Transfer.{Transfer}
use Rattle.pages.specs.declared.Transfer.TheVariants.{Closed, Writing, Reading}
use Rattle.pages.specs.declared.Pager.{Pager}
use Rattle.pages.specs.declared.Turn.{Turn}
use Rattle.pages.specs.Rules.{is_uproc, refusing}

abbrev pub busy : Transfer → Option Refusal
busy Closed = None
busy (Writing f u e old) = Some OutOfTurn
busy (Reading f u e) = Some OutOfTurn

-- 9 before 11
abbrev pub refusal_of : ℕ → Transfer → Option Refusal
refusal_of u t = if is_uproc u then busy t else Some NoSuchUproc

-- the result is what the rule book says that the pager p comes to: a turn, or a refusal that leaves p as it was
abbrev pub Comes : Result Turn Refusal → Turn → Pager → Type 0
Comes r t p = MatchResult r (λ x. x ≡ t) (λ n. refusing n p ≡ t)
