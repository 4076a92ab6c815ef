-- One answer and one pager for every event; and whoever calls `event` again and again from `fresh` has what the laws
-- promise.
use mathlib.Core.Path.{◌≡◌, sym, ◌∙◌, subst}
use Rattle.pages.specs.declared.Event.{Event}
use Rattle.pages.specs.declared.Pager.{Pager}
use Rattle.pages.specs.declared.Turn.{Turn}
use Rattle.pages.specs.Rules as rules
use Rattle.pages.specs.Rules.{step}
use Rattle.pages.specs.Ruled.{Ruled}
use Rattle.pages.specs.Laws.{Promises}
use Rattle.pages.proofs.Ruled.{fresh_ruled, keeps}
use Rattle.pages.proofs.Promises.{promised}

-- what `event` promises of its result
pub one_turn : (p : Pager) (v : Event) {r s : Turn} → r ≡ step v p → s ≡ step v p → r ≡ s
one_turn p v a b = a ∙ sym b

pub one_fresh : {p q : Pager} → p ≡ rules.fresh → q ≡ rules.fresh → p ≡ q
one_fresh a b = a ∙ sym b

-- pagers that come from `fresh` and `event` alone
pub data Comes : Pager → Type 0 where
  made : {p : Pager} → p ≡ rules.fresh → Comes p
  after : {p : Pager} {r : Turn} → Comes p → (v : Event) → r ≡ step v p → Comes r.pager

-- each of them meets the premise of `event`
pub ruled : {p : Pager} → Comes p → Ruled p
ruled (made e) = subst Ruled (sym e) fresh_ruled
ruled (after {p} c v e) = subst (λ (t : Turn). Ruled t.pager) (sym e) (keeps p (ruled c) v)

pub lawful : {p : Pager} → Comes p → Promises p
lawful {p} c = promised p (ruled c)
