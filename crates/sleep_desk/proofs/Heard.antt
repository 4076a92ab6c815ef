-- The cases of the rule, each said once: whatever is shown of what the sleepers are told goes by these.
-- Assumes nothing.
use Rattle.std.proofs.Common.{◌≡◌, ℕ, true, false, ◌&&◌, eqb, List, [], ◌∷◌, ◌++◌, sym, refl, ◌∙◌, true≢false, eqb-true}
use borrow.Author.Tests.{eqb-false}
use Rattle.rules.specs.declared.Event.{Event}
use Rattle.rules.specs.declared.Event.TheVariants.{Call, Interrupt, Exception}
use Rattle.rules.specs.declared.Arrival.{Arrival}
use Rattle.rules.specs.declared.Action.{Action}
use Rattle.rules.specs.declared.Answer.{Answer}
use Rattle.rules.proofs.Cases.{if_cases}
use Rattle.ledger.specs.History.{accepted}
use Rattle.sleeps.specs.declared.Operation.{Operation}
use Rattle.sleeps.specs.declared.Operation.TheVariants.{Gap, Ask, Tick}
use Rattle.sleep_desk.specs.Rules.{timing_processor, tick_line, gap_told, asks_sleep, goes_up, asked, heard}

-- an accepted event tells its gap and then what it asks; a refused one nothing
pub heard_cases : (P : List Operation → Type 0) (u g : ℕ) (x : Arrival) (a : Answer) → (accepted a ≡ true → P (gap_told x.processor g ++ asked u x.event a.action))
    → (accepted a ≡ false → P []) → P (heard u x g a)
unfolding heard
heard_cases P u g x a told untold = if_cases P (accepted a) told untold

pub heard_none : (u g : ℕ) (x : Arrival) (a : Answer) → accepted a ≡ false → heard u x g a ≡ []
heard_none u g x a h = heard_cases (λ os. os ≡ []) u g x a (λ e. absurd (true≢false (sym e ∙ h))) (λ _. refl)

-- the gap, at processor 0
pub gap_cases : (P : List Operation → Type 0) (k g : ℕ) → (k ≡ timing_processor → P (Gap g ∷ [])) → ((k ≡ timing_processor → ⊥) → P []) → P (gap_told k g)
gap_cases P k g here elsewhere =
    if_cases P (eqb timing_processor k) (λ e. here (sym (eqb-true timing_processor k e))) (λ e. elsewhere (λ h. eqb-false timing_processor k e (sym h)))

-- a request, a tick, or neither
pub asked_cases : (P : List Operation → Type 0) (u : ℕ) (e : Event) (a : Action) → ((a1 : ℕ) → P (Ask u a1 ∷ [])) → P (Tick ∷ []) → P [] → P (asked u e a)
asked_cases P u (Call now mode a0 a1 a2 a3) a request tick none = if_cases P (asks_sleep a0 && goes_up a) (λ _. request a1) (λ _. none)
asked_cases P u (Interrupt now n x y) a request tick none = if_cases P (eqb n tick_line) (λ _. tick) (λ _. none)
asked_cases P u (Exception now code) a request tick none = none
