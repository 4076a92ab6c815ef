-- "refused with 9, .. with 10, and neither changes anything"
-- Assumes nothing.
use mathlib.Core.Path.{◌≡◌, refl}
use Prim.Native.Nat.{◌+◌}
use lib.Dec.{leb}
use Rattle.std.proofs.Common.{Some}
use Rattle.std.proofs.lemmas.Option.{none-some}
use Rattle.rules.proofs.Cases.{if_cases}
use Rattle.rules.specs.Numbers.{time_limit}
use Rattle.sleeps.specs.declared.Operation.{Operation}
use Rattle.sleeps.specs.declared.Operation.TheVariants.{Gap, Ask, Tick, End}
use Rattle.sleeps.specs.declared.Refusal.{Refusal}
use Rattle.sleeps.specs.Rules.{State, Outcome, outside, sleeping, negative, pass, ask, tick, end, step}

pub refusal_keeps : (o : Operation) (s : State) (r : Refusal) → (step o s).reply.refusal ≡ Some r → (step o s).after ≡ s
unfolding step pass ask tick end
refusal_keeps (Gap g) s r = if_cases (λ (c : Outcome). c.reply.refusal ≡ Some r → c.after ≡ s) (leb (s.sum + g) time_limit) (λ _ e. absurd (none-some r e)) (λ _ _. refl)
refusal_keeps (Ask m a1) s r = if_cases Q (outside m) (λ _ _. refl) (λ _. if_cases Q (sleeping m s) (λ _ _. refl) (λ _. if_cases Q (negative a1) (λ _ _. refl) (λ _ e. absurd (none-some r e))))
  where
    Q : Outcome → Type 0
    Q c = c.reply.refusal ≡ Some r → c.after ≡ s
refusal_keeps Tick s r = λ e. absurd (none-some r e)
refusal_keeps (End m) s r = if_cases Q (outside m) (λ _ _. refl) (λ _. if_cases Q (sleeping m s) (λ _ e. absurd (none-some r e)) (λ _ _. refl))
  where
    Q : Outcome → Type 0
    Q c = c.reply.refusal ≡ Some r → c.after ≡ s
