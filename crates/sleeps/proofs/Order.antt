-- "Sleepers are kept by wake time, .. ties in order of asking"; nobody else's sleep changes when one ends.
-- Assumes nothing.
use mathlib.Core.Path.{◌≡◌, refl, sym, ap, ◌∙◌}
use mathlib.Core.Bool.{Bool, not}
use mathlib.Core.List.{List, [], ◌∷◌, ◌++◌}
use Prim.Native.Nat.{ℕ, ◌+◌}
use lib.Dec.{leb}
use Rattle.rules.specs.Words.{those}
use Rattle.rules.proofs.Cases.{if_cases}
use Rattle.rules.proofs.Lines.{those_those, those_append}
use Rattle.rules.specs.Numbers.{time_limit}
use Rattle.sleeps.specs.declared.Operation.{Operation}
use Rattle.sleeps.specs.declared.Operation.TheVariants.{Gap, Ask, Tick, End}
use Rattle.sleeps.specs.declared.Sleeper.{Sleeper}
use Rattle.sleeps.specs.Rules.{State, Outcome, outside, is, sleeping, negative, sleeper, insert, due, pass, ask, tick, end, step, run, replies}
use Rattle.sleeps.specs.Sound.{Sound}
use Rattle.sleeps.specs.Told.{asking, asked}
use Rattle.sleeps.proofs.Lists.{twice}
use Rattle.sleeps.proofs.Inserts.{at, ties_insert}
use Rattle.sleeps.proofs.Kept.{sound_step}
use Rattle.sleeps.proofs.Moments.{sum_told}

-- those who wake at a time are asleep in order of asking
unfoldable pub Ordered : List Sleeper → State → Type 0
Ordered q s = (w : ℕ) → those (at w) s.asleep ≡ those (at w) q

pub part_ordered : (t : Sleeper → Bool) (l q : List Sleeper) (w : ℕ) → those (at w) l ≡ those (at w) q → those (at w) (those t l) ≡ those (at w) (those t q)
part_ordered t l q w e = those_those (at w) t l ∙ ap (those t) e ∙ those_those t (at w) q

pub ordered_step : (o : Operation) (s : State) (q : List Sleeper) → Sound s → Ordered q s → Ordered (asking o (step o s).reply s.sum q) (step o s).after
unfolding step pass ask tick end Ordered
ordered_step (Gap g) s q h d w = if_cases (λ (o : Outcome). those (at w) o.after.asleep ≡ those (at w) q) (leb (s.sum + g) time_limit) (λ _. d w) (λ _. d w)
ordered_step (Ask n a1) s q h d w = if_cases Q (outside n) (λ _. d w) (λ _. if_cases Q (sleeping n s) (λ _. d w) (λ _. if_cases Q (negative a1) (λ _. d w) (λ _. last)))
  where
    Q : Outcome → Type 0
    Q o = those (at w) o.after.asleep ≡ those (at w) (asking (Ask n a1) o.reply s.sum q)

    last : those (at w) (insert (sleeper n a1 s) s.asleep) ≡ those (at w) (q ++ (sleeper n a1 s ∷ []))
    last = ties_insert w (sleeper n a1 s) s.asleep h.sorted ∙ ap (λ (l : List Sleeper). l ++ those (at w) (sleeper n a1 s ∷ [])) (d w) ∙ sym (those_append (at w) q (sleeper n a1 s ∷ []))
ordered_step Tick s q h d w = part_ordered (λ x. not (due s x)) s.asleep q w (d w)
ordered_step (End n) s q h d w = if_cases Q (outside n) (λ _. d w) (λ _. if_cases Q (sleeping n s) (λ _. part_ordered (λ x. not (is n x)) s.asleep q w (d w)) (λ _. d w))
  where
    Q : Outcome → Type 0
    Q o = those (at w) o.after.asleep ≡ those (at w) (asking (End n) o.reply s.sum q)

pub ordered_run : (os : List Operation) (s : State) (q : List Sleeper) → Sound s → Ordered q s → Ordered (asked os (replies os s) s.sum q) (run os s)
unfolding run replies asked
ordered_run [] s q h d = d
ordered_run (o ∷ os) s q h d =
    rw (← (sum_told o s)) (ordered_run os (step o s).after (asking o (step o s).reply s.sum q) (sound_step o s h) (ordered_step o s q h d))

-- nobody else's sleep changes when one ends
pub others_sleep_on : (n : ℕ) (s : State) → those (λ x. not (is n x)) (step (End n) s).after.asleep ≡ those (λ x. not (is n x)) s.asleep
unfolding step end
others_sleep_on n s = if_cases Q (outside n) (λ _. refl) (λ _. if_cases Q (sleeping n s) (λ _. twice (λ x. not (is n x)) s.asleep) (λ _. refl))
  where
    Q : Outcome → Type 0
    Q o = those (λ x. not (is n x)) o.after.asleep ≡ those (λ x. not (is n x)) s.asleep
