-- "A sleeper is woken once": who was woken, or ended, sleeps no more, and nothing is told of it until it is granted
-- another sleep.
-- Assumes nothing.
use mathlib.Core.Path.{◌≡◌, refl, sym, ap, ◌∙◌}
use mathlib.Core.Bool.{Bool, true, false, not, ◌&&◌, ◌||◌, true≢false}
use mathlib.Core.List.{List, [], ◌∷◌}
use Prim.Native.Nat.{ℕ, suc, ◌+◌, ◌≤◌}
use native.Mathlib.Omega.{arith}
use lib.Dec.{eqb, leb}
use lib.ListN.{length}
use borrow.Author.Tests.{eqb-true}
use Rattle.rules.specs.Words.{those, among, count, many}
use Rattle.rules.proofs.Cases.{if_cases}
use Rattle.rules.proofs.Lines.{those_those, count_le}
use Rattle.rules.specs.Numbers.{time_limit}
use Rattle.rules.proofs.Sums.{sum_over}
use Rattle.sleeps.specs.declared.Operation.{Operation}
use Rattle.sleeps.specs.declared.Operation.TheVariants.{Gap, Ask, Tick, End}
use Rattle.sleeps.specs.declared.Follows.TheVariants.{Nothing, Ended}
use Rattle.sleeps.specs.declared.Sleeper.{Sleeper}
use Rattle.sleeps.specs.Rules.{State, Outcome, outside, is, sleeping, negative, sleeper, insert, due, number_of, called, pass, ask, tick, end, step, replies}
use Rattle.sleeps.specs.Sound.{Sound}
use Rattle.sleeps.specs.Told.{still, tells_end, told, granted_to, granted_any}
use Rattle.sleeps.proofs.Lists.{nobody_passes, many_is, among_map, many_part, none_both, passes_first}
use Rattle.sleeps.proofs.Inserts.{those_insert}
use Rattle.sleeps.proofs.Moments.{Asleep, Awake, part_out, called_out}

-- ── One or nobody ──

pub data Who (n : ℕ) (s : State) : Type 0 where
  none : Awake n s → Who n s
  one : (y : Sleeper) → y.number ≡ n → Asleep y s → Who n s

pub who : (n : ℕ) (s : State) → Sound s → Who n s
who n s h = go (those (is n) s.asleep) refl (omega (arith, many_is (is n) s.asleep, h.once n, count_le (not (outside n))))
  where
    go : (l : List Sleeper) → those (is n) s.asleep ≡ l → length (those (is n) s.asleep) ≤ 1 → Who n s
    go [] e k = none e
    go (y ∷ []) e k =
        let z : y.number ≡ n = sym (eqb-true n y.number (passes_first (is n) s.asleep y [] e)) in one y z (ap (λ (m : ℕ). those (is m) s.asleep) z ∙ e)
    go (y ∷ z ∷ l) e k = absurd (omega (arith, ap length e))

-- each tick calls a number once at most
pub called_once : (n : ℕ) (s : State) → Sound s → many (eqb n) (called s) ≤ 1
called_once n s h = rw (sum_over (λ (m : ℕ). count (eqb n m)) number_of (those (due s) s.asleep)) (omega (arith, many_part (is n) (due s) s.asleep, h.once n, count_le (not (outside n))))

-- ── Who was woken, or ended, is awake ──

pub woken_awake : (n : ℕ) (s : State) → Sound s → among n (called s) ≡ true → Awake n (tick s).after
unfolding tick
woken_awake n s h a = go (who n s h)
  where
    out : (y : Sleeper) → y.number ≡ n → (w : Asleep y s) → (b : Bool) → due s y ≡ b → those (is n) (those (λ x. not (due s x)) s.asleep) ≡ []
    out y e w true d = rw (← e) (part_out y s w (λ x. not (due s x)) (rw d))
    out y e w false d = absurd (true≢false (sym a ∙ rw (← e) (called_out y s w d)))

    go : Who n s → those (is n) (those (λ x. not (due s x)) s.asleep) ≡ []
    go (none w) = those_those (is n) (λ x. not (due s x)) s.asleep ∙ ap (those (λ x. not (due s x))) w
    go (one y e w) = out y e w (due s y) refl

pub ended_awake : (n : ℕ) (s : State) → (end n s).reply.follows ≡ Ended → Awake n (end n s).after
unfolding end
ended_awake n s = if_cases Q (outside n) (λ _ e. no e) (λ _. if_cases Q (sleeping n s) (λ _ _. none_both (is n) s.asleep) (λ _ e. no e))
  where
    Q : Outcome → Type 0
    Q o = o.reply.follows ≡ Ended → those (is n) o.after.asleep ≡ []

    no : Nothing ≡ Ended → those (is n) s.asleep ≡ []
    no e = let z : ◌≡◌ {A = ℕ} 0 1 = cc in absurd (omega arith)

-- ── Who is awake stays so, until a sleep is granted ──

unfoldable pub Quiet : ℕ → Operation → Outcome → Type 0
Quiet n o c = (those (is n) c.after.asleep ≡ []) × ((among n c.reply.woken ≡ false) × (tells_end n o c.reply ≡ false))

part_none : (n : ℕ) (s : State) (t : Sleeper → Bool) → Awake n s → those (is n) (those t s.asleep) ≡ []
part_none n s t w = those_those (is n) t s.asleep ∙ ap (those t) w

module _ (n : ℕ) (s : State) (w : Awake n s) where
  ask_quiet : (m a1 : ℕ) → granted_to n (Ask m a1) (ask m a1 s).reply ≡ false → Quiet n (Ask m a1) (ask m a1 s)
  unfolding ask Quiet
  ask_quiet m a1 = if_cases Q (outside m) (λ _ _. same) (λ _. if_cases Q (sleeping m s) (λ _ _. same) (λ _. if_cases Q (negative a1) (λ _ _. same) (λ _. other (eqb n m) refl)))
    where
      Q : Outcome → Type 0
      Q c = granted_to n (Ask m a1) c.reply ≡ false → Quiet n (Ask m a1) c

      same : (those (is n) s.asleep ≡ []) × ((false ≡ false) × (false ≡ false))
      same = (w, (refl, refl))

      other : (b : Bool) → eqb n m ≡ b → b && true ≡ false → (those (is n) (insert (sleeper m a1 s) s.asleep) ≡ []) × ((false ≡ false) × (false ≡ false))
      other true e g = absurd (true≢false g)
      other false e g = (those_insert (is n) (sleeper m a1 s) s.asleep e ∙ w, (refl, refl))

  end_quiet : (m : ℕ) → Quiet n (End m) (end m s)
  unfolding end Quiet
  end_quiet m = if_cases (Quiet n (End m)) (outside m) (λ _. same) (λ _. if_cases (Quiet n (End m)) (sleeping m s) (λ v. (part_none n s (λ x. not (is m x)) w, (refl, other v (eqb n m) refl))) (λ _. same))
    where
      none_of : (b : Bool) → (b && false) ≡ false
      none_of true = refl
      none_of false = refl

      same : (those (is n) s.asleep ≡ []) × ((false ≡ false) × ((eqb n m && false) ≡ false))
      same = (w, (refl, none_of (eqb n m)))

      other : sleeping m s ≡ true → (b : Bool) → eqb n m ≡ b → b && true ≡ false
      other v true e = absurd (true≢false (sym v ∙ ap (λ (k : ℕ). sleeping k s) (sym (eqb-true n m e)) ∙ nobody_passes (is n) s.asleep w))
      other v false e = refl

  tick_quiet : Quiet n Tick (tick s)
  unfolding tick Quiet
  tick_quiet = (
    part_none n s (λ x. not (due s x)) w,
    (among_map n number_of (those (due s) s.asleep) ∙ nobody_passes (is n) (those (due s) s.asleep) (part_none n s (due s) w), refl),
  )

  pass_quiet : (g : ℕ) → Quiet n (Gap g) (pass g s)
  unfolding pass Quiet
  pass_quiet g = if_cases (Quiet n (Gap g)) (leb (s.sum + g) time_limit) (λ _. (w, (refl, refl))) (λ _. (w, (refl, refl)))

quiet_step : (n : ℕ) (o : Operation) (s : State) → Awake n s → granted_to n o (step o s).reply ≡ false → Quiet n o (step o s)
unfolding step
quiet_step n (Gap g) s w e = pass_quiet n s w g
quiet_step n (Ask m a1) s w e = ask_quiet n s w m a1 e
quiet_step n Tick s w e = tick_quiet n s w
quiet_step n (End m) s w e = end_quiet n s w m

or_left : (a b : Bool) → a || b ≡ false → a ≡ false
or_left true b h = absurd (true≢false h)
or_left false b h = refl

or_right : (a b : Bool) → a || b ≡ false → b ≡ false
or_right true b h = absurd (true≢false h)
or_right false b h = h

pub untold : (n : ℕ) (os : List Operation) (k : ℕ) (s : State) → Awake n s → granted_any n os (replies os s) ≡ false → told n k os (replies os s) ≡ still
unfolding told replies granted_any Quiet
untold n [] k s w g = refl
untold n (o ∷ os) k s w g =
    let q = quiet_step n o s w (or_left (granted_to n o (step o s).reply) (granted_any n os (replies os (step o s).after)) g) in
    rw (q.1.0, q.1.1) (untold n os (suc k) (step o s).after q.0 (or_right (granted_to n o (step o s).reply) (granted_any n os (replies os (step o s).after)) g))
