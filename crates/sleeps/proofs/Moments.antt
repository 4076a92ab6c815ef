-- A sleep is over at the moment that the rules foretell, and once.
-- Assumes nothing.
use Rattle.std.specs.Prelude.{if◌then◌else◌}
use mathlib.Core.Path.{◌≡◌, refl, sym, ap, ◌∙◌}
use mathlib.Core.Bool.{Bool, true, false, not, true≢false}
use mathlib.Core.List.{List, [], ◌∷◌}
use Prim.Native.Nat.{ℕ, suc, ◌+◌, ◌≤◌}
use native.Mathlib.Omega.{arith}
use lib.Dec.{eqb, leb}
use lib.ListN.{length}
use borrow.Author.Tests.{eqb-true, eqb-false, ne_eqb}
use Rattle.rules.specs.Words.{those, among, count, many}
use Rattle.rules.proofs.Cases.{if_cases}
use Rattle.rules.proofs.Lines.{those_those}
use Rattle.rules.specs.Numbers.{time_limit}
use Rattle.sleeps.specs.declared.Operation.{Operation}
use Rattle.sleeps.specs.declared.Operation.TheVariants.{Gap, Ask, Tick, End}
use Rattle.sleeps.specs.declared.Follows.TheVariants.{Nothing, Ended}
use Rattle.sleeps.specs.declared.Sleeper.{Sleeper}
use Rattle.sleeps.specs.declared.Refusal.TheVariants.{TimeFull}
use Rattle.sleeps.specs.Rules.{State, Outcome, refused, answered, outside, is, sleeping, negative, sleeper, insert, due, number_of, called, pass, ask, tick, end, step, replies}
use Rattle.sleeps.specs.Sound.{Sound}
use Rattle.sleeps.specs.Told.{later, woken_by, ended_by, foretold, tells_end, told}
use Rattle.sleeps.proofs.Lists.{nobody_passes, one_passes, many_is, among_map}
use Rattle.sleeps.proofs.Inserts.{those_insert}
use Rattle.sleeps.proofs.Kept.{sound_step}

if_ap : (f : Outcome → ℕ) (b : Bool) (x y : Outcome) → f (if b then x else y) ≡ if b then f x else f y
if_ap f true x y = refl
if_ap f false x y = refl

-- the sum after an operation is what the operations tell
pub sum_told : (o : Operation) (s : State) → (step o s).after.sum ≡ later o s.sum
unfolding step pass ask tick end
sum_told (Gap g) s = if_ap (λ (o : Outcome). o.after.sum) (leb (s.sum + g) time_limit) (answered Nothing [] (record { sum = s.sum + g; asleep = s.asleep })) (refused TimeFull s)
sum_told (Ask n a1) s =
    if_cases (λ (o : Outcome). o.after.sum ≡ s.sum) (outside n) (λ _. refl) (λ _. if_cases (λ (o : Outcome). o.after.sum ≡ s.sum) (sleeping n s) (λ _. refl) (λ _. if_cases (λ (o : Outcome). o.after.sum ≡ s.sum) (negative a1) (λ _. refl) (λ _. refl)))
sum_told Tick s = refl
sum_told (End n) s = if_cases (λ (o : Outcome). o.after.sum ≡ s.sum) (outside n) (λ _. refl) (λ _. if_cases (λ (o : Outcome). o.after.sum ≡ s.sum) (sleeping n s) (λ _. refl) (λ _. refl))

-- ── One who sleeps ──

-- x is who sleeps under its number
abbrev pub Asleep : Sleeper → State → Type 0
Asleep x s = those (is x.number) s.asleep ≡ x ∷ []

-- nobody sleeps under that number
abbrev pub Awake : ℕ → State → Type 0
Awake n s = those (is n) s.asleep ≡ []

module _ (x : Sleeper) (s : State) (w : Asleep x s) where
  its : sleeping x.number s ≡ true
  its = one_passes (is x.number) s.asleep x [] w

  inside : Sound s → outside x.number ≡ false
  inside h = go (outside x.number) (h.once x.number)
    where
      go : (b : Bool) → many (is x.number) s.asleep ≤ count (not b) → b ≡ false
      go true k = absurd (omega (arith, many_is (is x.number) s.asleep, ap length w))
      go false k = refl

  -- a part of those asleep that x is in, and one that it is not in
  pub part_in : (t : Sleeper → Bool) → t x ≡ true → those (is x.number) (those t s.asleep) ≡ x ∷ []
  part_in t e = those_those (is x.number) t s.asleep ∙ ap (those t) w ∙ rw e

  pub part_out : (t : Sleeper → Bool) → t x ≡ false → those (is x.number) (those t s.asleep) ≡ []
  part_out t e = those_those (is x.number) t s.asleep ∙ ap (those t) w ∙ rw e

  pub called_out : due s x ≡ false → among x.number (called s) ≡ false
  called_out e = among_map x.number number_of (those (due s) s.asleep) ∙ nobody_passes (is x.number) (those (due s) s.asleep) (part_out (due s) e)

  called_in : due s x ≡ true → among x.number (called s) ≡ true
  called_in e = among_map x.number number_of (those (due s) s.asleep) ∙ one_passes (is x.number) (those (due s) s.asleep) x [] (part_in (due s) e)

-- ── One operation that is not its end ──

-- an operation wakes nobody but by a tick
pub wakes_nobody : (g n a1 : ℕ) (s : State) → ((pass g s).reply.woken ≡ []) × (((ask n a1 s).reply.woken ≡ []) × ((end n s).reply.woken ≡ []))
unfolding pass ask end
wakes_nobody g n a1 s =
    let Q : Outcome → Type 0 = λ (o : Outcome). o.reply.woken ≡ [] in (
      if_cases Q (leb (s.sum + g) time_limit) (λ _. refl) (λ _. refl),
      (
        if_cases Q (outside n) (λ _. refl) (λ _. if_cases Q (sleeping n s) (λ _. refl) (λ _. if_cases Q (negative a1) (λ _. refl) (λ _. refl))),
        if_cases Q (outside n) (λ _. refl) (λ _. if_cases Q (sleeping n s) (λ _. refl) (λ _. refl)),
      ),
    )

pub pass_keeps : (g : ℕ) (s : State) → (pass g s).after.asleep ≡ s.asleep
unfolding pass
pass_keeps g s = if_cases (λ (o : Outcome). o.after.asleep ≡ s.asleep) (leb (s.sum + g) time_limit) (λ _. refl) (λ _. refl)

turned : (m n : ℕ) → eqb m n ≡ false → eqb n m ≡ false
turned m n e = ne_eqb n m (λ h. eqb-false m n e (sym h))

module _ (x : Sleeper) (s : State) (w : Asleep x s) where
  ask_keeps : (m a1 : ℕ) → those (is x.number) (ask m a1 s).after.asleep ≡ x ∷ []
  unfolding ask
  ask_keeps m a1 =
      let Q : Outcome → Type 0 = λ (o : Outcome). those (is x.number) o.after.asleep ≡ x ∷ [] in
      if_cases Q (outside m) (λ _. w) (λ _. if_cases Q (sleeping m s) (λ _. w) (λ v. if_cases Q (negative a1) (λ _. w) (λ _. other v (eqb x.number m) refl)))
    where
      other : sleeping m s ≡ false → (b : Bool) → eqb x.number m ≡ b → those (is x.number) (insert (sleeper m a1 s) s.asleep) ≡ x ∷ []
      other v true e = absurd (true≢false (sym (its x s w) ∙ ap (λ (n : ℕ). sleeping n s) (eqb-true x.number m e) ∙ v))
      other v false e = those_insert (is x.number) (sleeper m a1 s) s.asleep e ∙ w

  end_keeps : (m : ℕ) → eqb x.number m ≡ false → those (is x.number) (end m s).after.asleep ≡ x ∷ []
  unfolding end
  end_keeps m e =
      let Q : Outcome → Type 0 = λ (o : Outcome). those (is x.number) o.after.asleep ≡ x ∷ [] in
      if_cases Q (outside m) (λ _. w) (λ _. if_cases Q (sleeping m s) (λ _. part_in x s w (λ y. not (is m y)) (rw (turned x.number m e))) (λ _. w))

  -- "nobody else's": it ends, and no other
  ends_it : Sound s → (end x.number s).reply.follows ≡ Ended
  unfolding end
  ends_it h = rw (inside x s w h, its x s w)

-- an operation that is not its end: the sleep goes on, and nothing is told of it
pub on : (n k : ℕ) (o : Operation) (os : List Operation) (s : State) → among n (step o s).reply.woken ≡ false → tells_end n o (step o s).reply ≡ false
    → told n k (o ∷ os) (replies (o ∷ os) s) ≡ told n (suc k) os (replies os (step o s).after)
unfolding told replies
on n k o os s a b = rw (a, b)

woken_now : (n k : ℕ) (o : Operation) (os : List Operation) (s : State) → among n (step o s).reply.woken ≡ true → told n k (o ∷ os) (replies (o ∷ os) s) ≡ woken_by k
unfolding told replies
woken_now n k o os s a = rw a

ended_now : (n k m : ℕ) (os : List Operation) (s : State) → among n (step (End m) s).reply.woken ≡ false → eqb n m ≡ true → (step (End m) s).reply.follows ≡ Ended
    → told n k (End m ∷ os) (replies (End m ∷ os) s) ≡ ended_by k
unfolding told replies
ended_now n k m os s a b e = rw (a, b, e)

-- the same of a step
pub unheard : (n : ℕ) {ns : List ℕ} → ns ≡ [] → among n ns ≡ false
unheard n e = rw e

module _ (s : State) where
  pass_says : (g : ℕ) → (step (Gap g) s).reply.woken ≡ []
  unfolding step
  pass_says g = (wakes_nobody g 0 0 s).0

  ask_says : (m a1 : ℕ) → (step (Ask m a1) s).reply.woken ≡ []
  unfolding step
  ask_says m a1 = (wakes_nobody 0 m a1 s).1.0

  end_says : (m : ℕ) → (step (End m) s).reply.woken ≡ []
  unfolding step
  end_says m = (wakes_nobody 0 m 0 s).1.1

module _ (x : Sleeper) (s : State) (w : Asleep x s) where
  pass_stays : (g : ℕ) → Asleep x (step (Gap g) s).after
  unfolding step
  pass_stays g = rw (pass_keeps g s) w

  ask_stays : (m a1 : ℕ) → Asleep x (step (Ask m a1) s).after
  unfolding step
  ask_stays m a1 = ask_keeps x s w m a1

  tick_stays : due s x ≡ false → Asleep x (step Tick s).after
  unfolding step tick
  tick_stays e = part_in x s w (λ y. not (due s y)) (rw e)

  tick_says_out : due s x ≡ false → among x.number (step Tick s).reply.woken ≡ false
  unfolding step tick
  tick_says_out e = called_out x s w e

  tick_says_in : due s x ≡ true → among x.number (step Tick s).reply.woken ≡ true
  unfolding step tick
  tick_says_in e = called_in x s w e

  end_stays : (m : ℕ) → eqb x.number m ≡ false → Asleep x (step (End m) s).after
  unfolding step
  end_stays m e = end_keeps x s w m e

  end_tells : (m : ℕ) → Sound s → x.number ≡ m → (step (End m) s).reply.follows ≡ Ended
  unfolding step
  end_tells m h e = rw (← e) (ends_it x s w h)

-- ── Over any operations ──

pub comes_true : (x : Sleeper) (os : List Operation) (k : ℕ) (s : State) → Sound s → Asleep x s
    → told x.number k os (replies os s) ≡ foretold x.wake x.number k s.sum os
unfolding told foretold
comes_true x [] k s h w = refl
comes_true x (Gap g ∷ os) k s h w =
    on x.number k (Gap g) os s (unheard x.number (pass_says s g)) refl
    ∙ comes_true x os (suc k) (step (Gap g) s).after (sound_step (Gap g) s h) (pass_stays x s w g)
    ∙ ap (λ (t : ℕ). foretold x.wake x.number (suc k) t os) (sum_told (Gap g) s)
comes_true x (Ask m a1 ∷ os) k s h w =
    on x.number k (Ask m a1) os s (unheard x.number (ask_says s m a1)) refl
    ∙ comes_true x os (suc k) (step (Ask m a1) s).after (sound_step (Ask m a1) s h) (ask_stays x s w m a1)
    ∙ ap (λ (t : ℕ). foretold x.wake x.number (suc k) t os) (sum_told (Ask m a1) s)
comes_true x (Tick ∷ os) k s h w = go (due s x) refl (comes_true x os (suc k) (step Tick s).after (sound_step Tick s h))
  where
    go : (b : Bool) → due s x ≡ b → (Asleep x (step Tick s).after → told x.number (suc k) os (replies os (step Tick s).after) ≡ foretold x.wake x.number (suc k) (step Tick s).after.sum os)
        → told x.number k (Tick ∷ os) (replies (Tick ∷ os) s) ≡ if b then woken_by k else foretold x.wake x.number (suc k) s.sum os
    go true e ih = woken_now x.number k Tick os s (tick_says_in x s w e)
    go false e ih =
        on x.number k Tick os s (tick_says_out x s w e) refl
        ∙ ih (tick_stays x s w e)
        ∙ ap (λ (t : ℕ). foretold x.wake x.number (suc k) t os) (sum_told Tick s)
comes_true x (End m ∷ os) k s h w = go (eqb x.number m) refl (comes_true x os (suc k) (step (End m) s).after (sound_step (End m) s h))
  where
    go : (b : Bool) → eqb x.number m ≡ b → (Asleep x (step (End m) s).after → told x.number (suc k) os (replies os (step (End m) s).after) ≡ foretold x.wake x.number (suc k) (step (End m) s).after.sum os)
        → told x.number k (End m ∷ os) (replies (End m ∷ os) s) ≡ if b then ended_by k else foretold x.wake x.number (suc k) s.sum os
    go true e ih = ended_now x.number k m os s (unheard x.number (end_says s m)) e (end_tells x s w m h (eqb-true x.number m e))
    go false e ih =
        on x.number k (End m) os s (unheard x.number (end_says s m)) (rw e)
        ∙ ih (end_stays x s w m e)
        ∙ ap (λ (t : ℕ). foretold x.wake x.number (suc k) t os) (sum_told (End m) s)
