-- The rule that the sleepers obey holds at first and is kept; and no more than eight sleep.
-- Assumes nothing.
use mathlib.Core.Path.{◌≡◌, refl, ap, ◌∙◌}
use mathlib.Core.Bool.{Bool, true, false, not, ◌&&◌}
use mathlib.Core.List.{List, [], ◌∷◌, map}
use Prim.Native.Nat.{ℕ, ◌+◌, ◌≤◌, ◌<◌}
use native.Mathlib.Nat.{zero-add}
use native.Mathlib.Omega.{arith}
use lib.Dec.{eqb, leb}
use lib.ListN.{length, get_or}
use borrow.Author.Tests.{leb-true, le-leb, lt-leb, eqb-true, eq-eqb}
use Rattle.rules.specs.Words.{those, count, many, All}
use Rattle.rules.proofs.Cases.{if_cases, get_or_past}
use Rattle.rules.proofs.Sums.{sum_over}
use Rattle.rules.proofs.Free.{many_all, within_limits, below_limits}
use Rattle.rules.specs.Numbers.{time_limit}
use Rattle.sleeps.specs.Numbers.{first_proc, last_proc, places}
use Rattle.sleeps.specs.declared.Operation.{Operation}
use Rattle.sleeps.specs.declared.Operation.TheVariants.{Gap, Ask, Tick, End}
use Rattle.sleeps.specs.declared.Sleeper.{Sleeper}
use Rattle.sleeps.specs.Rules.{State, Outcome, nobody, with_asleep, outside, is, sleeping, negative, sleeper, insert, due, number_of, pass, ask, tick, end, step, run}
use Rattle.sleeps.specs.Sound.{allowed, Sound}
use Rattle.sleeps.proofs.Lists.{none_passes, many_is, many_part, length_map}
use Rattle.sleeps.proofs.Inserts.{sum_insert, sorted_insert, sorted_part}

-- nobody of that number sleeps
pub awake : (n : ℕ) (s : State) → sleeping n s ≡ false → many (is n) s.asleep ≡ 0
awake n s h = many_is (is n) s.asleep ∙ ap length (none_passes (is n) s.asleep h)

-- ── Kept ──

pub sound_nobody : Sound nobody
sound_nobody = record { limit = omega arith; sorted = tt; once = λ n. omega arith }

-- some sleep no more
pub part_sound : (t : Sleeper → Bool) (s : State) → Sound s → Sound (with_asleep (those t s.asleep) s)
part_sound t s h = record { limit = h.limit; sorted = sorted_part t s.asleep h.sorted; once = λ n. omega (arith, h.once n, many_part (is n) t s.asleep) }

-- one more sleeps
pub more_sound : (n a1 : ℕ) (s : State) → outside n ≡ false → sleeping n s ≡ false → Sound s → Sound (with_asleep (insert (sleeper n a1 s) s.asleep) s)
more_sound n a1 s o w h = record { limit = h.limit; sorted = sorted_insert x s.asleep h.sorted; once = λ m. rw (sum_insert (λ (y : Sleeper). count (is m y)) x s.asleep) (go m (eqb m n) refl) }
  where
    x : Sleeper
    x = sleeper n a1 s

    go : (m : ℕ) (b : Bool) → eqb m n ≡ b → count b + many (is m) s.asleep ≤ allowed m
    go m true e = rw (eqb-true m n e, o, awake n s w) (omega arith)
    go m false e = omega (arith, h.once m)

After : Outcome → Type 0
After o = Sound o.after

pub sound_step : (o : Operation) (s : State) → Sound s → Sound (step o s).after
unfolding step pass ask tick end After
sound_step (Gap g) s h =
    if_cases After (leb (s.sum + g) time_limit) (λ e. record { limit = leb-true (s.sum + g) time_limit e; sorted = h.sorted; once = h.once }) (λ _. h)
sound_step (Ask n a1) s h =
    if_cases After (outside n) (λ _. h) (λ o. if_cases After (sleeping n s) (λ _. h) (λ w. if_cases After (negative a1) (λ _. h) (λ _. more_sound n a1 s o w h)))
sound_step Tick s h = part_sound (λ x. not (due s x)) s h
sound_step (End n) s h = if_cases After (outside n) (λ _. h) (λ _. if_cases After (sleeping n s) (λ _. part_sound (λ x. not (is n x)) s h) (λ _. h))

pub sound_run : (os : List Operation) (s : State) → Sound s → Sound (run os s)
unfolding run
sound_run [] s h = h
sound_run (o ∷ os) s h = sound_run os (step o s).after (sound_step o s h)

-- ── "eight at most" ──

-- how often each number may sleep, from 0 on
abbrev limits : List ℕ
limits = 0 ∷ 1 ∷ 1 ∷ 1 ∷ 1 ∷ 1 ∷ 1 ∷ 1 ∷ 1 ∷ []

past : (n : ℕ) → 9 ≤ n → allowed n ≡ 0
past n h = rw (le-leb first_proc n (omega arith), lt-leb n last_proc (omega arith))

allowed_is : (n : ℕ) → allowed n ≡ get_or limits n 0
allowed_is n = rw zero-add at (get_or_past (λ (k x : ℕ). allowed k ≡ x) 0 limits (refl, (refl, (refl, (refl, (refl, (refl, (refl, (refl, (refl, tt))))))))) (λ k h. past k (omega arith)) n)

module _ (s : State) (h : Sound s) where
  numbers : List ℕ
  numbers = map number_of s.asleep

  held : (c : ℕ) → many (eqb (0 + c)) numbers ≤ get_or limits c 0
  unfolding numbers
  held c = rw (zero-add c, sum_over (λ (m : ℕ). count (eqb c m)) number_of s.asleep, ← (allowed_is c)) (h.once c)

  all_of : many (leb 0) numbers ≡ length s.asleep
  unfolding numbers
  all_of = many_all (map number_of s.asleep) ∙ length_map number_of s.asleep

  pub eight_at_most : length s.asleep ≤ places
  eight_at_most = omega (arith, all_of, within_limits limits 0 numbers held)

  pub room_for : (n : ℕ) → outside n ≡ false → sleeping n s ≡ false → length s.asleep < places
  unfolding numbers
  room_for n o w =
      omega (arith, all_of, below_limits limits 0 numbers held n (rw (zero-add n, sum_over (λ (m : ℕ). count (eqb n m)) number_of s.asleep, awake n s w, ← (allowed_is n), o) (omega arith)))

-- who sleeps is one of 1 to 8
one_of : (n : ℕ) → 1 ≤ allowed n → n ≤ last_proc
one_of n h = go (leb n last_proc) refl h
  where
    go : (b : Bool) → leb n last_proc ≡ b → 1 ≤ count (not (not (leb first_proc n && b))) → n ≤ last_proc
    go true e k = leb-true n last_proc e
    go false e k = absurd (never (leb first_proc n) k)
      where
        never : (a : Bool) → 1 ≤ count (not (not (a && false))) → ⊥
        never true k = omega arith
        never false k = omega arith

pub all_procs : (l : List Sleeper) → ((n : ℕ) → many (is n) l ≤ allowed n) → All (λ (x : Sleeper). x.number ≤ last_proc) l
all_procs [] h = tt
all_procs (x ∷ l) h = (one_of x.number (omega (arith, rw (eq-eqb x.number x.number refl) at (h x.number))), all_procs l (λ n. omega (arith, h n)))
