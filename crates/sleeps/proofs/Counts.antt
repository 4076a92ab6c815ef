-- The three counts add up to the sleeps granted.
-- Assumes nothing.
use mathlib.Core.Path.{◌≡◌, refl}
use mathlib.Core.Bool.{true, false, not}
use mathlib.Core.List.{List, [], ◌∷◌}
use Prim.Native.Nat.{ℕ, ◌+◌}
use native.Mathlib.Omega.{arith}
use lib.Dec.{leb}
use lib.ListN.{length}
use Rattle.rules.specs.Words.{those, count}
use Rattle.rules.proofs.Cases.{if_cases}
use Rattle.rules.proofs.Lines.{count_le}
use Rattle.rules.specs.Numbers.{time_limit}
use Rattle.sleeps.specs.declared.Operation.{Operation}
use Rattle.sleeps.specs.declared.Operation.TheVariants.{Gap, Ask, Tick, End}
use Rattle.sleeps.specs.Rules.{State, Outcome, outside, is, sleeping, negative, sleeper, due, number_of, wakes, called, pass, ask, tick, end, step, run, replies}
use Rattle.sleeps.specs.Sound.{Sound}
use Rattle.sleeps.specs.Told.{grants, ends, granted, woken, ended}
use Rattle.sleeps.proofs.Lists.{many_is, any_many, length_split, length_map}
use Rattle.sleeps.proofs.Inserts.{length_insert}
use Rattle.sleeps.proofs.Kept.{sound_step}

-- waking is neither granting nor ending
pub wakes_grants : (ns : List ℕ) → grants (wakes ns) ≡ false
wakes_grants [] = refl
wakes_grants (n ∷ ns) = refl

pub wakes_ends : (ns : List ℕ) → ends (wakes ns) ≡ false
wakes_ends [] = refl
wakes_ends (n ∷ ns) = refl

-- one operation: who slept, and who was granted a sleep, is woken, ends asleep, or sleeps on
unfoldable pub Balanced : State → Outcome → Type 0
Balanced s o = length s.asleep + count (grants o.reply.follows) ≡ length o.reply.woken + (count (ends o.reply.follows) + length o.after.asleep)

-- one number ends: one sleep does
one_less : (n : ℕ) (s : State) → Sound s → sleeping n s ≡ true → length (those (λ x. not (is n x)) s.asleep) + 1 ≡ length s.asleep
one_less n s h w = omega (arith, length_split (is n) s.asleep, many_is (is n) s.asleep, any_many (is n) s.asleep w, h.once n, count_le (not (outside n)))

pub balanced : (o : Operation) (s : State) → Sound s → Balanced s (step o s)
unfolding step pass ask tick end Balanced
balanced (Gap g) s h = if_cases (Balanced s) (leb (s.sum + g) time_limit) (λ _. omega arith) (λ _. omega arith)
balanced (Ask n a1) s h =
    if_cases
    (Balanced s)
    (outside n)
    (λ _. omega arith)
    (λ _. if_cases (Balanced s) (sleeping n s) (λ _. omega arith) (λ _. if_cases (Balanced s) (negative a1) (λ _. omega arith) (λ _. omega (arith, length_insert (sleeper n a1 s) s.asleep))))
balanced Tick s h =
    rw (wakes_grants (called s), wakes_ends (called s), length_map number_of (those (due s) s.asleep)) (omega (arith, length_split (due s) s.asleep))
balanced (End n) s h = if_cases (Balanced s) (outside n) (λ _. omega arith) (λ _. if_cases (Balanced s) (sleeping n s) (λ w. omega (arith, one_less n s h w)) (λ _. omega arith))

pub adds_up : (os : List Operation) (s : State) → Sound s → length s.asleep + granted (replies os s) ≡ woken (replies os s) + (ended (replies os s) + length (run os s).asleep)
unfolding run replies Balanced
adds_up [] s h = omega arith
adds_up (o ∷ os) s h = omega (arith, balanced o s h, adds_up os (step o s).after (sound_step o s h))
