-- What is promised of sleeping, over any list of operations from nobody asleep, refused ones included.
-- Assumes nothing.
use mathlib.Core.Path.{◌≡◌, refl, ap, ◌∙◌}
use mathlib.Core.Bool.{true, false, not}
use mathlib.Core.List.{List, []}
use Prim.Native.Nat.{ℕ, ◌+◌, ◌≤◌}
use native.Mathlib.Omega.{arith}
use lib.Dec.{eqb}
use lib.ListN.{length}
use Rattle.rules.specs.Words.{those, among, many}
use Rattle.rules.proofs.Lines.{those_those}
use Rattle.sleeps.specs.Numbers.{places}
use Rattle.sleeps.specs.declared.Operation.{Operation}
use Rattle.sleeps.specs.declared.Operation.TheVariants.{End}
use Rattle.sleeps.specs.declared.Follows.TheVariants.{Ended}
use Rattle.sleeps.specs.declared.Sleeper.{Sleeper}
use Rattle.sleeps.specs.Rules.{State, nobody, is, due, called, tick, end, step, run, replies}
use Rattle.sleeps.specs.Sound.{Sorted, Sound}
use Rattle.sleeps.specs.Told.{granted, woken, ended, still, foretold, told, granted_any, asked}
use Rattle.sleeps.proofs.Inserts.{at, sorted_part}
use Rattle.sleeps.proofs.Kept.{sound_nobody, sound_run, eight_at_most}
use Rattle.sleeps.proofs.Counts.{adds_up}
use Rattle.sleeps.proofs.Moments.{Asleep, Awake, comes_true}
use Rattle.sleeps.proofs.Once.{called_once, woken_awake, ended_awake, untold}
use Rattle.sleeps.proofs.Order.{Ordered, ordered_run, others_sleep_on}

module _ (os : List Operation) where
  -- the sleepers after these operations, and those who still sleep in order of asking
  abbrev now : State
  now = run os nobody

  abbrev queue : List Sleeper
  queue = asked os (replies os nobody) 0 []

  -- the rule of the sleepers holds
  pub sound : Sound now
  sound = sound_run os nobody sound_nobody

  -- "A sleeper is woken once, or ended, or still asleep: three counts .. that add up to the sleeps granted"
  pub counts : granted (replies os nobody) ≡ woken (replies os nobody) + (ended (replies os nobody) + length now.asleep)
  counts = omega (arith, adds_up os nobody sound_nobody)

  -- "eight at most"
  pub eight : length now.asleep ≤ places
  eight = eight_at_most now sound

  -- whoever sleeps, whatever comes: woken at the first tick at which its wake time is not above the sum, and not
  -- before, unless it ended first
  pub moment : (x : Sleeper) → Asleep x now → (more : List Operation) → told x.number 0 more (replies more now) ≡ foretold x.wake x.number 0 now.sum more
  moment x w more = comes_true x more 0 now sound w

  -- "woken once": once by a tick; then it sleeps no more, as one that ended; and nothing is told of one that is
  -- awake until it is granted a sleep
  pub once_by_a_tick : (n : ℕ) → many (eqb n) (called now) ≤ 1
  once_by_a_tick n = called_once n now sound

  pub woken_is_awake : (n : ℕ) → among n (called now) ≡ true → Awake n (tick now).after
  woken_is_awake n = woken_awake n now sound

  pub ended_is_awake : (n : ℕ) → (end n now).reply.follows ≡ Ended → Awake n (end n now).after
  ended_is_awake n = ended_awake n now

  pub awake_is_untold : (n : ℕ) → Awake n now → (more : List Operation) → granted_any n more (replies more now) ≡ false → told n 0 more (replies more now) ≡ still
  awake_is_untold n w more = untold n more 0 now w

  -- "kept by wake time, .. ties in order of asking"
  pub by_wake_time : Sorted now.asleep
  by_wake_time = sound.sorted

  pub ties : (w : ℕ) → those (at w) now.asleep ≡ those (at w) queue
  unfolding Ordered
  ties = ordered_run os nobody [] sound_nobody (λ w. refl)

  -- "woken, soonest first": those called are by wake time, and ties among them in order of asking
  pub called_by_wake_time : Sorted (those (due now) now.asleep)
  called_by_wake_time = sorted_part (due now) now.asleep sound.sorted

  pub called_ties : (w : ℕ) → those (at w) (those (due now) now.asleep) ≡ those (due now) (those (at w) queue)
  called_ties w = those_those (at w) (due now) now.asleep ∙ ap (those (due now)) (ties w)

  -- nobody else's sleep changes when one ends
  pub others : (n : ℕ) → those (λ x. not (is n x)) (step (End n) now).after.asleep ≡ those (λ x. not (is n x)) now.asleep
  others n = others_sleep_on n now
