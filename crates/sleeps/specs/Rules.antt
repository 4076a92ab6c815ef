-- THE RULE BOOK of sleeping: 02, (x), as short definitions that compute.
use Rattle.std.specs.Prelude.{Bool, not, Option, Some, None, ◌&&◌, List, [], ◌∷◌, map, ℕ, ◌+◌, ◌*◌, eqb, leb, ltb, if◌then◌else◌}
use Rattle.rules.specs.Words.{those, any}
use Rattle.rules.specs.Numbers.{time_limit}
use Rattle.sleeps.specs.Numbers.{first_proc, last_proc, sign, second}
use Rattle.sleeps.specs.declared.Operation.{Operation}
use Rattle.sleeps.specs.declared.Operation.TheVariants.{Gap, Ask, Tick, End}
use Rattle.sleeps.specs.declared.Follows.{Follows}
use Rattle.sleeps.specs.declared.Follows.TheVariants.{Nothing, Sleeps, Ends, Wakes, Ended}
use Rattle.sleeps.specs.declared.Refusal.{Refusal}
use Rattle.sleeps.specs.declared.Refusal.TheVariants.{TimeFull, NoSuchProc, AsleepAlready}
use Rattle.sleeps.specs.declared.Sleeper.{Sleeper}

-- ── The sleepers, and an answer ──

-- the sum of accepted gaps, and those asleep: "Sleepers are kept by wake time"
pub record State : Type 0 where
  pub sum : ℕ
  pub asleep : List Sleeper

pub record Reply : Type 0 where
  pub refusal : Option Refusal
  pub follows : Follows
  pub woken : List ℕ

pub record Outcome : Type 0 where
  pub reply : Reply
  pub after : State

-- nothing has passed and nobody sleeps
abbrev pub nobody : State
nobody = record { sum = 0; asleep = [] }

abbrev pub with_asleep : List Sleeper → State → State
with_asleep xs s = record { sum = s.sum; asleep = xs }

-- a refusal, "and neither changes anything"
abbrev pub refused : Refusal → State → Outcome
refused r s = record { reply = record { refusal = Some r; follows = Nothing; woken = [] }; after = s }

abbrev pub answered : Follows → List ℕ → State → Outcome
answered f ns s = record { reply = record { refusal = None; follows = f; woken = ns }; after = s }

-- ── Words ──

-- "a U-proc number outside 1 to 8"
abbrev pub outside : ℕ → Bool
outside n = not (leb first_proc n && leb n last_proc)

abbrev pub is : ℕ → Sleeper → Bool
is n x = eqb n x.number

-- "while asleep"
abbrev pub sleeping : ℕ → State → Bool
sleeping n s = any (is n) s.asleep

-- "a1 is read as signed; negative .."
abbrev pub negative : ℕ → Bool
negative a1 = leb sign a1

-- "wake time, the sum of accepted gaps plus the seconds in microseconds"
abbrev pub sleeper : ℕ → ℕ → State → Sleeper
sleeper n a1 s = record { wake = s.sum + a1 * second; number = n }

-- "kept by wake time .. ties in order of asking": before the first who wakes later
unfoldable pub insert : Sleeper → List Sleeper → List Sleeper
insert x [] = x ∷ []
insert x (y ∷ ys) = if ltb x.wake y.wake then x ∷ y ∷ ys else y ∷ insert x ys

-- "whose wake time is not above that sum"
abbrev pub due : State → Sleeper → Bool
due s x = leb x.wake s.sum

abbrev pub number_of : Sleeper → ℕ
number_of x = x.number

-- ── The operations ──

-- 01: "the sum of accepted gaps would exceed .. 2 to the 62": such a gap is no accepted one
unfoldable pub pass : ℕ → State → Outcome
pass gap s = if leb (s.sum + gap) time_limit then answered Nothing [] (record { sum = s.sum + gap; asleep = s.asleep }) else refused TimeFull s

-- "a U-proc asks .. to sleep a1 seconds": "outside 1 to 8 is refused with 9, a second request while asleep,
-- negative too, with 10"; "negative ends the U-proc"
unfoldable pub ask : ℕ → ℕ → State → Outcome
ask n a1 s =
    if outside n then refused NoSuchProc s
    else (if sleeping n s then refused AsleepAlready s
    else (if negative a1 then answered Ends [] s
    else answered Sleeps [] (with_asleep (insert (sleeper n a1 s) s.asleep) s)))

-- "At a tick just those whose wake time is not above that sum are woken, soonest first"
abbrev pub wakes : List ℕ → Follows
wakes [] = Nothing
wakes (n ∷ ns) = Wakes

abbrev pub called : State → List ℕ
called s = map number_of (those (due s) s.asleep)

unfoldable pub tick : State → Outcome
tick s = answered (wakes (called s)) (called s) (with_asleep (those (λ x. not (due s x)) s.asleep) s)

-- "or ended": a U-proc that ends sleeps no more
unfoldable pub end : ℕ → State → Outcome
end n s =
    if outside n then refused NoSuchProc s
    else (if sleeping n s then answered Ended [] (with_asleep (those (λ x. not (is n x)) s.asleep) s) else answered Nothing [] s)

unfoldable pub step : Operation → State → Outcome
step (Gap g) s = pass g s
step (Ask n a1) s = ask n a1 s
step Tick s = tick s
step (End n) s = end n s

-- ── Any list of operations ──

unfoldable pub run : List Operation → State → State
run [] s = s
run (o ∷ os) s = run os (step o s).after

unfoldable pub replies : List Operation → State → List Reply
replies [] s = []
replies (o ∷ os) s = (step o s).reply ∷ replies os (step o s).after
