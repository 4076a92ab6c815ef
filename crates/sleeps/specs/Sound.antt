-- The rule that the sleepers obey: the one premise that an operation may have.
use Rattle.std.specs.Prelude.{List, [], ◌∷◌, not, ℕ, ◌≤◌}
use Rattle.rules.specs.Words.{count, many, All}
use Rattle.rules.specs.Numbers.{time_limit}
use Rattle.sleeps.specs.declared.Sleeper.{Sleeper}
use Rattle.sleeps.specs.Rules.{State, outside, is}

-- x wakes no later than y
abbrev pub NoLater : Sleeper → Sleeper → Type 0
NoLater x y = x.wake ≤ y.wake

-- "kept by wake time"
abbrev pub Sorted : List Sleeper → Type 0
Sorted [] = Unit {0}
Sorted (x ∷ xs) = All (NoLater x) xs × Sorted xs

-- "One sleep a U-proc", "a U-proc number outside 1 to 8": none
abbrev pub allowed : ℕ → ℕ
allowed n = count (not (outside n))

pub record Sound (s : State) : Type 0 where
  pub limit : s.sum ≤ time_limit
  pub sorted : Sorted s.asleep
  pub once : (n : ℕ) → many (is n) s.asleep ≤ allowed n
