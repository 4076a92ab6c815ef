-- Rows of sleepers as plain lists: what the leaf functions do to an array of which the first n places are sleepers
-- and the others nought.
use Rattle.std.specs.Prelude.{Bool, List, ◌∷◌, ◌++◌, map, ℕ, ◌+◌, ◌-◌, leb, take, drop, replicate}
use Rattle.sleeps.specs.Numbers.{places}
use Rattle.sleeps.specs.Rules.{number_of}
use Rattle.sleeps.specs.declared.Sleeper.{Sleeper}

-- a row that is no sleeper's
abbrev pub blank : Sleeper
blank = record { wake = 0; number = 0 }

-- wakes no later than a time
abbrev pub no_later : ℕ → Sleeper → Bool
no_later t x = leb x.wake t

-- a list with one more put in at a place; without k from a place on
abbrev pub with_one : List Sleeper → ℕ → Sleeper → List Sleeper
with_one l at x = take at l ++ (x ∷ drop at l)

abbrev pub without_some : List Sleeper → ℕ → ℕ → List Sleeper
without_some l at k = take at l ++ drop (at + k) l

-- an array of n rows with one more
unfoldable pub put_in : List Sleeper → ℕ → ℕ → Sleeper → List Sleeper
put_in rows n at x = with_one (take n rows) at x ++ drop (n + 1) rows

-- an array of n rows without k of them: those behind move up, and the freed places are nought
unfoldable pub cut_out : List Sleeper → ℕ → ℕ → ℕ → List Sleeper
cut_out rows n at k = without_some (take n rows) at k ++ (replicate k blank ++ drop n rows)

-- the numbers of the first n rows, and noughts behind them
unfoldable pub numbers_of : List Sleeper → ℕ → List ℕ
numbers_of rows n = map number_of (take n rows) ++ replicate (places - n) 0
