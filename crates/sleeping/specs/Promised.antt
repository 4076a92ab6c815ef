-- What the sleepers in code stand for, and what an operation promises.
use Rattle.std.specs.Prelude.{◌≡◌, ℕ, ◌+◌, ◌-◌, ◌≤◌, length, take, drop, replicate}
use Rattle.rules.specs.Words.{All}
use Rattle.sleeps.specs.Numbers.{places, last_proc}
use Rattle.sleeps.specs.Rules.{State, Reply, Outcome}
use Rattle.sleeps.specs.Sound.{Sound}
use Rattle.sleeps.specs.declared.Sleeper.{Sleeper}
use Rattle.sleeps.specs.declared.Sleepers.{Sleepers}
use Rattle.sleeps.specs.declared.Answer.{Answer}
use Rattle.sleeps.specs.declared.Turn.{Turn}
use Rattle.sleeping.specs.Rows.{blank, put_in, cut_out}

abbrev pub view : Sleepers → State
view m = record { sum = m.sum; asleep = take m.count m.rows }

-- the rule of the sleepers in code: those behind the count are nought, and what they stand for obeys the rule
-- book's own
pub record Good (m : Sleepers) : Type 0 where
  pub long : length m.rows ≡ places
  pub room : m.count ≤ places
  pub rest : drop m.count m.rows ≡ replicate (places - m.count) blank
  pub sound : Sound (view m)

-- one more sleeper, at a place; and k fewer, from a place on
abbrev pub grown : Sleepers → ℕ → Sleeper → Sleepers
grown m at x = record { sum = m.sum; count = m.count + 1; rows = put_in m.rows m.count at x }

abbrev pub shrunk : Sleepers → ℕ → ℕ → Sleepers
shrunk m at k = record { sum = m.sum; count = m.count - k; rows = cut_out m.rows m.count at k }

abbrev pub told : Answer → Reply
told a = record { refusal = a.refusal; follows = a.follows; woken = take a.count a.woken }

-- as many as are woken are counted, each one of 1 to 8, and the others are nought
pub record Whole (a : Answer) : Type 0 where
  pub long : length a.woken ≡ places
  pub room : a.count ≤ places
  pub rest : drop a.count a.woken ≡ replicate (places - a.count) 0
  pub procs : All (λ (n : ℕ). n ≤ last_proc) (take a.count a.woken)

-- the outcome is what the rule book says
pub record Comes (o : Outcome) (r : Turn) : Type 0 where
  pub seen : view r.sleepers ≡ o.after
  pub said : told r.answer ≡ o.reply
  pub good : Good r.sleepers
  pub whole : Whole r.answer
