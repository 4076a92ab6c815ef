-- What the operations and the answers tell, with no sleepers in sight.
use Rattle.std.specs.Prelude.{Bool, true, false, not, ◌&&◌, ◌||◌, List, [], ◌∷◌, ◌++◌, ℕ, suc, ◌+◌, ◌*◌, eqb, leb, length, if◌then◌else◌}
use Rattle.rules.specs.Words.{those, among, sum, many}
use Rattle.rules.specs.Numbers.{time_limit}
use Rattle.sleeps.specs.Numbers.{second}
use Rattle.sleeps.specs.declared.Operation.{Operation}
use Rattle.sleeps.specs.declared.Operation.TheVariants.{Gap, Ask, Tick, End}
use Rattle.sleeps.specs.declared.Follows.{Follows}
use Rattle.sleeps.specs.declared.Follows.TheVariants.{Nothing, Sleeps, Ends, Wakes, Ended}
use Rattle.sleeps.specs.declared.Sleeper.{Sleeper}
use Rattle.sleeps.specs.Rules.{Reply, is}

-- ── The three counts, and the sleeps granted ──

abbrev pub grants : Follows → Bool
grants Nothing = false
grants Sleeps = true
grants Ends = false
grants Wakes = false
grants Ended = false

abbrev pub ends : Follows → Bool
ends Nothing = false
ends Sleeps = false
ends Ends = false
ends Wakes = false
ends Ended = true

abbrev pub granted : List Reply → ℕ
granted rs = many (λ (r : Reply). grants r.follows) rs

abbrev pub woken : List Reply → ℕ
woken rs = sum (λ (r : Reply). length r.woken) rs

abbrev pub ended : List Reply → ℕ
ended rs = many (λ (r : Reply). ends r.follows) rs

-- ── The sum of accepted gaps ──

-- the sum after an operation
abbrev pub later : Operation → ℕ → ℕ
later (Gap g) t = if leb (t + g) time_limit then t + g else t
later (Ask n a1) t = t
later Tick t = t
later (End n) t = t

-- ── How a sleep is over ──

-- by the operation with so many before it, or not yet
pub data Moment : Type 0 where
  woken_by : ℕ → Moment
  ended_by : ℕ → Moment
  still : Moment

-- as the rules foretell it of a U-proc n that sleeps until w, from the sum t on: woken at the first tick at which w
-- is not above the sum, unless it ended before
unfoldable pub foretold : ℕ → ℕ → ℕ → ℕ → List Operation → Moment
foretold w n k t [] = still
foretold w n k t (Gap g ∷ os) = foretold w n (suc k) (later (Gap g) t) os
foretold w n k t (Ask m a1 ∷ os) = foretold w n (suc k) t os
foretold w n k t (Tick ∷ os) = if leb w t then woken_by k else foretold w n (suc k) t os
foretold w n k t (End m ∷ os) = if eqb n m then ended_by k else foretold w n (suc k) t os

-- as the answers tell it
abbrev pub tells_end : ℕ → Operation → Reply → Bool
tells_end n (Gap g) r = false
tells_end n (Ask m a1) r = false
tells_end n Tick r = false
tells_end n (End m) r = eqb n m && ends r.follows

unfoldable pub told : ℕ → ℕ → List Operation → List Reply → Moment
told n k [] rs = still
told n k (o ∷ os) [] = still
told n k (o ∷ os) (r ∷ rs) = if among n r.woken then woken_by k else (if tells_end n o r then ended_by k else told n (suc k) os rs)

-- the answer grants a sleep to n
abbrev pub granted_to : ℕ → Operation → Reply → Bool
granted_to n (Gap g) r = false
granted_to n (Ask m a1) r = eqb n m && grants r.follows
granted_to n Tick r = false
granted_to n (End m) r = false

-- ── The order of asking ──

-- those who still sleep, in order of asking, from the operations, the answers and the sum at each
abbrev pub asking : Operation → Reply → ℕ → List Sleeper → List Sleeper
asking (Gap g) r t q = q
asking (Ask n a1) r t q = if grants r.follows then q ++ (record { wake = t + a1 * second; number = n } ∷ []) else q
asking Tick r t q = those (λ (x : Sleeper). not (leb x.wake t)) q
asking (End n) r t q = if ends r.follows then those (λ (x : Sleeper). not (is n x)) q else q

unfoldable pub asked : List Operation → List Reply → ℕ → List Sleeper → List Sleeper
asked [] rs t q = q
asked (o ∷ os) [] t q = q
asked (o ∷ os) (r ∷ rs) t q = asked os rs (later o t) (asking o r t q)

-- some answer grants a sleep to n
unfoldable pub granted_any : ℕ → List Operation → List Reply → Bool
granted_any n [] rs = false
granted_any n (o ∷ os) [] = false
granted_any n (o ∷ os) (r ∷ rs) = granted_to n o r || granted_any n os rs
