-- WHAT HOLDS OF WHOEVER CALLS THE CODE: a start, sleepers of whom nobody sleeps, and then anything that may happen.
use Rattle.std.specs.Prelude.{◌≡◌, ℕ, ◌+◌, List, map, length}
use Rattle.rules.specs.declared.Answer as desk
use Rattle.rules.specs.Numbers.{base_slots}
use Rattle.rules.specs.Rules as rules
use Rattle.rules.specs.Rules.{start}
use Rattle.ledger.specs.History.{beginning, accepted_gap, tally_at}
use Rattle.sleeps.specs.declared.Answer as sleeps
use Rattle.sleeps.specs.Rules as sleeps-rules
use Rattle.sleeps.specs.Rules.{nobody}
use Rattle.sleeps.specs.Told.{granted, woken, ended}
use Rattle.sleeping.specs.Promised.{told}
use Rattle.sleep_desk.specs.declared.Pair.{Pair}
use Rattle.sleep_desk.specs.Rules.{timing_processor}
use Rattle.sleep_desk.specs.Promised.{view, Good}
use Rattle.sleep_desk.specs.Told as book
use Rattle.sleep_desk.specs.Told.{Happening, arrivals, operations}

-- from p to q, with the answers of both: as the rule book says
pub record Followed (p : Pair) (hs : List Happening) (q : Pair) (ds : List desk.Answer) (ss : List sleeps.Answer) : Type 0 where
  pub seen : view q ≡ book.run hs (view p)
  pub desk : ds ≡ book.answers hs (view p)
  pub sleep : map told ss ≡ book.replies hs (view p)
  pub good : Good q

pub record Lawful (number now : ℕ) (values ceilings : List ℕ) (hs : List Happening) (q : Pair) (ds : List desk.Answer) (ss : List sleeps.Answer) : Type 0 where
  -- the desk is the desk alone: demand 3 holds of it
  pub alone : ds ≡ rules.answers (start base_slots number now values ceilings) (arrivals hs)
  pub machine : (view q).machine ≡ rules.run (start base_slots number now values ceilings) (arrivals hs)
  -- the sleepers are what their rule book makes of all that they are told
  pub sleepers : (view q).sleepers ≡ sleeps-rules.run (operations hs (start base_slots number now values ceilings)) nobody
  -- "three counts, each taken from the events, that add up to the sleeps granted"
  pub counts : granted (map told ss) ≡ woken (map told ss) + (ended (map told ss) + length (view q).sleepers.asleep)
  -- (xiii): "Sleep is timed by processor 0's gaps alone."
  pub timed : (view q).sleepers.sum ≡ tally_at timing_processor accepted_gap (beginning number now) (arrivals hs) ds
