-- THE NEXT EVENT: every law of one event, said of its outcome, whoever made it: the rule book (proofs/Promises, `next`)
-- or the code (crates/demands). After any events es with the answers rs from an accepted start, in the machine m, the
-- event x comes to its processor, and its outcome is o.
use Rattle.std.specs.Prelude.{◌≡◌, true, List, ℕ, length}
use Rattle.rules.specs.declared.Event.{Event}
use Rattle.rules.specs.declared.Arrival.{Arrival}
use Rattle.rules.specs.declared.Answer.{Answer}
use Rattle.rules.specs.Machine.{Machine, charge, turn}
use Rattle.rules.specs.Answers.{Outcome}
use Rattle.rules.specs.Rules.{clock, seated_again}
use Rattle.ledger.specs.History.{Past, turned, past, accepted, accepted_gap, tally_past}
use Rattle.ledger.specs.Refusals.{Refusals}
use Rattle.ledger.specs.Ids.{ids_issued, NewbornTold}
use Rattle.ledger.specs.Customers.{create_call, childs_customer, Decided}
use Rattle.ledger.specs.Targets.{standing, target_told}
use Rattle.ledger.specs.Told.{Tells}
use Rattle.ledger.specs.Choices.{Choosing}
use Rattle.ledger.specs.Kills.{Kills}
use Rattle.ledger.specs.Hands.{OtherRuns, HandsOff}
use Rattle.ledger.specs.Moves.{move, Moved}
use Rattle.ledger.specs.Order.{InOrder}
use Rattle.ledger.specs.Times.{ran_for}
use Rattle.ledger.specs.Scheduling.{Scheduled}

-- an accepted event e with its processor's seat taken: the past h, the machine m before it and the outcome o, that seat
-- taken in all three; by the starting values and ceilings, and the past b that the events es began with
pub record Done (values ceilings : List ℕ) (b : Past) (es : List Arrival) (rs : List Answer) (h : Past) (m : Machine) (e : Event) (o : Outcome) : Type 0 where
  pub granted_exactly : (reading a1 a2 a3 : ℕ) → e ≡ create_call reading a1 a2 a3 → Decided ceilings (length (ids_issued b es rs)) (childs_customer h a2) m o.answer
  pub newborn : NewbornTold o.answer.newborn o.answer.result m
  pub kills : Kills h.births (target_told (standing values b es rs) h e) m e o
  pub hands_off : OtherRuns h → HandsOff h e o.answer
  pub results : Tells (ran_for b es rs) h e o.answer
  pub moves : Moved (move e m) (charge (clock e) m) o
  pub choosing : Choosing h e o.answer
  pub order : InOrder m o.after
  pub scheduling : Scheduled o.answer o.after

pub record Next (values ceilings : List ℕ) (b : Past) (es : List Arrival) (rs : List Answer) (m : Machine) (x : Arrival) (o : Outcome) : Type 0 where
  -- a refused event changes nothing, so that nothing else is to be said of it
  pub refusals : Refusals (tally_past accepted_gap b es rs) (past b es rs) m x o
  pub done : accepted o.answer ≡ true → Done values ceilings b es rs (turned x.processor (past b es rs)) (turn x.processor m) x.event (seated_again x.processor o)
