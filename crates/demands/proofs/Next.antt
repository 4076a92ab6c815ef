-- The laws of one event, of the code's own answer and machine.
use Rattle.std.specs.Prelude.{◌≡◌, List, ℕ, None}
use Rattle.std.proofs.Common.{subst}
use Rattle.rules.specs.declared.Arrival.{Arrival}
use Rattle.rules.specs.Numbers.{base_slots}
use Rattle.rules.specs.Starts.{start_refusal}
use Rattle.ledger.specs.History.{beginning}
use Rattle.ledger.specs.Next.{Next}
use Rattle.desk.specs.declared.Started.{Started}
use Rattle.desk.specs.declared.Answered.{Answered}
use Rattle.desk.specs.View.{view}
use Rattle.desk.specs.Promised.{Starts, Answers}
use Rattle.desk.specs.Lists.{Follows, after, told}
use Rattle.demands.specs.Demands.{demand_3, outcome}

-- EVERY LAW OF ONE EVENT, OF THE CODE: after any events, whatever event x comes next at whatever processor, of the
-- answer that the code gives to it and of the machine that it hands back
pub next_event : (number now : ℕ) (values ceilings : List ℕ) (es : List Arrival) (x : Arrival) (s : Started) (rs : List Answered) (r : Answered)
    → start_refusal base_slots number values ceilings ≡ None → Starts now values ceilings number s → Follows s.machine es rs → Answers x.processor x.event (after s.machine rs) r
    → Next values ceilings (beginning number now) es (told rs) (view (after s.machine rs)) x (outcome r)
next_event number now values ceilings es x s rs r ok t f a =
    subst (Next values ceilings (beginning number now) es (told rs) (view (after s.machine rs)) x) a.seen
    ((demand_3 number now values ceilings es s rs ok t f).next x)
