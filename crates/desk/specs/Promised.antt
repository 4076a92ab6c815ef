-- What the desk promises: the rule book's machine, number and answer.
use Rattle.std.specs.Prelude.{◌≡◌, List, ℕ, None}
use Rattle.rules.specs.declared.Event.{Event}
use Rattle.rules.specs.Numbers.{base_slots}
use Rattle.rules.specs.Starts.{start_refusal}
use Rattle.rules.specs.Rules.{arrive, start}
use Rattle.events.specs.Promised.{at_processor, refusal_at}
use Rattle.desk.specs.declared.Machine.{Machine}
use Rattle.desk.specs.declared.Started.{Started}
use Rattle.desk.specs.declared.Answered.{Answered}
use Rattle.desk.specs.View.{view, Good}

-- a start: the rule book's machine and refusal
pub record Starts (now : ℕ) (values ceilings : List ℕ) (processors : ℕ) (r : Started) : Type 0 where
  pub seen : view r.machine ≡ start base_slots processors now values ceilings
  pub refusal : r.refusal ≡ start_refusal base_slots processors values ceilings
  pub good : Good r.machine

-- an event at a processor: the rule book's answer and machine; where refused, the very same machine
pub record Answers (k : ℕ) (e : Event) (m : Machine) (r : Answered) : Type 0 where
  pub seen : arrive (view m) (at_processor k e) ≡ record { after = view r.machine; answer = r.answer }
  pub same : (refusal_at k e (view m) ≡ None → ⊥) → r.machine ≡ m
  pub good : Good r.machine
