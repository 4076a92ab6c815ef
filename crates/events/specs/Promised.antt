-- What an event promises.
use Rattle.std.specs.Prelude.{◌≡◌, ℕ, ◌≢◌, Option, Some, None, if◌then◌else◌}
use Rattle.rules.specs.declared.Event.{Event}
use Rattle.rules.specs.declared.Arrival.{Arrival}
use Rattle.rules.specs.declared.Refusal.{Refusal}
use Rattle.rules.specs.declared.Refusal.TheVariants.{NoSuchProcessor}
use Rattle.rules.specs.Numbers.{base_slots, base_sems, base_customers}
use Rattle.rules.specs.Machine as book
use Rattle.rules.specs.Machine.{turn}
use Rattle.rules.specs.Rules.{refusal, reaches, arrive}
use Rattle.rules.specs.Tables as rule
use Rattle.tables.specs.declared.Tables.{Tables}
use Rattle.tables.specs.declared.Settled.{Settled}
use Rattle.tables.specs.View.{view, Shape, Good}

-- the layout, and the rule book's rule, while a processor's event is in hand
pub record Holds (m : Tables) : Type 0 where
  pub shape : Shape m
  pub tables : rule.Tables base_slots base_sems base_customers m.processors (view m)

abbrev pub at_processor : ℕ → Event → Arrival
at_processor k e = record { processor = k; event = e }

-- why an event at a processor is refused, none where it is accepted
abbrev pub refusal_at : ℕ → Event → book.Machine → Option Refusal
refusal_at k e m = if reaches k m then refusal (turn k m) e else Some NoSuchProcessor

-- the rule book's answer and machine; where refused, the very same tables
pub record Answers (k : ℕ) (e : Event) (m : Tables) (r : Settled) : Type 0 where
  pub seen : arrive (view m) (at_processor k e) ≡ record { after = view r.tables; answer = r.answer }
  pub same : (refusal_at k e (view m) ≢ None) → r.tables ≡ m
  pub good : Good r.tables
