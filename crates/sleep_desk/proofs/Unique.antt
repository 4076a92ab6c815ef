-- ONE RESULT: two results that meet the promise of an event are one. A REFUSED EVENT leaves both as they were, and the
-- sleepers are told nothing.
-- Assumes nothing.
use Rattle.std.proofs.Common.{◌≡◌, Some, None, ℕ, Bool, true, false, sym, refl, ap, ◌∙◌, if◌then◌else◌}
use Rattle.rules.specs.declared.Event.{Event}
use Rattle.rules.specs.Words.{Single}
use Rattle.rules.specs.Numbers.{base_slots, base_sems, base_customers}
use Rattle.rules.specs.declared.Refusal.TheVariants.{NoSuchProcessor}
use Rattle.rules.specs.Machine as desk
use Rattle.rules.specs.Machine.{turn}
use Rattle.rules.specs.Answers as answers
use Rattle.rules.specs.Rules.{refusal, refused, step, reaches, seated_again, arrive}
use Rattle.rules.proofs.Tables.{tables_turned}
use Rattle.ledger.proofs.Refusals.{verdict}
use Rattle.events.specs.Promised.{at_processor, refusal_at}
use Rattle.desk.specs.View as view_of
use Rattle.desk.proofs.Unique.{answer_unique}
use Rattle.sleeps.specs.Rules.{Outcome}
use Rattle.sleeping.specs.Promised as sleeping
use Rattle.sleeping.specs.Promised.{told}
use Rattle.sleeping.proofs.Unique.{sleepers_unique, turn_unique}
use Rattle.sleep_desk.specs.declared.Pair.{Pair}
use Rattle.sleep_desk.specs.declared.Served.{Served}
use Rattle.sleep_desk.specs.Rules.{quiet, gap_of, serve}
use Rattle.sleep_desk.specs.Promised.{Good, Serves}
use Rattle.sleep_desk.proofs.Steps.{refused_tells}

pub serve_unique : (u k : ℕ) (e : Event) (p : Pair) (r s : Served) → Serves u k e p r → Serves u k e p s → r ≡ s
serve_unique u k e p r s x y =
    let d = answer_unique k e p.machine _ _ x.desk y.desk in
    let t = turn_unique x.sleep y.sleep in
    λ i. record { pair = record { machine = (d i).machine; sleepers = (t i).sleepers }; answer = (d i).answer; slept = (t i).answer }

-- the answer's refusal is the one that the desk's promise speaks of
refusal_told : (k : ℕ) (e : Event) (m : desk.Machine) → Single (turn k m).running → (arrive m (at_processor k e)).answer.refusal ≡ refusal_at k e m
unfolding arrive refused
refusal_told k e m one = go (reaches k m)
  where
    go : (b : Bool) → (if b then seated_again k (step (turn k m) e) else refused NoSuchProcessor m).answer.refusal ≡ (if b then refusal (turn k m) e else Some NoSuchProcessor)
    go true = verdict (turn k m) e one
    go false = refl

module _ (u k : ℕ) (e : Event) (p : Pair) (r : Served) (g : Good p) (x : Serves u k e p r) (no : r.answer.refusal ≡ None → ⊥) where
  abbrev before : desk.Machine
  before = view_of.view p.machine

  abbrev asleep : Outcome
  asleep = quiet (sleeping.view p.sleepers)

  said : (arrive before (at_processor k e)).answer ≡ r.answer
  said = ap (λ (o : answers.Outcome). o.answer) x.desk.seen

  pub refused_machine : r.pair.machine ≡ p.machine
  refused_machine =
      let one = (tables_turned base_slots base_sems base_customers _ k before g.machine.rests.tables).one_runs in
      x.desk.same (λ z. no (sym (ap (λ a. a.refusal) said) ∙ refusal_told k e before one ∙ z))

  nothing_told : (serve u (at_processor k e) (record { machine = before; sleepers = sleeping.view p.sleepers })).sleep ≡ asleep
  unfolding serve
  nothing_told = refused_tells asleep u (gap_of (at_processor k e) before) (at_processor k e) (arrive before (at_processor k e)).answer (λ z. no (sym (ap (λ a. a.refusal) said) ∙ z))

  pub refused_sleepers : r.pair.sleepers ≡ p.sleepers
  refused_sleepers = sleepers_unique r.pair.sleepers p.sleepers x.sleep.good g.sleepers (x.sleep.seen ∙ ap (λ (o : Outcome). o.after) nothing_told)

  pub refused_quiet : told r.slept ≡ asleep.reply
  refused_quiet = x.sleep.said ∙ ap (λ (o : Outcome). o.reply) nothing_told

  pub refused_same : r.pair ≡ p
  refused_same = λ i. record { machine = refused_machine i; sleepers = refused_sleepers i }
