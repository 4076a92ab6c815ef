-- An event at a processor: refused with 7 where there is none, unless the machine is over; otherwise an event of the
-- machine with that seat taken.
-- A refused one leaves the machine as it was.
use Rattle.std.specs.Prelude.{if◌then◌else◌, Some}
use mathlib.Core.Path.{◌≡◌, refl, ◌∙◌, ap}
use mathlib.Core.Bool.{Bool, true, false, ◌||◌}
use Prim.Native.Nat.{ℕ, ◌≤◌, ◌<◌}
use lib.Dec.{ltb}
use borrow.Author.Tests.{lt-ltb, le-ltb, ltb-true, ltb-false}
use Rattle.rules.specs.declared.Event.{Event}
use Rattle.rules.specs.declared.Arrival.{Arrival}
use Rattle.rules.specs.declared.Refusal.{Refusal}
use Rattle.rules.specs.declared.Refusal.TheVariants.{Over, NoSuchProcessor}
use Rattle.rules.proofs.Cases.{if_cases, or_true}
use Rattle.rules.specs.Machine.{Machine, processors, turn}
use Rattle.rules.specs.Answers.{Outcome, plain, refusing}
use Rattle.rules.specs.Rules.{reaches, seated_again, rows, refusal, refused, not_on, stopped, step, arrive}
use Rattle.rules.proofs.Laws.{refuses}
use Rattle.rules.proofs.Sound.{Settled, settled}
use Rattle.rules.proofs.Turns.{turn_out, turn_turn, status_turned, settled_turned}

-- the two ways of an event
pub arrive_cases : (Q : Outcome → Type 0) (m : Machine) (x : Arrival) → Q (seated_again x.processor (step (turn x.processor m) x.event)) → Q (refused NoSuchProcessor m) → Q (arrive m x)
unfolding arrive
arrive_cases Q m x there nowhere = if_cases Q (reaches x.processor m) (λ _. there) (λ _. nowhere)

-- there is such a processor
pub arrives_in : (m : Machine) (x : Arrival) → x.processor < processors m → arrive m x ≡ seated_again x.processor (step (turn x.processor m) x.event)
unfolding arrive reaches
arrives_in m x h = rw (lt-ltb x.processor (processors m) h, or_true (stopped m)) refl

-- 1: "the machine has halted or panicked"
pub over_first : (m : Machine) (e : Event) → stopped m ≡ true → refusal m e ≡ Some Over
unfolding refusal rows
over_first m e h = rw h refl

stopped_turned : (k : ℕ) (m : Machine) → stopped (turn k m) ≡ stopped m
unfolding stopped
stopped_turned k m = ap not_on (status_turned k m)

-- there is none: 1 where the machine is over, else 7, and the machine is as it was
pub no_such_refused : (m : Machine) (x : Arrival) → processors m ≤ x.processor → arrive m x ≡ refused (if stopped m then Over else NoSuchProcessor) m
unfolding arrive reaches refused
no_such_refused m x h = rw (le-ltb x.processor (processors m) h) (go (stopped m) refl)
  where
    go : (b : Bool) → stopped m ≡ b → (if b || false then seated_again x.processor (step (turn x.processor m) x.event) else refused NoSuchProcessor m) ≡ refused (if b then Over else NoSuchProcessor) m
    go true e =
        let k = x.processor in
        ap (λ (n : Machine). seated_again k (step n x.event)) (turn_out k m h)
        ∙ ap (seated_again k) (refuses m x.event Over (over_first m x.event e))
        ∙ ap (λ (n : Machine). record { after = n; answer = refusing Over plain }) (turn_out k m h)
    go false e = refl

pub no_such : (m : Machine) (x : Arrival) → processors m ≤ x.processor → (arrive m x).after ≡ m
unfolding refused
no_such m x h = ap (λ (o : Outcome). o.after) (no_such_refused m x h)

-- A REFUSED EVENT LEAVES THE MACHINE AS IT WAS, and its answer is the number alone
pub refused_at : (m : Machine) (x : Arrival) (r : Refusal) → x.processor < processors m → refusal (turn x.processor m) x.event ≡ Some r → arrive m x ≡ refused r m
unfolding refused
refused_at m x r l h =
    arrives_in m x l ∙ ap (seated_again x.processor) (refuses (turn x.processor m) x.event r h)
    ∙ ap (λ (k : Machine). record { after = k; answer = refusing r plain }) (turn_turn x.processor m)

-- a machine that is over refuses every event with 1, at whatever processor
pub over_at : (m : Machine) (x : Arrival) → stopped m ≡ true → arrive m x ≡ refused Over m
over_at m x h = go (ltb x.processor (processors m)) refl
  where
    go : (b : Bool) → ltb x.processor (processors m) ≡ b → arrive m x ≡ refused Over m
    go true e = refused_at m x Over (ltb-true x.processor (processors m) e) (over_first (turn x.processor m) x.event (stopped_turned x.processor m ∙ h))
    go false e = no_such_refused m x (ltb-false x.processor (processors m) e) ∙ ap (λ (b : Bool). refused (if b then Over else NoSuchProcessor) m) h

-- each once, and at most one on each processor, after any event
pub settled_arrives : (m : Machine) (x : Arrival) → Settled m → Settled (arrive m x).after
unfolding refused
settled_arrives m x s =
    let k = x.processor in
    arrive_cases (λ (o : Outcome). Settled o.after) m x (settled_turned k _ (settled (turn k m) x.event (settled_turned k m s))) s
