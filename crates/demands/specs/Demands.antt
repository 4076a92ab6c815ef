-- DEMAND 3 OF THE CODE: whoever starts the desk and hands it any events, one after the other, refused ones included,
-- gets answers and a machine of which every law of the ledger holds. Each field is a law of crates/ledger, said of what
-- the code answered and of the machine it came to.
use Rattle.std.specs.Prelude.{◌≡◌, refl, ◌≢◌, true, List, [], ◌∷◌, map, ℕ, ◌≤◌, ◌<◌, length, get_or, None}
use Rattle.std.proofs.Common.{sym, ap, ◌∙◌, subst, arith, lt-ltb}
use Rattle.rules.specs.declared.Arrival.{Arrival}
use Rattle.rules.specs.declared.Answer.{Answer}
use Rattle.rules.specs.declared.Refusal.TheVariants.{Over}
use Rattle.rules.specs.Words.{All}
use Rattle.rules.specs.Numbers.{base_slots, top}
use Rattle.rules.specs.Machine as book
use Rattle.rules.specs.Machine.{Process, living, living_of, child_of, processors, turn}
use Rattle.rules.specs.Answers.{Outcome, plain, refusing}
use Rattle.rules.specs.Starts.{start_refusal, started}
use Rattle.rules.specs.Rules.{step, arrive, start, run, answers}
use Rattle.rules.specs.Tables.{Rests}
use Rattle.rules.proofs.Cases.{and_intro}
use Rattle.rules.proofs.Tables.{start_passed}
use Rattle.rules.proofs.Arrivals.{arrives_in}
use Rattle.ledger.specs.History.{beginning, turned, past, accepted}
use Rattle.ledger.specs.Ids.{ids_issued, Ids}
use Rattle.ledger.specs.Customers.{create_call, granted, Taken, Agree, Alike, Customers, childs_customer}
use Rattle.ledger.specs.Places.{Places}
use Rattle.ledger.specs.Told.{ToldOf}
use Rattle.ledger.specs.Choices.{Queued}
use Rattle.ledger.specs.Kills.{AncestorsAlive}
use Rattle.ledger.specs.Order.{trail, NobodyOvertakes}
use Rattle.ledger.specs.Waits.{Waits}
use Rattle.ledger.specs.Semaphores.{Semaphores}
use Rattle.ledger.specs.Times.{Times}
use Rattle.ledger.specs.Ranges.{word, WellFormed, Ranged, Fits}
use Rattle.ledger.specs.Starts.{RefusedStart}
use Rattle.ledger.specs.Next.{Next}
use Rattle.ledger.proofs.Promises as promises
use Rattle.desk.specs.declared.Machine.{Machine}
use Rattle.desk.specs.declared.Started.{Started}
use Rattle.desk.specs.declared.Answered.{Answered}
use Rattle.desk.specs.View.{view}
use Rattle.desk.specs.Promised.{Starts, Answers}
use Rattle.desk.specs.Lists.{Follows, after, told, follows, of_code}

-- an accepted start's machine, after any events, obeys the rule and is at rest
ended : (number now : ℕ) (values ceilings : List ℕ) (es : List Arrival) → start_refusal base_slots number values ceilings ≡ None
    → Rests base_slots (length values) (length ceilings) number (run (start base_slots number now values ceilings) es)
ended number now values ceilings es ok =
    let one : 1 ≤ length ceilings = some_customer ceilings (start_passed base_slots number values ceilings ok).1.0 in
    let many : started base_slots number values ceilings ≡ number = rw ok refl in
    subst (λ (n : ℕ). Rests base_slots (length values) (length ceilings) n (run (start base_slots number now values ceilings) es)) many
    (promises.tables base_slots number now values ceilings es (omega arith) one)
  where
    some_customer : (cs : List ℕ) → 1 ≤ get_or cs 0 0 → 1 ≤ length cs
    some_customer [] h = absurd (omega (arith, h))
    some_customer (c ∷ cs) h = omega arith

-- the laws, of what was said and of the machine at the end; those of one event, of whatever event comes next (`next`,
-- which `next_event` of proofs/Next says of the code's own outcome)
pub record Lawful (number now : ℕ) (values ceilings : List ℕ) (es : List Arrival) (said : List Answer) (end : book.Machine) : Type 0 where
  pub tables : Rests base_slots (length values) (length ceilings) number end
  pub ids : Ids (beginning number now) es said end
  pub customers : Customers ceilings (beginning number now) es said end
  pub room : (c : ℕ) → living_of c end < get_or ceilings c 0 → length (living end) < base_slots
  pub places : Places (past (beginning number now) es said) end
  pub told_births : All (ToldOf (past (beginning number now) es said).births) (living end)
  pub queues : Queued (past (beginning number now) es said).queues end
  pub ancestors : AncestorsAlive (past (beginning number now) es said).births end
  pub nobody_overtakes : (later : List Arrival) → NobodyOvertakes end (trail end later)
  -- 02, (vii): whatever events come later
  pub waits : (later : List Arrival) → Waits (past (beginning number now) es said) later (answers end later)
  pub semaphores : Semaphores values es said end
  pub times : Times (beginning number now) es said end
  pub ranges : now < word → All (λ x. WellFormed x.event) es → Ranged end × All (Fits base_slots number) said
  pub next : (x : Arrival) → Next values ceilings (beginning number now) es said end x (arrive end x)

-- any start that is accepted, any events at any processors, any results that meet `event`'s promise one after the other
pub demand_3 : (number now : ℕ) (values ceilings : List ℕ) (es : List Arrival) (s : Started) (rs : List Answered)
    → start_refusal base_slots number values ceilings ≡ None → Starts now values ceilings number s → Follows s.machine es rs → Lawful number now values ceilings es (told rs) (view (after s.machine rs))
demand_3 number now values ceilings es s rs ok t f =
    of_code (Lawful number now values ceilings es) now values ceilings number es s rs t f record {
      tables = ended number now values ceilings es ok;
      ids = promises.ids base_slots number now values ceilings es (omega arith) ok;
      customers = promises.customers base_slots number now values ceilings es (omega arith) ok;
      room = promises.room base_slots number now values ceilings es (omega arith) ok;
      places = promises.places base_slots number now values ceilings es (omega arith) ok;
      told_births = promises.told_births base_slots number now values ceilings es (omega arith) ok;
      queues = promises.queues base_slots number now values ceilings es (omega arith) ok;
      ancestors = promises.ancestors base_slots number now values ceilings es (omega arith) ok;
      nobody_overtakes = promises.nobody_overtakes base_slots number now values ceilings es (omega arith) ok;
      waits = promises.waits base_slots number now values ceilings es (omega arith) ok;
      semaphores = promises.semaphores base_slots number now values ceilings es (omega arith) ok;
      times = promises.times base_slots number now values ceilings es (omega arith) ok;
      ranges = promises.ranges base_slots number now values ceilings es (omega arith) ok;
      next = promises.next base_slots number now values ceilings es (omega arith) ok;
    }

-- what the code came to and answered, as an outcome
abbrev pub outcome : Answered → Outcome
outcome r = record { after = view r.machine; answer = r.answer }

-- the machines that the code hands back one after the other
abbrev pub machines : List Answered → List book.Machine
machines rs = map (λ r. view r.machine) rs

trails : (es : List Arrival) (m : Machine) (rs : List Answered) → Follows m es rs → machines rs ≡ trail (view m) es
trails [] m [] f = refl
trails [] m (r ∷ rs) f = absurd f
trails (e ∷ es) m [] f = absurd f
trails (e ∷ es) m (r ∷ rs) f =
    let next : view r.machine ≡ (arrive (view m) e).after = sym (ap (λ (x : Outcome). x.after) f.0.seen) in
    ap (λ (ns : List book.Machine). view r.machine ∷ ns) (trails es r.machine rs f.1) ∙ ap (λ (k : book.Machine). k ∷ trail k es) next

-- FIRST COME, FIRST SERVED, OF THE CODE: as long as x stands in a line, in each machine that the code hands back,
-- nobody who was behind it is before it
pub nobody_overtakes_in_code : (number now : ℕ) (values ceilings : List ℕ) (es later : List Arrival) (s : Started) (rs more : List Answered)
    → start_refusal base_slots number values ceilings ≡ None → Starts now values ceilings number s → Follows s.machine es rs → Follows (after s.machine rs) later more
    → NobodyOvertakes (view (after s.machine rs)) (machines more)
nobody_overtakes_in_code number now values ceilings es later s rs more ok t f g =
    subst (NobodyOvertakes (view (after s.machine rs))) (sym (trails later (after s.machine rs) more g))
    ((demand_3 number now values ceilings es s rs ok t f).nobody_overtakes later)

-- 02, (ii), of the code: whatever the other customers did, a create for a customer below its ceiling is granted while
-- ids last
pub below_ceiling_granted : (number now k reading a1 a2 a3 : ℕ) (values ceilings : List ℕ) (es : List Arrival) (s : Started) (rs : List Answered) (r : Answered)
    → start_refusal base_slots number values ceilings ≡ None → Starts now values ceilings number s → Follows s.machine es rs → Answers k (create_call reading a1 a2 a3) (after s.machine rs) r
    → let c = childs_customer (turned k (past (beginning number now) es (told rs))) a2 in
    accepted r.answer ≡ true → living_of c (turn k (view (after s.machine rs))) < get_or ceilings c 0 → length (ids_issued (beginning number now) es (told rs)) < top → granted r.answer ≡ true
below_ceiling_granted number now k reading a1 a2 a3 values ceilings es s rs r ok t f a taken below last =
    let x : Arrival = record { processor = k; event = create_call reading a1 a2 a3 } in
    let c = childs_customer (turned k (past (beginning number now) es (told rs))) a2 in
    let issued = length (ids_issued (beginning number now) es (told rs)) in
    let next = subst (Next values ceilings (beginning number now) es (told rs) (view (after s.machine rs)) x) a.seen ((demand_3 number now values ceilings es s rs ok t f).next x) in
    ((next.done taken).granted_exactly reading a1 a2 a3 refl).exactly
    ∙ and_intro _ _ (lt-ltb (living_of c (turn k (view (after s.machine rs)))) (get_or ceilings c 0) below) (lt-ltb issued top last)

-- REFUSED STARTS, of the code: why, the machine beside it, an answer of 1 to every event, and the machine unchanged
pub refused_start : (number now : ℕ) (values ceilings : List ℕ) (es : List Arrival) (s : Started) (rs : List Answered)
    → start_refusal base_slots number values ceilings ≢ None → Starts now values ceilings number s → Follows s.machine es rs
    → (s.refusal ≡ start_refusal base_slots number values ceilings) × RefusedStart base_slots (length values) (length ceilings) (view s.machine) es
    × (told rs ≡ map (λ e. refusing Over plain) es) × (view (after s.machine rs) ≡ view s.machine)
refused_start number now values ceilings es s rs bad t f =
    let h = subst (λ (m : book.Machine). RefusedStart base_slots (length values) (length ceilings) m es) (sym t.seen) (promises.refused_start base_slots number now values ceilings es bad) in
    let g = follows es s.machine rs f in
    (t.refusal, h, g.0 ∙ h.refuses, g.1 ∙ h.unchanged)

-- 02, (vii), of the code: it goes on with whatever events come later, and its own answers to them are those of the law
pub nobody_waits_longer : (number now : ℕ) (values ceilings : List ℕ) (es later : List Arrival) (s : Started) (rs more : List Answered)
    → start_refusal base_slots number values ceilings ≡ None → Starts now values ceilings number s → Follows s.machine es rs → Follows (after s.machine rs) later more
    → Waits (past (beginning number now) es (told rs)) later (told more)
nobody_waits_longer number now values ceilings es later s rs more ok t f g =
    subst (Waits (past (beginning number now) es (told rs)) later) (sym (follows later (after s.machine rs) more g).0)
    ((demand_3 number now values ceilings es s rs ok t f).waits later)

-- 02, (ii), of the code: two machines that agree on a customer's ceiling and living count, and that both take the
-- event, grant or deny a create of its child by the same caller's customer alike, whatever the others hold
pub isolation : (m m' : Machine) (r r' : Answered) (p p' : Process) (now now' a1 a1' a2 a3 a3' k k' : ℕ)
    → Answers k (create_call now a1 a2 a3) m r → Answers k' (create_call now' a1' a2 a3') m' r' → k < processors (view m) → k' < processors (view m')
    → Taken p (turn k (view m)) (create_call now a1 a2 a3) → Taken p' (turn k' (view m')) (create_call now' a1' a2 a3')
    → p.customer ≡ p'.customer → Agree (child_of p.customer a2) (turn k (view m)) (turn k' (view m')) → Alike p p' r.answer r'.answer
isolation m m' r r' p p' now now' a1 a1' a2 a3 a3' k k' o o' l l' t t' same g =
    let said : (step (turn k (view m)) (create_call now a1 a2 a3)).answer ≡ r.answer =
    sym (ap (λ (x : Outcome). x.answer) (arrives_in (view m) (record { processor = k; event = create_call now a1 a2 a3 }) l)) ∙ ap (λ (x : Outcome). x.answer) o.seen in
    let said' : (step (turn k' (view m')) (create_call now' a1' a2 a3')).answer ≡ r'.answer =
    sym (ap (λ (x : Outcome). x.answer) (arrives_in (view m') (record { processor = k'; event = create_call now' a1' a2 a3' }) l')) ∙ ap (λ (x : Outcome). x.answer) o'.seen in
    subst (λ (a : Answer). Alike p p' a r'.answer) said
    (subst (λ (a : Answer). Alike p p' (step (turn k (view m)) (create_call now a1 a2 a3)).answer a) said'
    (promises.isolation (turn k (view m)) (turn k' (view m')) p p' now now' a1 a1' a2 a3 a3' t t' same g))
