-- Why the sleepers' sum is that of processor 0's accepted gaps, as events and answers tell them: none of them is ever
-- refused, as the desk's own sum has it too.
-- Assumes nothing.
use Rattle.std.proofs.Common.{◌≡◌, ℕ, ◌+◌, ◌≤◌, Bool, true, false, eqb, List, [], ◌∷◌, ◌++◌, sym, refl, ap, ◌∙◌, arith, eq-eqb, ne_eqb, le-leb, if◌then◌else◌}
use Rattle.rules.specs.declared.Event.{Event}
use Rattle.rules.specs.declared.Arrival.{Arrival}
use Rattle.rules.specs.declared.Action.{Action}
use Rattle.rules.specs.declared.Answer.{Answer}
use Rattle.rules.specs.Numbers.{time_limit}
use Rattle.rules.specs.Machine.{Machine, turn}
use Rattle.rules.specs.Rules as desk
use Rattle.rules.specs.Rules.{arrive}
use Rattle.rules.specs.Tables.{Tables}
use Rattle.rules.proofs.Sound.{Settled}
use Rattle.rules.proofs.Tables.{sound, arrives}
use Rattle.ledger.specs.History as told
use Rattle.ledger.specs.History.{Past, turned, arrived, accepted, accepted_gap, tally_at}
use Rattle.ledger.proofs.Births.{Linked, linked_turned, linked_arrives}
use Rattle.ledger.proofs.Times as times
use Rattle.ledger.proofs.Times.{grown_all}
use Rattle.sleeps.specs.declared.Operation.{Operation}
use Rattle.sleeps.specs.declared.Operation.TheVariants.{Gap, Ask, Tick, End}
use Rattle.sleeps.specs.Rules as sleeps
use Rattle.sleeps.specs.Rules.{State, step}
use Rattle.sleeps.proofs.Moments.{sum_told}
use Rattle.sleep_desk.specs.Rules.{timing_processor, gap_told, asked, heard, gap_of}
use Rattle.sleep_desk.specs.Told.{Happening, comes, ends, arrivals, operations}
use Rattle.sleep_desk.proofs.Heard.{heard_cases, gap_cases, asked_cases}
use Rattle.sleep_desk.proofs.Apart.{run_append}

-- a request and a tick leave the sum as it is
asked_keeps : (u : ℕ) (e : Event) (a : Action) (s : State) → (sleeps.run (asked u e a) s).sum ≡ s.sum
unfolding sleeps.run
asked_keeps u e a s = asked_cases (λ os. (sleeps.run os s).sum ≡ s.sum) u e a (λ a1. sum_told (Ask u a1) s) (sum_told Tick s) refl

-- a gap that fits passes at processor 0, and no other
gap_sum : (k g : ℕ) (ys : List Operation) (s : State) → ((t : State) → (sleeps.run ys t).sum ≡ t.sum) → s.sum + g ≤ time_limit
    → (sleeps.run (gap_told k g ++ ys) s).sum ≡ s.sum + (if eqb timing_processor k then g else 0)
unfolding sleeps.run
gap_sum k g ys s keeps fits =
    gap_cases (λ os. (sleeps.run (os ++ ys) s).sum ≡ s.sum + (if eqb timing_processor k then g else 0)) k g
    (λ e. rw (eq-eqb timing_processor k (sym e)) (keeps (step (Gap g) s).after ∙ sum_told (Gap g) s ∙ rw (le-leb (s.sum + g) time_limit fits)))
    (λ n. rw (ne_eqb timing_processor k (λ e. n (sym e))) (omega (arith, keeps s)))

-- what of a gap is processor 0's: all of it or nothing
part_of : (b : Bool) (g : ℕ) → (if b then g else 0) ≤ g
part_of true g = omega arith
part_of false g = omega arith

module _ (slots sems customers seats : ℕ) where
  -- the desk's machine obeys its rule, the past tells it, and its sum of gaps is not below the sleepers'
  pub record Held (h : Past) (m : Machine) (s : State) : Type 0 where
    pub tables : Tables slots sems customers seats m
    pub linked : Linked h m
    pub within : s.sum ≤ m.total

  settled : (h : Past) (m : Machine) (s : State) → Held h m s → Settled m
  settled h m s k = (sound slots sems customers seats m k.tables, k.tables.one_runs, k.tables.one_each)

  module _ (h : Past) (m : Machine) (s : State) (k : Held h m s) (u : ℕ) (x : Arrival) where
    abbrev answer : Answer
    answer = (arrive m x).answer

    abbrev there : Past
    there = turned x.processor h

    -- the desk's sum grows by the gap of an accepted event
    grown : (arrive m x).after.total ≡ m.total + accepted_gap there x.event answer
    unfolding desk.run desk.answers
    grown = omega (arith, (grown_all (x ∷ []) h m (settled h m s k) k.linked).0)

    limited : m.total + accepted_gap there x.event answer ≤ time_limit
    limited = omega (arith, grown, (arrives slots sems customers seats m x k.tables).limits.0)

    same_gap : told.gap_of there x.event ≡ gap_of x m
    same_gap = times.gap_told there (turn x.processor m) x.event (linked_turned x.processor h m k.linked)

    fits : accepted answer ≡ true → s.sum + gap_of x m ≤ time_limit
    fits e = let l : m.total + gap_of x m ≤ time_limit = rw (e, same_gap) at limited in omega (arith, l, k.within)

    -- the sleepers' grows by it at processor 0
    heard_sum : (sleeps.run (heard u x (gap_of x m) answer) s).sum ≡ s.sum + (if eqb timing_processor x.processor then accepted_gap there x.event answer else 0)
    unfolding sleeps.run
    heard_sum =
        let grows : ℕ = if eqb timing_processor x.processor then accepted_gap there x.event answer else 0 in
        heard_cases (λ os. (sleeps.run os s).sum ≡ s.sum + grows) u (gap_of x m) x answer
        (λ e. rw (e, same_gap) (gap_sum x.processor (gap_of x m) (asked u x.event answer.action) s (asked_keeps u x.event answer.action) (fits e)))
        (λ e. rw e (omega (arith, part_of (eqb timing_processor x.processor) 0)))

    -- and all is as it was after the event
    held_on : Held (arrived h x answer) (arrive m x).after (sleeps.run (heard u x (gap_of x m) answer) s)
    held_on = record {
      tables = arrives slots sems customers seats m x k.tables;
      linked = linked_arrives h m x (settled h m s k) k.linked;
      within = omega (arith, k.within, grown, heard_sum, part_of (eqb timing_processor x.processor) (accepted_gap there x.event answer));
    }

  pub timed_all : (hs : List Happening) (h : Past) (m : Machine) (s : State) → Held h m s
      → (sleeps.run (operations hs m) s).sum ≡ s.sum + tally_at timing_processor accepted_gap h (arrivals hs) (desk.answers m (arrivals hs))
  unfolding operations sleeps.run desk.answers
  timed_all [] h m s k = omega arith
  timed_all (comes u x ∷ hs) h m s k =
      let a = (arrive m x).answer in
      let os = heard u x (gap_of x m) a in
      let on = timed_all hs (arrived h x a) (arrive m x).after (sleeps.run os s) (held_on h m s k u x) in
      omega (arith, on, heard_sum h m s k u x, ap (λ (t : State). t.sum) (run_append os (operations hs (arrive m x).after) s))
  timed_all (ends n ∷ hs) h m s k =
      let z : (step (End n) s).after.sum ≡ s.sum = sum_told (End n) s in
      omega (arith, z, timed_all hs h m (step (End n) s).after (record { tables = k.tables; linked = k.linked; within = omega (arith, z, k.within) }))
