-- The rule that the tables obey holds of every start, a refused one too, and every event at any processor keeps it.
use Rattle.std.proofs.lemmas.Option.{none-some}
use Rattle.std.specs.Prelude.{if◌then◌else◌, Option, Some, None}
use mathlib.Core.Path.{◌≡◌, refl, ap, ◌∙◌, subst, sym}
use mathlib.Core.Logic.{◌≢◌}
use mathlib.Core.Bool.{Bool, true, false, ◌||◌}
use mathlib.Core.List.{List, [], ◌∷◌, map}
use Prim.Native.Nat.{ℕ, zero, suc, ◌+◌, ◌-◌, ◌≤◌, ◌<◌}
use native.Mathlib.Omega.{arith}
use lib.Dec.{eqb, ltb}
use lib.IntN.{negsuc}
use lib.ListN.{length, length-set, get_or, replicate, length-replicate}
use borrow.Author.Tests.{ltb-true, ltb-false, lt-ltb, le-ltb, eq-eqb, eqb-false}
use Rattle.rules.proofs.Lines.{count_le, many_fail}
use Rattle.rules.proofs.Living.{process, living_sum, fresh_living}
use Rattle.rules.specs.declared.Event.{Event}
use Rattle.rules.specs.declared.Event.TheVariants.{Call}
use Rattle.rules.specs.declared.Arrival.{Arrival}
use Rattle.rules.specs.declared.Mode.TheVariants.{Kernel}
use Rattle.rules.specs.Words.{any, sum, count, many, All, maybe}
use Rattle.rules.specs.declared.StartRefusal.{StartRefusal}
use Rattle.rules.specs.declared.StartRefusal.TheVariants.{ValueTooLarge, CeilingsNotAllowed, ProcessorsNotAllowed}
use Rattle.rules.specs.Numbers.{top, most_processors}
use Rattle.rules.proofs.Cases.{if_cases}
use Rattle.rules.specs.Machine.{Process, Machine, seated_in, ready, on_processors, living, blank, processors, here, turn, idle_from, fresh}
use Rattle.rules.specs.Tables.{Tables, Rests}
use Rattle.rules.specs.Starts.{started, too_large, not_allowed, bad_number, start_refusal}
use Rattle.rules.specs.Rules.{step, reaches, refused, arrive, run, least_ceilings, nothing_left, start}
use Rattle.rules.specs.Answers.{Outcome}
use Rattle.rules.proofs.Sound.{or_left, or_right, below, eqb_swap, seated, settled, fresh_settled}
use Rattle.rules.specs.Tables.{Allowed, Sound}
use Rattle.rules.proofs.Kin.{Kin, stays_kin, fresh_kin}
use Rattle.rules.proofs.Descent.{Descent, stays_descent, moved_descent, fresh_descent}
use Rattle.rules.proofs.Places.{stays_placed}
use Rattle.rules.proofs.Lined.{stays_lined}
use Rattle.rules.proofs.Standing.{stays_scheduled}
use Rattle.rules.proofs.Laws.{sized, blank_still, accounted, limited, within}
use Rattle.rules.proofs.Arrivals.{arrives_in, no_such}
use Rattle.rules.proofs.Turns.{taken, turn_cases, here_turned, seat_turned, same_taken, scheduled_taken, sound_taken, kin_taken, idle_taken, single_taken}

module _ (slots sems customers seats : ℕ) where
  pub sound : (m : Machine) → Tables slots sems customers seats m → Sound m
  sound m t = record { ids = t.ids; slots = t.in_slots; allowed = t.ceilings_allowed; kept = t.ceilings_kept }

  pub kin : (m : Machine) → Tables slots sems customers seats m → Kin m
  kin m t = record { parents = t.parents; older = t.older }

  pub descent : (m : Machine) → Tables slots sems customers seats m → Descent m
  descent m t = record { rooted = t.rooted; inherited = t.inherited }

  -- every event keeps it
  pub keeps : (m : Machine) (e : Event) → Tables slots sems customers seats m → Tables slots sems customers seats (step m e).after
  keeps m e t =
      let one = t.one_runs in
      let size = sized slots sems seats m.ceilings m e one (t.slots_there, t.sems_there, t.processors_there, refl) in
      let s = settled m e (sound m t, one, t.one_each) in
      let k = stays_kin m e one (sound m t) (kin m t) in
      let d = stays_descent m e one (sound m t) (kin m t) (descent m t) in
      let l = stays_lined m e one (record { own_line = t.own_line; in_a_row = t.in_a_row }) in
      record {
        slots_there = size.0;
        sems_there = size.1;
        customers_there = ap length size.3 ∙ t.customers_there;
        processors_there = size.2;
        ids = s.0.ids;
        in_slots = s.0.slots;
        ceilings_allowed = s.0.allowed;
        ceilings_kept = s.0.kept;
        one_runs = s.1;
        one_each = s.2;
        own_line = l.own_line;
        in_a_row = l.in_a_row;
        lines = (stays_placed m e one (record { lines = t.lines })).lines;
        values = within m e one t.values;
        times = accounted m e one t.times;
        limits = limited m e one t.limits;
        parents = k.parents;
        older = k.older;
        rooted = d.rooted;
        inherited = d.inherited;
        status_fits = (stays_scheduled m e one (record { scheduled = t.status_fits })).scheduled;
      }

  -- a seat is taken
  pub tables_turned : (k : ℕ) (m : Machine) → Tables slots sems customers seats m → Tables slots sems customers seats (turn k m)
  tables_turned k m t = turn_cases (Tables slots sems customers seats) k m t go
    where
      go : k < processors m → Tables slots sems customers seats (taken k m)
      go l =
          let s = sound_taken k m l (sound m t) in
          let f = kin_taken k m l (kin m t) in
          let d = moved_descent m (taken k m) (same_taken k m l) (descent m t) in
          let one = single_taken k m t.one_runs t.one_each in
          record {
            slots_there = t.slots_there;
            sems_there = t.sems_there;
            customers_there = t.customers_there;
            processors_there = length-set m.elsewhere k (here m) ∙ t.processors_there;
            ids = s.ids;
            in_slots = s.slots;
            ceilings_allowed = s.allowed;
            ceilings_kept = s.kept;
            one_runs = one.0;
            one_each = one.1;
            own_line = t.own_line;
            in_a_row = t.in_a_row;
            lines = t.lines;
            values = t.values;
            times = omega (arith, t.times, idle_taken k m l, (same_taken k m l).sums (λ p. p.time));
            limits = t.limits;
            parents = f.parents;
            older = f.older;
            rooted = d.rooted;
            inherited = d.inherited;
            status_fits = scheduled_taken m.status k m l t.status_fits;
          }

  -- EVERY EVENT AT ANY PROCESSOR KEEPS IT, a refused one included
  pub arrives : (m : Machine) (x : Arrival) → Tables slots sems customers seats m → Tables slots sems customers seats (arrive m x).after
  unfolding arrive refused
  arrives m x t =
      if_cases (λ (o : Outcome). Tables slots sems customers seats o.after) (reaches x.processor m)
      (λ _. tables_turned x.processor _ (keeps (turn x.processor m) x.event (tables_turned x.processor m t))) (λ _. t)

  pub keeps_all : (xs : List Arrival) (m : Machine) → Tables slots sems customers seats m → Tables slots sems customers seats (run m xs)
  unfolding run
  keeps_all [] m t = t
  keeps_all (x ∷ xs) m t = keeps_all xs (arrive m x).after (arrives m x t)

  -- a machine handed back is at rest, as the one that was handed over
  pub rests : (m : Machine) (x : Arrival) → Rests slots sems customers seats m → Rests slots sems customers seats (arrive m x).after
  rests m x r = record { tables = arrives m x r.tables; nothing_here = go (ltb x.processor (processors m)) refl }
    where
      go : (b : Bool) → ltb x.processor (processors m) ≡ b → here (arrive m x).after ≡ blank
      go true e =
          let k = x.processor in
          let l = ltb-true k (processors m) e in
          let t = tables_turned k m r.tables in
          let gone : get_or (step (turn k m) x.event).after.elsewhere k blank ≡ blank = blank_still k (turn k m) x.event t.one_runs (seat_turned k m l ∙ r.nothing_here) in
          let there : k < processors (step (turn k m) x.event).after = omega (arith, l, r.tables.processors_there, (keeps (turn k m) x.event t).processors_there) in
          ap (λ (o : Outcome). here o.after) (arrives_in m x l) ∙ here_turned k (step (turn k m) x.event).after there ∙ gone
      go false e = ap here (no_such m x (ltb-false x.processor (processors m) e)) ∙ r.nothing_here

  pub rests_all : (xs : List Arrival) (m : Machine) → Rests slots sems customers seats m → Rests slots sems customers seats (run m xs)
  unfolding run
  rests_all [] m r = r
  rests_all (x ∷ xs) m r = rests_all xs (arrive m x).after (rests m x r)

-- a fresh machine obeys it
pub idle_none : (n now : ℕ) → sum (λ s. s.idle) (replicate n (idle_from now)) ≡ 0
idle_none zero now = refl
idle_none (suc n) now = omega (arith, idle_none n now)

pub fresh_tables : (slots others now : ℕ) (values ceilings : List ℕ) → Allowed slots ceilings → ((i : ℕ) → get_or values i 0 ≤ top) → Tables slots (length values) (length ceilings) (suc others) (fresh slots others now values ceilings)
unfolding fresh on_processors
fresh_tables slots others now values ceilings may low =
    let s = fresh_settled slots others now values ceilings may in
    let k = fresh_kin slots others now values ceilings in
    let d = fresh_descent slots others now values ceilings in
    record {
      slots_there = refl;
      sems_there = refl;
      customers_there = refl;
      processors_there = ap suc (length-replicate others (idle_from now));
      ids = s.0.ids;
      in_slots = s.0.slots;
      ceilings_allowed = may;
      ceilings_kept = s.0.kept;
      one_runs = refl;
      one_each = s.2;
      own_line = (tt, tt);
      in_a_row = omega arith;
      lines = tt;
      values = low;
      times = rw (fresh_living slots others now values ceilings) (omega (arith, idle_none others now));
      limits = (omega arith, omega arith, omega arith);
      parents = k.parents;
      older = k.older;
      rooted = d.rooted;
      inherited = d.inherited;
      status_fits = tt;
    }

-- ── What follows for code: nothing overflows ──

-- one more below k + 1 is below k, or k
below_next : (k : ℕ) (ps : List Process) → many (λ p. ltb p.slot (suc k)) ps ≡ many (λ p. ltb p.slot k) ps + many (λ p. eqb k p.slot) ps
below_next k [] = refl
below_next k (p ∷ ps) = omega (arith, below_next k ps, below p.slot k, eqb_swap k p.slot)

few_below : (k : ℕ) (ps : List Process) → ((s : ℕ) → many (λ p. eqb s p.slot) ps ≤ 1) → many (λ p. ltb p.slot k) ps ≤ k
few_below zero [] h = omega arith
few_below zero (p ∷ ps) h = rw (le-ltb p.slot 0 (omega arith)) (omega (arith, few_below zero ps (λ s. omega (arith, h s))))
few_below (suc k) ps h = omega (arith, below_next k ps, few_below k ps h, h k)

all_below : (k : ℕ) (ps : List Process) → All (λ p. p.slot < k) ps → many (λ p. ltb p.slot k) ps ≡ length ps
all_below k [] h = refl
all_below k (p ∷ ps) h = rw (lt-ltb p.slot k h.0) (omega (arith, all_below k ps h.1))

-- no more are alive than there are slots
pub fit : (slots sems customers seats : ℕ) (m : Machine) → Tables slots sems customers seats m → length (living m) ≤ slots
fit slots sems customers seats m t =
    omega (
      arith,
      t.slots_there,
      all_below m.slots (living m) (seated m (sound slots sems customers seats m t)),
      few_below m.slots (living m) (λ s. omega (arith, t.in_slots s, count_le (ltb s m.slots))),
    )

-- whoever runs is in nobody else's slot: what is written to its row changes no other row
pub apart : (slots sems customers seats : ℕ) (p : Process) (m : Machine) → Tables slots sems customers seats m → m.running ≡ p ∷ []
    → All (λ q. eqb p.slot q.slot ≡ false) (ready m) × All (λ q. eqb p.slot q.slot ≡ false) (map process m.waiting) × All (λ q. eqb p.slot q.slot ≡ false) (seated_in m.elsewhere)
apart slots sems customers seats p m t r =
    let f : Process → ℕ = λ q. count (eqb p.slot q.slot) in
    let one : sum f m.running ≡ 1 = rw (r, eq-eqb p.slot p.slot refl) in
    let all : sum f (living m) ≤ 1 = omega (arith, t.in_slots p.slot, count_le (ltb p.slot m.slots)) in
    let parts = living_sum f m in (
      many_fail (λ q. eqb p.slot q.slot) (ready m) (omega (arith, parts, one, all)),
      many_fail (λ q. eqb p.slot q.slot) (map process m.waiting) (omega (arith, parts, one, all)),
      many_fail (λ q. eqb p.slot q.slot) (seated_in m.elsewhere) (omega (arith, parts, one, all)),
    )

-- nobody's time is above the sum of the accepted gaps
each_time : (k : ℕ) (ps : List Process) → sum (λ p. p.time) ps ≤ k → All (λ p. p.time ≤ k) ps
each_time k [] h = tt
each_time k (p ∷ ps) h = (omega arith, each_time k ps (omega arith))

pub short : (slots sems customers seats : ℕ) (m : Machine) → Tables slots sems customers seats m → All (λ p. p.time ≤ m.total) (living m)
short slots sems customers seats m t = each_time m.total (living m) (omega (arith, t.times))

-- ── The start, a refused one included ──

low_values : (vs : List ℕ) → any (ltb top) vs ≡ false → (i : ℕ) → get_or vs i 0 ≤ top
low_values [] e i = omega arith
low_values (v ∷ vs) e zero = ltb-false top v (or_left (ltb top v) (any (ltb top) vs) e)
low_values (v ∷ vs) e (suc i) = low_values vs (or_right (ltb top v) (any (ltb top) vs) e) i

zeros_low : (n i : ℕ) → get_or (replicate n 0) i 0 ≤ top
zeros_low zero i = omega arith
zeros_low (suc n) zero = omega arith
zeros_low (suc n) (suc i) = zeros_low n i

zeros_sum : (n : ℕ) → sum (λ k. k) (replicate n 0) ≡ 0
zeros_sum zero = refl
zeros_sum (suc n) = omega (arith, zeros_sum n)

least_allowed : (slots customers : ℕ) → 1 ≤ slots → 1 ≤ customers → Allowed slots (least_ceilings customers)
least_allowed slots zero some one = absurd (omega arith)
least_allowed slots (suc n) some one = (omega arith, omega (arith, zeros_sum n))

-- what an accepted start has passed: no value too large, and ceilings that are allowed
pub start_passed : (slots number : ℕ) (values ceilings : List ℕ) → start_refusal slots number values ceilings ≡ None → ((i : ℕ) → get_or values i 0 ≤ top) × Allowed slots ceilings × (1 ≤ number)
unfolding start_refusal too_large not_allowed bad_number
start_passed slots number values ceilings ok = go (any (ltb top) values) refl (ltb (get_or ceilings 0 0) 1) refl (ltb slots (sum (λ n. n) ceilings)) refl (eqb number 0) refl ok
  where
    go : (a : Bool) → any (ltb top) values ≡ a → (b : Bool) → ltb (get_or ceilings 0 0) 1 ≡ b → (c : Bool) → ltb slots (sum (λ n. n) ceilings) ≡ c → (d : Bool) → eqb number 0 ≡ d
        → (if a then Some ValueTooLarge else (if b || c then Some CeilingsNotAllowed else (if d || ltb most_processors number then Some ProcessorsNotAllowed else None))) ≡ None → ((i : ℕ) → get_or values i 0 ≤ top) × Allowed slots ceilings × (1 ≤ number)
    go true p b q c r d z e = absurd (none-some _ (sym e))
    go false p true q c r d z e = absurd (none-some _ (sym e))
    go false p false q true r d z e = absurd (none-some _ (sym e))
    go false p false q false r true z e = absurd (none-some _ (sym e))
    go false p false q false r false z e =
        let n : number ≢ 0 = eqb-false number 0 z in
        (low_values values p, (omega (arith, ltb-false (get_or ceilings 0 0) 1 q), ltb-false slots (sum (λ n. n) ceilings) r), omega arith)

least_many : (customers : ℕ) → length (least_ceilings customers) ≡ customers
least_many zero = refl
least_many (suc n) = ap suc (length-replicate n 0)

-- the machine of a start, with processor 0's seat taken
pub start_tables : (slots number now : ℕ) (values ceilings : List ℕ) → 1 ≤ slots → 1 ≤ length ceilings
    → Tables slots (length values) (length ceilings) (started slots number values ceilings) (start slots number now values ceilings)
unfolding start nothing_left
start_tables slots number now values ceilings some one =
    let n = length values in
    let k = length ceilings in
    let zeros : List ℕ = replicate n 0 in
    let low : Machine = fresh slots 0 0 zeros (least_ceilings k) in
    tables_turned slots n k (started slots number values ceilings) 0 _ (go (start_refusal slots number values ceilings) refl
    (keeps slots n k 1 low (Call 0 Kernel (negsuc 1) 0 0 0)
    (subst (λ (i : ℕ). Tables slots i k 1 low) (length-replicate n 0)
    (subst (λ (j : ℕ). Tables slots (length zeros) j 1 low) (least_many k)
    (fresh_tables slots 0 0 zeros (least_ceilings k) (least_allowed slots k some one) (zeros_low n))))))
  where
    go : (o : Option StartRefusal) → start_refusal slots number values ceilings ≡ o
        → Tables slots (length values) (length ceilings) 1 (nothing_left slots (length values) (length ceilings))
        → Tables slots (length values) (length ceilings) (maybe o number (λ r. 1))
        (maybe o (fresh slots (number - 1) now values ceilings) (λ r. nothing_left slots (length values) (length ceilings)))
    go None e h =
        let ok = start_passed slots number values ceilings e in
        let as_many : suc (number - 1) ≡ number = omega (arith, ok.2) in
        subst (λ (c : ℕ). Tables slots (length values) (length ceilings) c (fresh slots (number - 1) now values ceilings)) as_many
        (fresh_tables slots (number - 1) now values ceilings ok.1 ok.0)
    go (Some r) e h = h

-- and it is at rest
pub start_rests : (slots number now : ℕ) (values ceilings : List ℕ) → 1 ≤ slots → 1 ≤ length ceilings
    → Rests slots (length values) (length ceilings) (started slots number values ceilings) (start slots number now values ceilings)
unfolding start nothing_left fresh
start_rests slots number now values ceilings some one = record {
  tables = start_tables slots number now values ceilings some one;
  nothing_here = go (start_refusal slots number values ceilings);
}
  where
    low : Machine
    low = fresh slots 0 0 (replicate (length values) 0) (least_ceilings (length ceilings))

    seats : processors (step low (Call 0 Kernel (negsuc 1) 0 0 0)).after ≡ 1
    seats = (sized slots _ 1 _ low (Call 0 Kernel (negsuc 1) 0 0 0) refl (refl, refl, refl, refl)).2

    go : (o : Option StartRefusal) → here (turn 0 (maybe o (fresh slots (number - 1) now values ceilings) (λ r. nothing_left slots (length values) (length ceilings)))) ≡ blank
    go None = here_turned 0 (fresh slots (number - 1) now values ceilings) (omega arith)
    go (Some r) = here_turned 0 _ (omega (arith, seats)) ∙ blank_still 0 low (Call 0 Kernel (negsuc 1) 0 0 0) refl refl
