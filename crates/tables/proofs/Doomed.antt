-- A kill, over machines alone: the family's rows are struck, and both lines and the processors lose who is of it.
-- Assumes nothing.
use Rattle.std.specs.Prelude.{Option, Some, None}
use Rattle.std.proofs.Common.{◌≡◌, ℕ, zero, suc, ◌+◌, ◌-◌, ◌^◌, ◌<◌, ◌≤◌, Bool, true, false, not, leb, List, ◌∷◌, ◌++◌, map, get_or, sym, refl, ap, ◌∙◌, ap₂, subst, true≢false, arith, le-ltb, lt-ltb, ne_eqb, leb-false, leb-true, if◌then◌else◌}
use borrow.Author.Tests.{lt-leb}
use Rattle.rules.specs.Words.{those, among, sum, All}
use Rattle.rules.proofs.Cases.{All-left, All-right}
use Rattle.rules.specs.Numbers.{base_slots, most_processors, time_limit}
use Rattle.rules.proofs.Sums.{sum_over}
use Rattle.rules.proofs.Lines.{those_append}
use Rattle.rules.specs.Machine.{Process, Waiter, family, family_of, rid_of, kill}
use Rattle.rules.specs.Answers.{mask, left_idle}
use Rattle.lines.specs.Lines.{entry, marked, alive, struck, blanked, spared_of, occ, tally, mask_of_taken}
use Rattle.lines.specs.Queues.{only}
use Rattle.lines.proofs.Occ.{occ_keep, sum_marked, tally_add, tally_same}
use Rattle.lines.proofs.Marks.{get_or_struck, get_or_blanked, length_struck, length_blanked, struck_cases}
use Rattle.lines.proofs.Zeros.{mask_struck}
use Rattle.lines.proofs.Laws.{kept_view, kept_line}
use Rattle.lines.proofs.Bridge.{those_map, those_same, map_same, passing}
use Rattle.tables.specs.declared.Tables.{Tables}
use Rattle.tables.specs.Codes.{decode, last_code}
use Rattle.tables.specs.View.{row, waiter, occupant, away, seat_at, highs, lows, readies, waiters, seats, view, live, Shape}
use Rattle.seats.specs.Seats.{IsSeat, leaving_of}
use Rattle.seats.proofs.Tabled.{table_same, table_map}
use Rattle.seats.proofs.Told.{mask_told, rid_told}
use Rattle.tables.proofs.Away.{away_struck}
use Rattle.kin.specs.Families.{climb, elders, Parent, Kin, kin, Marks}
use Rattle.tables.specs.Promised.{Kills}
use Rattle.tables.proofs.Seats.{Seat, seats_living, seats_slots, seated, living_seat}
use Rattle.kin.proofs.Climbs.{spared_at, orphaned, spared_parent, no_parent_left, climb_struck, kin_child}

-- the sum of what the doomed have
abbrev pub of_doomed : List Bool → (ℕ → ℕ) → ℕ
of_doomed ds f = tally (λ s. if marked ds s then f s else 0) base_slots

-- the mask of the processors that the doomed leave
abbrev pub of_left : List Bool → List (Option ℕ) → ℕ
of_left ds cs = tally (λ k. if marked (leaving_of ds cs) k then 2 ^ k else 0) most_processors

abbrev pub killed : Tables → List Bool → Tables
killed m ds = record {
  ids = struck ds m.ids;
  taken = m.taken - of_doomed ds (λ s. 2 ^ s);
  parents = orphaned ds m.parents;
  customers = struck ds m.customers;
  priorities = struck ds m.priorities;
  handles = struck ds m.handles;
  times = struck ds m.times;
  lines = struck ds m.lines;
  high = only (alive ds) m.high;
  low = only (alive ds) m.low;
  four = m.four;
  waits = only (alive ds) m.waits;
  running = spared_of base_slots ds m.running;
  sems = m.sems;
  ceilings = m.ceilings;
  next = m.next;
  status = m.status;
  last = m.last;
  total = m.total;
  idle = m.idle;
  ended = m.ended + of_doomed ds (entry m.times);
  runners = blanked None (leaving_of ds m.runners) m.runners;
  lasts = m.lasts;
  idles = m.idles;
  processors = m.processors;
}

not_true_is : (b : Bool) → not b ≡ true → b ≡ false
not_true_is true e = sym e
not_true_is false e = refl

-- a free row is of nobody's family: the id looked for is above 0
kin_alive : (ps : List (Option ℕ)) (ids : List ℕ) (n s : ℕ) → 0 < n → kin ps ids n s ≡ true → 0 < get_or ids s 0
unfolding climb
kin_alive ps ids n s some e = go (get_or ids s 0) e
  where
    go : (v : ℕ) → among n (v ∷ climb ps ids v s) ≡ true → 0 < v
    go zero f = let z : ◌≡◌ {A = Bool} false true = sym (rw (ne_eqb n 0 (λ q. let y : ⊥ = omega arith in y))) ∙ f in absurd (true≢false (sym z))
    go (suc v) f = omega arith

-- whoever runs, unless doomed
occupant_spared : (ds : List Bool) (x : ℕ) → occupant (spared_of base_slots ds x) ≡ those (alive ds) (occupant x)
unfolding spared_of
occupant_spared ds x = go (leb base_slots x) refl (marked ds x) refl
  where
    go : (a : Bool) → leb base_slots x ≡ a → (d : Bool) → marked ds x ≡ d → occupant (if a then x else (if d then base_slots else x)) ≡ those (alive ds) (occupant x)
    go true p d q = rw (le-ltb x base_slots (leb-true base_slots x p))
    go false p true q = rw (lt-ltb x base_slots (leb-false base_slots x p), q)
    go false p false q = rw (lt-ltb x base_slots (leb-false base_slots x p), q)

module _ (m : Tables) (g : Shape m) (n : ℕ) (ds : List Bool) (w : Marks m.parents m.ids n ds) where
  abbrev r : Tables
  r = killed m ds

  -- ---- rows
  dead_entry : (l : List ℕ) (s : ℕ) → marked ds s ≡ true → get_or (struck ds l) s 0 ≡ 0
  dead_entry l s e = get_or_struck ds l s ∙ rw e

  row_stays : (x : ℕ) → x < base_slots → marked ds x ≡ false → row r x ≡ row m x
  row_stays x b e =
      let anc : elders r.parents r.ids x ≡ elders m.parents m.ids x =
      climb_struck m.parents m.ids g.parent ds n w (get_or r.ids x 0) x b e ∙ ap (λ k. climb m.parents m.ids k x) (spared_at ds m.ids x e) in
      rw (anc, spared_at ds m.ids x e, spared_at ds m.customers x e, spared_at ds m.priorities x e, spared_at ds m.handles x e, spared_at ds m.times x e)

  spared_row : (x : ℕ) → Seat m x × (alive ds x ≡ true) → row r x ≡ row m x
  spared_row x p = row_stays x p.0.slot (not_true_is (marked ds x) p.1)

  spared_waiter : (x : ℕ) → Seat m x × (alive ds x ≡ true) → waiter r x ≡ waiter m x
  spared_waiter x p =
      ap₂ (λ (q : Process) (c : ℕ). at_code c q) (spared_row x p) (spared_at ds m.lines x (not_true_is (marked ds x) p.1))
    where
      at_code : ℕ → Process → Waiter
      at_code c q = record { process = q; line = decode c }

  -- who is of the family, by the marks
  family_marked : (x : ℕ) → x < base_slots → marked ds x ≡ family n (row m x)
  unfolding family
  family_marked x b = w.each x b

  marked_family : (x : ℕ) → Seat m x → family n (row m x) ≡ marked ds x
  marked_family x p = sym (family_marked x p.slot)

  -- the rows of those who are spared are the rows that are not of the family
  spared_rows {κ} : {B : Type κ} (f h : ℕ → B) (t : B → Bool) → ((x : ℕ) → Seat m x → t (h x) ≡ alive ds x) → ((x : ℕ) → Seat m x × (alive ds x ≡ true) → f x ≡ h x)
      → (l : List ℕ) → All (Seat m) l → map f (those (alive ds) l) ≡ those t (map h l)
  spared_rows f h t tests rows l s =
      map_same (λ x. Seat m x × (alive ds x ≡ true)) f h rows (those (alive ds) l) (passing (Seat m) (alive ds) l s)
      ∙ sym (those_map t h l ∙ ap (map h) (those_same (Seat m) (λ x. t (h x)) (alive ds) tests l s))

  -- ---- the three parts of the view
  highs_killed : highs r ≡ those (alive ds) (highs m)
  highs_killed = kept_view base_slots (alive ds) m.high.slots m.high.count g.high_line

  lows_killed : lows r ≡ those (alive ds) (lows m)
  lows_killed = kept_view base_slots (alive ds) m.low.slots m.low.count g.low_line

  readies_killed : readies r ≡ those (alive ds) (readies m)
  readies_killed = ap₂ (λ (a b : List ℕ). a ++ b) highs_killed lows_killed ∙ sym (those_append (alive ds) (highs m) (lows m))

  waiters_killed : waiters r ≡ those (alive ds) (waiters m)
  waiters_killed = kept_view base_slots (alive ds) m.waits.slots m.waits.count g.waits_line

  seats_killed : seats r ≡ those (alive ds) (seats m)
  seats_killed =
      ap₂ (λ (a b : List ℕ). a ++ b) (occupant_spared ds m.running)
      (ap₂ (λ (a b : List ℕ). a ++ b) (away_struck ds m.runners)
      (ap₂ (λ (a b : List ℕ). a ++ b) readies_killed waiters_killed ∙ sym (those_append (alive ds) (readies m) (waiters m)))
      ∙ sym (those_append (alive ds) (away m.runners) (readies m ++ waiters m)))
      ∙ sym (those_append (alive ds) (occupant m.running) (away m.runners ++ (readies m ++ waiters m)))

  beside : All (Seat m) (readies m ++ waiters m)
  beside = All-right (Seat m) (away m.runners) (readies m ++ waiters m) (All-right (Seat m) (occupant m.running) (away m.runners ++ (readies m ++ waiters m)) (seated m g))

  -- the other processors are rid of the family, and those whom this leaves idle are told
  seats_rid : (view r).elsewhere ≡ map (rid_of n) (view m).elsewhere
  seats_rid =
      table_same m.processors (seat_at r) (λ k. rid_of n (seat_at m k)) (λ k _. rid_told n (row m) (row r) ds family_marked row_stays m.runners k (get_or m.lasts k 0) (get_or m.idles k 0) (g.in_seats k))
      ∙ sym (table_map (rid_of n) m.processors (seat_at m))

  idle_told : of_left ds m.runners ≡ left_idle n (view m)
  unfolding left_idle
  idle_told = mask_told (family n) (row m) ds family_marked m.processors m.runners (λ k. get_or m.lasts k 0) (λ k. get_or m.idles k 0) g.few_processors g.in_seats g.no_runner

  rows_killed : (l k : List ℕ) → k ≡ those (alive ds) l → All (Seat m) l → map (row r) k ≡ those (λ p. not (family n p)) (map (row m) l)
  rows_killed l k e s = ap (map (row r)) e ∙ spared_rows (row r) (row m) (λ p. not (family n p)) (λ x p. ap not (marked_family x p)) spared_row l s

  waiting_killed : (view r).waiting ≡ those (λ w. not (family n w.process)) (view m).waiting
  waiting_killed =
      ap (map (waiter r)) waiters_killed
      ∙ spared_rows (waiter r) (waiter m) (λ w. not (family n w.process)) (λ x p. ap not (marked_family x p)) spared_waiter (waiters m) (All-right (Seat m) (readies m) (waiters m) beside)

  -- ---- what the family has
  family_rows : family_of n (view m) ≡ map (row m) (those (marked ds) (seats m))
  unfolding family_of
  family_rows =
      ap (those (family n)) (seats_living m g)
      ∙ those_map (family n) (row m) (seats m)
      ∙ ap (map (row m)) (those_same (Seat m) (λ x. family n (row m x)) (marked ds) marked_family (seats m) (seated m g))

  times_kept : of_doomed ds (entry m.times) + tally (entry r.times) base_slots ≡ tally (entry m.times) base_slots
  times_kept =
      sym (tally_add (λ s. if marked ds s then entry m.times s else 0) (entry r.times) base_slots)
      ∙ tally_same (λ s. (if marked ds s then entry m.times s else 0) + entry r.times s) (entry m.times) base_slots
      (λ s b. ap (λ v. (if marked ds s then entry m.times s else 0) + v) (get_or_struck ds m.times s) ∙ go (marked ds s) (entry m.times s))
    where
      go : (b : Bool) (v : ℕ) → (if b then v else 0) + (if b then 0 else v) ≡ v
      go true v = omega arith
      go false v = omega arith

  pub toll_fits : m.ended + of_doomed ds (entry m.times) ≤ time_limit
  toll_fits = omega (arith, g.spent, g.within, times_kept)

  module _ (some : 0 < n) where
    -- the doomed are seated
    doomed_once : (s : ℕ) → s < base_slots → (if marked ds s then occ s (seats m) else 0) ≡ (if marked ds s then 1 else 0)
    doomed_once s b = go (marked ds s) refl
      where
        go : (d : Bool) → marked ds s ≡ d → (if d then occ s (seats m) else 0) ≡ (if d then 1 else 0)
        go true e = (living_seat m g s b (kin_alive m.parents m.ids n s some (sym (w.each s b) ∙ e))).once
        go false e = refl

    family_sum : (f : Process → ℕ) → sum f (family_of n (view m)) ≡ of_doomed ds (λ s. f (row m s))
    family_sum f =
        ap (sum f) family_rows
        ∙ sum_over f (row m) (those (marked ds) (seats m))
        ∙ sum_marked base_slots (λ s. f (row m s)) ds (seats m) (seats_slots m g) doomed_once

    mask_is : mask (family_of n (view m)) ≡ of_doomed ds (λ s. 2 ^ s)
    unfolding mask
    mask_is = family_sum (λ p. 2 ^ p.slot)

    view_killed : view r ≡ kill n (view m)
    unfolding kill
    view_killed =
        let a : (view r).running ≡ those (λ p. not (family n p)) (view m).running = rows_killed (occupant m.running) (occupant r.running) (occupant_spared ds m.running) (All-left (Seat m) (occupant m.running) (away m.runners ++ (readies m ++ waiters m)) (seated m g)) in
        let ready : All (Seat m) (readies m) = All-left (Seat m) (readies m) (waiters m) beside in
        let h : (view r).high ≡ those (λ p. not (family n p)) (view m).high = rows_killed (highs m) (highs r) highs_killed (All-left (Seat m) (highs m) (lows m) ready) in
        let l : (view r).low ≡ those (λ p. not (family n p)) (view m).low = rows_killed (lows m) (lows r) lows_killed (All-right (Seat m) (highs m) (lows m) ready) in
        let t : sum (λ (p : Process). p.time) (family_of n (view m)) ≡ of_doomed ds (entry m.times) = family_sum (λ p. p.time) in
        λ i. record {
          slots = base_slots;
          ceilings = m.ceilings;
          running = a i;
          high = h i;
          low = l i;
          four = m.four;
          waiting = waiting_killed i;
          sems = m.sems;
          next = m.next;
          status = m.status;
          last = m.last;
          total = m.total;
          idle = m.idle;
          ended = m.ended + sym t i;
          elsewhere = seats_rid i;
        }

  -- ---- the layout
  -- a fact of each slot's entries, where the doomed have zero and the spared what they had
  by_fate : (Q : Type 0) (s : ℕ) → (marked ds s ≡ true → Q) → (marked ds s ≡ false → Q) → Q
  by_fate Q s f h = go (marked ds s) refl
    where
      go : (d : Bool) → marked ds s ≡ d → Q
      go true e = f e
      go false e = h e

  counted : (l q : List ℕ) → q ≡ those (alive ds) l → (v : List ℕ) (s : ℕ) → occ s l ≡ live (get_or v s 0) → occ s q ≡ live (get_or (struck ds v) s 0)
  counted l q e v s h =
      ap (occ s) e ∙ occ_keep (alive ds) s l
      ∙ by_fate ((if alive ds s then occ s l else 0) ≡ live (get_or (struck ds v) s 0)) s
      (λ f. rw (f, dead_entry v s f))
      (λ f. rw (f, spared_at ds v s f) h)

  runner_killed : r.running ≤ base_slots
  unfolding spared_of
  runner_killed = go (leb base_slots m.running) (marked ds m.running)
    where
      go : (a d : Bool) → (if a then m.running else (if d then base_slots else m.running)) ≤ base_slots
      go true d = g.runner
      go false true = omega arith
      go false false = g.runner

  alive_spared : (s : ℕ) → 0 < get_or r.ids s 0 → marked ds s ≡ false
  alive_spared s h = by_fate (marked ds s ≡ false) s (λ e. absurd (omega (arith, h, dead_entry m.ids s e))) (λ e. e)

  once_killed : (s t : ℕ) → s < base_slots → t < base_slots → 0 < get_or r.ids s 0 → get_or r.ids s 0 ≡ get_or r.ids t 0 → s ≡ t
  once_killed s t a b h e =
      let x = spared_at ds m.ids s (alive_spared s h) in
      let y = spared_at ds m.ids t (alive_spared t (omega (arith, h, e))) in
      g.once s t a b (omega (arith, x, h)) (sym x ∙ e ∙ y)

  parent_killed : Kin r.parents r.ids
  parent_killed s p b e = by_fate (Parent r.ids s p) s (λ f. none_some (sym (no_parent_left ds m.parents s f) ∙ e)) spared
    where
      none_some : ◌≡◌ {A = Option ℕ} None (Some p) → Parent r.ids s p
      none_some z = let w : ◌≡◌ {A = ℕ} 0 1 = cc in absurd (omega arith)

      spared : marked ds s ≡ false → Parent r.ids s p
      spared f =
          let up : get_or m.parents s None ≡ Some p = sym (spared_parent ds m.parents s f) ∙ e in
          let q = g.parent s p b up in
          let z : marked ds p ≡ false = w.each p q.slot ∙ kin_child m.parents m.ids g.parent n s p b up (sym (w.each s b) ∙ f) in
          record { slot = q.slot; alive = omega (arith, q.alive, spared_at ds m.ids p z); older = omega (arith, q.older, spared_at ds m.ids p z, spared_at ds m.ids s f) }

  blank_killed : (l : List ℕ) → ((s : ℕ) → s < base_slots → get_or m.ids s 0 ≡ 0 → get_or l s 0 ≡ 0) → (s : ℕ) → s < base_slots → get_or r.ids s 0 ≡ 0 → get_or (struck ds l) s 0 ≡ 0
  blank_killed l h s b e = by_fate (get_or (struck ds l) s 0 ≡ 0) s (λ f. dead_entry l s f) (λ f. spared_at ds l s f ∙ h s b (sym (spared_at ds m.ids s f) ∙ e))

  -- the bits of the doomed are among those taken, and what is left of them is the mask of the spared
  pub bits_freed : 0 < n → mask_of_taken base_slots (struck ds m.ids) + of_doomed ds (λ s. 2 ^ s) ≡ m.taken
  bits_freed some = mask_struck base_slots m.ids ds (λ s b e. kin_alive m.parents m.ids n s some (sym (w.each s b) ∙ e)) ∙ sym g.taken_mask

  still_seat : (b : Bool) (c : Option ℕ) → IsSeat c → IsSeat (if b then None else c)
  still_seat true c h = tt
  still_seat false c h = h

  still_none : (b : Bool) (c : Option ℕ) → c ≡ None → (if b then None else c) ≡ None
  still_none true c h = refl
  still_none false c h = h

  shape_killed : 0 < n → Shape r
  shape_killed some = record {
    ids_long = length_struck ds m.ids ∙ g.ids_long;
    taken_mask = omega (arith, bits_freed some);
    parents_long = length_blanked None ds m.parents ∙ g.parents_long;
    customers_long = length_struck ds m.customers ∙ g.customers_long;
    priorities_long = length_struck ds m.priorities ∙ g.priorities_long;
    handles_long = length_struck ds m.handles ∙ g.handles_long;
    times_long = length_struck ds m.times ∙ g.times_long;
    lines_long = length_struck ds m.lines ∙ g.lines_long;
    sems_long = g.sems_long;
    ceilings_long = g.ceilings_long;
    high_line = kept_line base_slots (alive ds) m.high.slots m.high.count g.high_line;
    low_line = kept_line base_slots (alive ds) m.low.slots m.low.count g.low_line;
    waits_line = kept_line base_slots (alive ds) m.waits.slots m.waits.count g.waits_line;
    runner = runner_killed;
    homes = λ s b. counted (seats m) (seats r) seats_killed m.ids s (g.homes s b);
    coded = λ s b. sym (counted (waiters m) (waiters r) waiters_killed m.lines s (sym (g.coded s b)));
    codes = λ s b. struck_cases (λ x. x ≤ last_code) ds m.lines s (λ _. omega arith) (λ _. g.codes s b);
    once = once_killed;
    issued = λ s b. struck_cases (λ x. x < m.next) ds m.ids s (λ _. omega (arith, g.issued s b)) (λ _. g.issued s b);
    parent = parent_killed;
    no_customer = blank_killed m.customers g.no_customer;
    no_priority = blank_killed m.priorities g.no_priority;
    no_handle = blank_killed m.handles g.no_handle;
    no_time = blank_killed m.times g.no_time;
    runners_long = length_blanked None (leaving_of ds m.runners) m.runners ∙ g.runners_long;
    lasts_long = g.lasts_long;
    idles_long = g.idles_long;
    some_processor = g.some_processor;
    few_processors = g.few_processors;
    in_seats = λ k. subst IsSeat (sym (get_or_blanked None (leaving_of ds m.runners) m.runners k)) (still_seat (marked (leaving_of ds m.runners) k) (get_or m.runners k None) (g.in_seats k));
    no_runner = λ k h. get_or_blanked None (leaving_of ds m.runners) m.runners k ∙ still_none (marked (leaving_of ds m.runners) k) (get_or m.runners k None) (g.no_runner k h);
    no_last = g.no_last;
    no_idle = g.no_idle;
    spent = omega (arith, g.spent, times_kept);
    within = g.within;
  }

  -- ---- who runs
  module _ (runs : m.running < base_slots) where
    runner_fate : r.running ≡ (if kin m.parents m.ids n m.running then base_slots else m.running)
    unfolding spared_of
    runner_fate = rw (lt-leb base_slots m.running runs, w.each m.running runs)

    pub kill_step : 0 < n → Kills n m (record { tables = r; ended = of_doomed ds (λ s. 2 ^ s); idled = of_left ds m.runners })
    kill_step some = record {
      seen = view_killed some;
      told = sym (mask_is some);
      told_idle = idle_told;
      gone = λ e. runner_fate ∙ rw e;
      stays = λ e. runner_fate ∙ rw e;
      shape = shape_killed some;
    }
