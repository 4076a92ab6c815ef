-- Who goes where, over machines alone: what the code leaves is the rule book's move, and the layout holds again.
-- Assumes nothing.
use Rattle.std.proofs.Common.{◌≡◌, ℕ, zero, suc, ◌+◌, ◌-◌, ◌<◌, ◌≤◌, Bool, true, false, List, [], ◌∷◌, ◌++◌, map, length, get_or, take, set, sym, refl, ap, ◌∙◌, ap₂, arith, length-set, get_or-set_other, get_or-take, get_or-set_same, if◌then◌else◌}
use mathlib.Core.List.{map-append}
use native.Mathlib.Decide.{ℕ_discrete}
use Rattle.rules.specs.Words.{front, rest}
use Rattle.rules.specs.Numbers.{base_slots}
use Rattle.rules.specs.Machine as book
use Rattle.rules.specs.Machine.{Process, Waiter, with_places, with_ready, counted, back, block}
use Rattle.lines.specs.Lines.{InSlots, Line, occ, one, taken_out, removed}
use Rattle.lines.specs.declared.queue.Queue.{Queue}
use Rattle.lines.specs.Queues.{items, pushed, without}
use Rattle.lines.proofs.Occ.{one_same, one_other, occ_append, occ_snoc}
use Rattle.lines.proofs.Laws.{line_size, line_slot, push_view, push_line, removed_view, removed_line}
use Rattle.lines.proofs.Bridge.{map_apart}
use Rattle.tables.specs.declared.Tables.{Tables}
use Rattle.tables.specs.Codes.{decode, last_code}
use Rattle.tables.specs.View.{row, waiter, occupant, highs, lows, readies, waiters, seats, view, live, Shape}
use Rattle.tables.specs.Promised.{put_ready, put_running, lined_up, Step}
use Rattle.tables.proofs.Seats.{occ_self, occ_nobody, occ_seats, pos_live, occupant_some, runner_seat, room_beside, runs_one}
use Rattle.tables.proofs.Lining.{high_lined, low_lined, occ_lined, lined_seen}

-- the same tables, but for who waits
abbrev pub put_waits : Queue → List ℕ → Tables → Tables
put_waits w ls m = record { ids = m.ids; taken = m.taken; parents = m.parents; customers = m.customers; priorities = m.priorities; handles = m.handles; times = m.times; lines = ls; high = m.high; low = m.low; four = m.four; waits = w; running = m.running; sems = m.sems; ceilings = m.ceilings; next = m.next; status = m.status; last = m.last; total = m.total; idle = m.idle; ended = m.ended; runners = m.runners; lasts = m.lasts; idles = m.idles; processors = m.processors }

-- .. but for who is where
abbrev pub put_places : ℕ → ℕ → Queue → Queue → Queue → List ℕ → Tables → Tables
put_places r n h l w ls m = put_running r n (put_ready h l (put_waits w ls m))

-- each slot is seated as often as before, and the codes are those of the waiting
pub moved_shape : (m : Tables) → Shape m → (r n : ℕ) (h l w : Queue) (ls : List ℕ)
    → r ≤ base_slots → Line base_slots h.slots h.count → Line base_slots l.slots l.count → Line base_slots w.slots w.count → length ls ≡ base_slots
    → ((s : ℕ) → s < base_slots → occ s (seats (put_places r n h l w ls m)) ≡ occ s (seats m))
    → ((s : ℕ) → s < base_slots → (live (get_or ls s 0) ≡ occ s (items w)) × (get_or ls s 0 ≤ last_code))
    → Shape (put_places r n h l w ls m)
moved_shape m g r n h l w ls runs high low waits long homes codes = record {
  ids_long = g.ids_long;
  taken_mask = g.taken_mask;
  parents_long = g.parents_long;
  customers_long = g.customers_long;
  priorities_long = g.priorities_long;
  handles_long = g.handles_long;
  times_long = g.times_long;
  lines_long = long;
  sems_long = g.sems_long;
  ceilings_long = g.ceilings_long;
  high_line = high;
  low_line = low;
  waits_line = waits;
  runner = runs;
  homes = λ s b. homes s b ∙ g.homes s b;
  coded = λ s b. (codes s b).0;
  codes = λ s b. (codes s b).1;
  once = g.once;
  issued = g.issued;
  parent = g.parent;
  no_customer = g.no_customer;
  no_priority = g.no_priority;
  no_handle = g.no_handle;
  no_time = g.no_time;
  runners_long = g.runners_long;
  lasts_long = g.lasts_long;
  idles_long = g.idles_long;
  some_processor = g.some_processor;
  few_processors = g.few_processors;
  in_seats = g.in_seats;
  no_runner = g.no_runner;
  no_last = g.no_last;
  no_idle = g.no_idle;
  spent = g.spent;
  within = g.within;
}

occ_head : (x s : ℕ) (l : List ℕ) → occ x (s ∷ l) ≡ one s x + occ x l
unfolding occ
occ_head x s l = refl

pub occ_alone : (x s : ℕ) → occ x (s ∷ []) ≡ one s x
unfolding occ
occ_alone x s = omega arith

-- ---- the first in a line runs
head_first : (l : List ℕ) → 0 < length l → l ≡ get_or l 0 0 ∷ taken_out 0 l
unfolding taken_out
head_first [] h = absurd (omega arith)
head_first (x ∷ l) h = refl

pub first_leaves : (q : List ℕ) (n : ℕ) → Line base_slots q n → 0 < n → take n q ≡ get_or q 0 0 ∷ take (n - 1) (removed q n 0)
first_leaves q n l some =
    head_first (take n q) (omega (arith, line_size l))
    ∙ ap₂ (λ x (xs : List ℕ). x ∷ xs) (get_or-take n q 0 0 some) (sym (removed_view base_slots q n 0 l some))

-- one of the ready runs, and the lines are without it
pub run_shape : (m : Tables) → Shape m → m.running ≡ base_slots → (s n : ℕ) (h l : Queue)
    → s < base_slots → Line base_slots h.slots h.count → Line base_slots l.slots l.count
    → ((x : ℕ) → occ x (readies m) ≡ one s x + (occ x (items h) + occ x (items l)))
    → Shape (put_running s n (put_ready h l m))
run_shape m g free s n h l b high low leaves =
    moved_shape m g s n h l m.waits m.lines (omega (arith, b)) high low g.waits_line g.lines_long
    (λ x c. omega (arith, occ_seats m x, occ_seats (put_running s n (put_ready h l m)) x, leaves x, occ_append x (items h) (items l), ap (λ r. occ x (occupant r)) free, ap (occ x) (occupant_some s b), occ_head x s [], occ_nobody x))
    (λ x c. (g.coded x c, g.codes x c))

-- the first of the high line runs, and of the low; the count of four is then n
abbrev pub high_runs : ℕ → Tables → Tables
high_runs n m = put_running (get_or m.high.slots 0 0) n (put_ready (without 0 m.high) m.low m)

abbrev pub low_runs : ℕ → Tables → Tables
low_runs n m = put_running (get_or m.low.slots 0 0) n (put_ready m.high (without 0 m.low) m)

-- the rule book's choice, where it is known whether it takes a low one
abbrev pub chosen : Bool → book.Machine → book.Machine
chosen b m =
    with_ready (if b then m.high else rest m.high) (if b then rest m.low else m.low)
    (counted m.high m.low m.four) (with_places (front (if b then m.low else m.high)) m.waiting m)

module _ (m : Tables) (g : Shape m) (free : m.running ≡ base_slots) (n : ℕ) (count : n ≡ counted (view m).high (view m).low m.four) where
  abbrev by_lists : List Process → List Process → List Process → ℕ → book.Machine
  by_lists r h l k = with_ready h l k (with_places r (view m).waiting (view m))

  module _ (some : 0 < m.high.count) where
    high_slot : get_or m.high.slots 0 0 < base_slots
    high_slot = line_slot g.high_line 0 some

    pub high_first : highs m ≡ get_or m.high.slots 0 0 ∷ highs (high_runs n m)
    high_first = first_leaves m.high.slots m.high.count g.high_line some

    pub high_step : Step (chosen false) m (high_runs n m)
    high_step = record {
      seen =
          ap₂ (λ (r : List Process) (k : ℕ). by_lists r (view (high_runs n m)).high (view m).low k) (ap (map (row m)) (occupant_some (get_or m.high.slots 0 0) high_slot)) count
          ∙ sym (ap (λ (l : List ℕ). by_lists (front (map (row m) l)) (rest (map (row m) l)) (view m).low (counted (view m).high (view m).low m.four)) high_first);
      shape = run_shape m g free (get_or m.high.slots 0 0) n (without 0 m.high) m.low high_slot (removed_line base_slots m.high.slots m.high.count 0 g.high_line some) g.low_line
          (λ x. omega (arith, occ_append x (highs m) (lows m), ap (occ x) high_first, occ_head x (get_or m.high.slots 0 0) (highs (high_runs n m))));
    }

  module _ (some : 0 < m.low.count) where
    low_slot : get_or m.low.slots 0 0 < base_slots
    low_slot = line_slot g.low_line 0 some

    pub low_first : lows m ≡ get_or m.low.slots 0 0 ∷ lows (low_runs n m)
    low_first = first_leaves m.low.slots m.low.count g.low_line some

    pub low_step : Step (chosen true) m (low_runs n m)
    low_step = record {
      seen =
          ap₂ (λ (r : List Process) (k : ℕ). by_lists r (view m).high (view (low_runs n m)).low k) (ap (map (row m)) (occupant_some (get_or m.low.slots 0 0) low_slot)) count
          ∙ sym (ap (λ (l : List ℕ). by_lists (front (map (row m) l)) (view m).high (rest (map (row m) l)) (counted (view m).high (view m).low m.four)) low_first);
      shape = run_shape m g free (get_or m.low.slots 0 0) n m.high (without 0 m.low) low_slot g.high_line (removed_line base_slots m.low.slots m.low.count 0 g.low_line some)
          (λ x. omega (arith, occ_append x (highs m) (lows m), ap (occ x) low_first, occ_head x (get_or m.low.slots 0 0) (lows (low_runs n m))));
    }

-- ---- whoever runs goes to the end of its ready line
-- nobody runs
abbrev pub unmanned : Tables → Tables
unmanned m = put_running base_slots m.four m

abbrev pub backed : Tables → Tables
backed m = lined_up (m.running ∷ []) (unmanned m)

pub one_slot : (s : ℕ) → s < base_slots → InSlots base_slots (s ∷ [])
one_slot s b zero h = b
one_slot s b (suc i) h = absurd (omega arith)

pub back_step : (m : Tables) → Shape m → m.running < base_slots → Step back m (backed m)
unfolding back
back_step m g h =
    let r = m.running in
    let us = r ∷ [] in
    let b = unmanned m in
    let room : b.high.count + b.low.count + length us ≤ base_slots = omega (arith, room_beside m g h) in
    let slots = one_slot r h in
    record {
      seen =
          lined_seen b g.high_line g.low_line us room
          ∙ ap (λ (ps : List Process). book.joined ps (with_places [] (view m).waiting (view m))) (sym (runs_one m g h));
      shape = moved_shape m g base_slots m.four _ _ _ _ (omega arith) (high_lined b g.high_line g.low_line us room slots) (low_lined b g.high_line g.low_line us room slots) g.waits_line g.lines_long
          (λ x c. omega (arith, occ_seats m x, occ_seats (backed m) x, occ_lined b g.high_line g.low_line us room x, ap (occ x) (occupant_some r h), occ_nobody x))
          (λ x c. (g.coded x c, g.codes x c));
    }

-- ---- whoever runs joins a waiting line
abbrev pub blocked : Tables → ℕ → Tables
blocked m c = put_running base_slots m.four (put_waits (pushed m.running m.waits) (set m.lines m.running c) m)

module _ (m : Tables) (g : Shape m) (h : m.running < base_slots) (c : ℕ) (lo : 1 ≤ c) (hi : c ≤ last_code) where
  abbrev r : ℕ
  r = m.running

  not_waiting : occ r (waiters m) ≡ 0
  not_waiting = omega (arith, (runner_seat m g h).once, occ_seats m r, ap (occ r) (occupant_some r h), occ_self r)

  code_own : get_or (set m.lines r c) r 0 ≡ c
  code_own = get_or-set_same m.lines r c 0 (omega (arith, g.lines_long))

  code_other : (x : ℕ) → (x ≡ r → ⊥) → get_or (set m.lines r c) x 0 ≡ get_or m.lines x 0
  code_other x n = get_or-set_other m.lines r x c 0 n

  pub block_step : Step (block (decode c)) m (blocked m c)
  unfolding block
  block_step =
      let room : m.waits.count < base_slots = omega (arith, room_beside m g h) in
      let joins : waiters (blocked m c) ≡ waiters m ++ (r ∷ []) = push_view base_slots m.waits.slots m.waits.count r g.waits_line room in
      record {
        seen =
            ap (λ (l : List Waiter). with_places [] l (view m)) (
            ap (map (waiter (blocked m c))) joins
            ∙ map-append (waiter (blocked m c)) (waiters m) (r ∷ [])
            ∙ ap₂ (λ (k l : List Waiter). k ++ l)
            (map_apart r (waiter (blocked m c)) (waiter m) (λ x n. ap (λ v. at_code v (row m x)) (code_other x n)) (waiters m) not_waiting)
            (ap (λ v. at_code v (row m r) ∷ []) code_own ∙ ap (map (λ (p : Process). at_code c p)) (sym (runs_one m g h)))
            );
        shape = moved_shape m g base_slots m.four _ _ _ _ (omega arith) g.high_line g.low_line (push_line base_slots m.waits.slots m.waits.count r g.waits_line room h) (simp length-set g.lines_long)
            (λ x b. omega (arith, occ_seats m x, occ_seats (blocked m c) x, ap (occ x) joins, occ_snoc x (waiters m) r, ap (occ x) (occupant_some r h), occ_head x r [], occ_nobody x))
            (λ x b. coded_now x b joins (ℕ_discrete x r));
      }
    where
      at_code : ℕ → Process → Waiter
      at_code v p = record { process = p; line = decode v }

      coded_now : (x : ℕ) → x < base_slots → waiters (blocked m c) ≡ waiters m ++ (r ∷ []) → Dec (x ≡ r) → (live (get_or (set m.lines r c) x 0) ≡ occ x (waiters (blocked m c))) × (get_or (set m.lines r c) x 0 ≤ last_code)
      coded_now x b joins (yes e) =
          let o : occ x (waiters (blocked m c)) ≡ 1 = omega (arith, ap (occ x) joins, occ_snoc x (waiters m) r, ap (λ y. occ y (waiters m)) e, not_waiting, ap (one r) e, one_same r) in
          rw (e, code_own) (pos_live c lo ∙ sym (ap (λ y. occ y (waiters (blocked m c))) (sym e) ∙ o), hi)
      coded_now x b joins (no n) =
          rw (code_other x n) (omega (arith, g.coded x b, ap (occ x) joins, occ_snoc x (waiters m) r, one_other r x (λ q. n (sym q))), g.codes x b)
