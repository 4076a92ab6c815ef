-- The machine turns to a processor, over machines alone: what is here and what is in a seat change places.
-- Assumes nothing.
use Rattle.std.specs.Prelude.{Option, None}
use Rattle.seats.specs.Seats.{IsSeat, InSeats}
use Rattle.std.proofs.Common.{◌≡◌, ℕ, zero, suc, ◌<◌, ◌≤◌, ◌≢◌, List, [], ◌∷◌, map, length, get_or, set, sym, refl, ap, ◌∙◌, ap₂, arith, length-set, get_or-set_other, get_or-set_same, lt-ltb}
use Rattle.rules.specs.Numbers.{most_processors}
use Rattle.rules.specs.Machine.{Process, Seat, with_seat, blank, here, turn}
use Rattle.lines.specs.Lines.{occ}
use Rattle.seats.proofs.Tabled.{table_long, table_get, table_set}
use Rattle.tables.specs.declared.Tables.{Tables}
use Rattle.tables.specs.View.{row, seated, slot_of, seat_at, seats, view, Shape}
use Rattle.tables.specs.Promised.{Step}
use Rattle.tables.proofs.Away.{occupant_slot, held_seated, seated_low, slot_low, away_set}
use Rattle.tables.proofs.Seats.{occ_seats}
use Rattle.tables.proofs.Billing.{tally_swap}

abbrev pub turned : ℕ → Tables → Tables
turned k m = record { ids = m.ids; taken = m.taken; parents = m.parents; customers = m.customers; priorities = m.priorities; handles = m.handles; times = m.times; lines = m.lines; high = m.high; low = m.low; four = m.four; waits = m.waits; running = slot_of (get_or m.runners k None); sems = m.sems; ceilings = m.ceilings; next = m.next; status = m.status; last = get_or m.lasts k 0; total = m.total; idle = get_or m.idles k 0; ended = m.ended; runners = set m.runners k (seated m.running); lasts = set m.lasts k m.last; idles = set m.idles k m.idle; processors = m.processors }

set_seat : (l : List (Option ℕ)) (k : ℕ) (x : Option ℕ) → IsSeat x → InSeats l → InSeats (set l k x)
set_seat [] k x h b j = b j
set_seat (y ∷ l) zero x h b zero = h
set_seat (y ∷ l) zero x h b (suc j) = b (suc j)
set_seat (y ∷ l) (suc k) x h b zero = b 0
set_seat (y ∷ l) (suc k) x h b (suc j) = set_seat l k x h (λ i. b (suc i)) j

module _ (k : ℕ) (m : Tables) (g : Shape m) (l : k < m.processors) where
  abbrev r : Tables
  r = turned k m

  abbrev there_runs : Option ℕ
  there_runs = get_or m.runners k None

  low : k < length m.runners
  low = omega (arith, l, g.few_processors, g.runners_long)

  low_lasts : k < length m.lasts
  low_lasts = omega (arith, l, g.few_processors, g.lasts_long)

  low_idles : k < length m.idles
  low_idles = omega (arith, l, g.few_processors, g.idles_long)

  -- the seat has what was here, and the other seats are as they were
  there : seat_at r k ≡ here (view m)
  there =
      rw (get_or-set_same m.runners k (seated m.running) None low, get_or-set_same m.lasts k m.last 0 low_lasts, get_or-set_same m.idles k m.idle 0 low_idles)
      (ap (λ (xs : List ℕ). of_list (map (row m) xs)) (held_seated m.running))
    where
      of_list : List Process → Seat
      of_list ps = record { running = ps; last = m.last; idle = m.idle }

  others : (j : ℕ) → j ≢ k → seat_at r j ≡ seat_at m j
  others j z = rw (get_or-set_other m.runners k j (seated m.running) None z, get_or-set_other m.lasts k j m.last 0 z, get_or-set_other m.idles k j m.idle 0 z) refl

  seats_turned : (view r).elsewhere ≡ set (view m).elsewhere k (here (view m))
  seats_turned = table_set m.processors k (seat_at m) (seat_at r) l others ∙ ap (set (view m).elsewhere k) there

  here_turned : here (view r) ≡ get_or (view m).elsewhere k blank
  here_turned =
      ap (λ (xs : List ℕ). of_list (map (row m) xs)) (occupant_slot there_runs (g.in_seats k))
      ∙ sym (table_get m.processors k (seat_at m) blank l)
    where
      of_list : List Process → Seat
      of_list ps = record { running = ps; last = get_or m.lasts k 0; idle = get_or m.idles k 0 }

  homes_turned : (s : ℕ) → occ s (seats r) ≡ occ s (seats m)
  homes_turned s =
      omega (arith, occ_seats r s, occ_seats m s, away_set s m.runners k (seated m.running) low, ap (occ s) (occupant_slot there_runs (g.in_seats k)), ap (occ s) (held_seated m.running))

  unused : {A : Type 0} (d : A) (xs : List A) (x : A) → ((j : ℕ) → m.processors ≤ j → get_or xs j d ≡ d) → (j : ℕ) → m.processors ≤ j → get_or (set xs k x) j d ≡ d
  unused d xs x none j h = get_or-set_other xs k j x d (λ (e : j ≡ k). let z : ⊥ = omega (arith, e, h, l) in z) ∙ none j h

  shape_turned : Shape r
  shape_turned = record {
    ids_long = g.ids_long;
    taken_mask = g.taken_mask;
    parents_long = g.parents_long;
    customers_long = g.customers_long;
    priorities_long = g.priorities_long;
    handles_long = g.handles_long;
    times_long = g.times_long;
    lines_long = g.lines_long;
    sems_long = g.sems_long;
    ceilings_long = g.ceilings_long;
    high_line = g.high_line;
    low_line = g.low_line;
    waits_line = g.waits_line;
    runner = slot_low there_runs (g.in_seats k);
    homes = λ s b. homes_turned s ∙ g.homes s b;
    coded = g.coded;
    codes = g.codes;
    once = g.once;
    issued = g.issued;
    parent = g.parent;
    no_customer = g.no_customer;
    no_priority = g.no_priority;
    no_handle = g.no_handle;
    no_time = g.no_time;
    runners_long = length-set m.runners k (seated m.running) ∙ g.runners_long;
    lasts_long = length-set m.lasts k m.last ∙ g.lasts_long;
    idles_long = length-set m.idles k m.idle ∙ g.idles_long;
    some_processor = g.some_processor;
    few_processors = g.few_processors;
    in_seats = set_seat m.runners k (seated m.running) (seated_low m.running) g.in_seats;
    no_runner = unused None m.runners (seated m.running) g.no_runner;
    no_last = unused 0 m.lasts m.last g.no_last;
    no_idle = unused 0 m.idles m.idle g.no_idle;
    spent = omega (arith, g.spent, tally_swap m.idles k m.idle most_processors low_idles (omega (arith, l, g.few_processors)));
    within = g.within;
  }

  pub turn_step : Step (turn k) m r
  unfolding turn
  turn_step = record {
    seen =
        ap₂ (λ (s : Seat) (ss : List Seat). with_seat s ss (view m)) here_turned seats_turned
        ∙ sym (rw (table_long m.processors (seat_at m), lt-ltb k m.processors l) refl);
    shape = shape_turned;
  }
