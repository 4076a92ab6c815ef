-- What a look tells, over tables alone: the one seat of a slot, where it is, and the mask of all.
-- Assumes nothing.
use Rattle.std.specs.Prelude.{sum as total, if◌then◌else◌, Option, Some, None}
use mathlib.Core.Path.{◌≡◌, refl, sym, ap, ap₂, ◌∙◌}
use mathlib.Core.Bool.{Bool, true, false, true≢false}
use mathlib.Core.List.{List, [], ◌∷◌, ◌++◌, map}
use Prim.Native.Nat.{ℕ, zero, suc, ◌+◌, ◌-◌, ◌*◌, ◌^◌, ◌<◌, ◌≤◌}
use native.Mathlib.Nat.{one-mul, zero-mul}
use native.Mathlib.Omega.{arith}
use native.Mathlib.Decide.{ℕ_discrete}
use lib.Dec.{eqb, leb, ltb}
use borrow.Author.Tests.{leb-true, leb-false, ltb-true, ltb-false, ne_eqb}
use lib.ListN.{length, take, get_or, replicate, length-take, take-append-drop, get_or-eq_default}
use Rattle.std.proofs.lemmas.List.Sums.{sum_by-cons}
use Rattle.rules.specs.declared.Line.TheVariants.{Device}
use Rattle.rules.specs.Words.{first, those, any, sum, All}
use Rattle.rules.specs.Numbers.{base_slots, most_processors}
use Rattle.rules.proofs.Sums.{sum_over}
use Rattle.rules.specs.Machine as book
use Rattle.rules.specs.Machine.{Process, Waiter, is_high, living, living_of, ceiling, blank, here}
use Rattle.rules.specs.Tables.{InOwnLine, idle_time}
use Rattle.rules.specs.Answers.{mask}
use Rattle.rules.specs.Rules.{start, all_at, run, rule_book}
use Rattle.rules.proofs.Examples.{call}
use Rattle.lines.specs.Lines.{Line, entry, tally, is_zero, first_where, one, occ, mask_of_taken}
use Rattle.lines.proofs.Occ.{one_other, occ_append, sum_slots, tally_same, tally_front}
use Rattle.seats.specs.Seats.{table, held_slot, seat, sits_in, InSeats}
use Rattle.seats.proofs.Tabled.{table_get, table_past}
use Rattle.seats.proofs.Told.{tally_stop}
use Rattle.lines.proofs.Bridge.{those_map, any_map, none_is, one_is, any_those, any_none}
use Rattle.tables.specs.declared.Tables.{Tables}
use Rattle.looks.specs.declared.Place.{Place}
use Rattle.looks.specs.declared.Place.TheVariants.{Nowhere, Running, High, Low, Waiting}
use Rattle.tables.specs.Codes.{decode}
use Rattle.tables.specs.View.{row, waiter, occupant, away, seat_at, highs, lows, readies, waiters, seats, view, live, Shape}
use Rattle.kin.specs.Families.{climb, parent_at}
use Rattle.looks.specs.Looks.{seat_of, who_runs, sits, who_is_in, of_slot, parent_of, processor_of, line_at, place_at, row_at, in_order, highs_in_order, lows_in_order, waiting_in_order}
use Rattle.tables.proofs.Seats as seated
use Rattle.tables.proofs.Seats.{seats_living, occ_seats, occ_nobody, seats_slots, living_seat, pos_live, live_le}

-- ---- what a taken slot has, and a free one has not
of_taken : (x n : ℕ) → live x * n ≡ (if eqb x 0 then 0 else n)
of_taken x n = go (eqb x 0)
  where
    go : (b : Bool) → (if b then 0 else 1) * n ≡ (if b then 0 else n)
    go true = zero-mul n
    go false = one-mul n

-- ---- an array has nothing for a number beyond it
pub beyond : (l : List ℕ) (k : ℕ) → length l ≡ k → (s : ℕ) → k ≤ s → get_or l s 0 ≡ 0
beyond l k e s h = get_or-eq_default l 0 (omega arith)

-- ---- the sum of an array's entries
pub sum_tally : (l : List ℕ) → total l ≡ tally (entry l) (length l)
unfolding tally
sum_tally [] = refl
sum_tally (x ∷ l) = sum_by-cons (λ (n : ℕ). n) x l ∙ ap (λ (n : ℕ). x + n) (sum_tally l) ∙ sym (tally_front (entry (x ∷ l)) (length l))

-- ---- a slot in a line
module _ (m : Tables) (s : ℕ) where
  stands : (l : List ℕ) → occ s l ≡ 1 → any (sits s) (map (row m) l) ≡ true
  stands l h = any_map (sits s) (row m) l ∙ any_those (λ x. eqb x s) l s [] (one_is s l h)

  absent : (l : List ℕ) → occ s l ≡ 0 → any (sits s) (map (row m) l) ≡ false
  absent l h = any_map (sits s) (row m) l ∙ any_none (λ x. eqb x s) l (none_is s l h)

  waits_there : (l : List ℕ) → those (λ w. sits s w.process) (map (waiter m) l) ≡ map (waiter m) (those (λ x. eqb x s) l)
  waits_there l = those_map (λ w. sits s w.process) (waiter m) l

  -- a test that the rows of a line pass alike is passed so by whoever is in it
  unlike : (t : Process → Bool) (b : Bool) (l : List ℕ) → All (λ p. t p ≡ b) (map (row m) l) → (t (row m s) ≡ b → ⊥) → occ s l ≡ 0
  unfolding occ
  unlike t b [] h n = refl
  unlike t b (x ∷ l) h n = omega (arith, one_other x s (λ e. n (ap (λ y. t (row m y)) (sym e) ∙ h.0)), unlike t b l h.1 n)

-- who does not run
occ_one : (r s : ℕ) → occ s (r ∷ []) ≡ one r s
unfolding occ
occ_one r s = omega arith

sum_table : {A : Type 0} (f : A → ℕ) (n : ℕ) (g : ℕ → A) → sum f (table n g) ≡ tally (λ k. f (g k)) n
unfolding tally
sum_table f zero g = refl
sum_table f (suc n) g = omega (arith, sum_table f n (λ k. g (suc k)), tally_front (λ k. f (g k)) n)

-- how often a slot has a seat
held_head : (c : Option ℕ) (s : ℕ) → occ s (held_slot c) ≡ (if sits_in s c then 1 else 0)
held_head None s = occ_nobody s
held_head (Some r) s = occ_one r s

-- who is found in no seat has none
held_not : (cs : List (Option ℕ)) (s k : ℕ) → first_where (sits_in s) k cs ≡ None → occ s (away cs) ≡ 0
unfolding first_where
held_not [] s k e = occ_nobody s
held_not (c ∷ cs) s k e = go (sits_in s c) (held_head c s) e (held_not cs s (suc k))
  where
    go : (b : Bool) → occ s (held_slot c) ≡ (if b then 1 else 0) → (if b then Some k else first_where (sits_in s) (suc k) cs) ≡ None → (first_where (sits_in s) (suc k) cs ≡ None → occ s (away cs) ≡ 0) → occ s (held_slot c ++ away cs) ≡ 0
    go true h e ih = let z : ◌≡◌ {A = ℕ} 0 1 = cc in absurd (omega arith)
    go false h e ih = omega (arith, occ_append s (held_slot c) (away cs), h, ih e)

-- what is no slot has no seat
no_such_seat : (cs : List (Option ℕ)) (s k : ℕ) → InSeats cs → base_slots ≤ s → first_where (sits_in s) k cs ≡ None
unfolding first_where
no_such_seat [] s k low h = refl
no_such_seat (None ∷ cs) s k low h = no_such_seat cs s (suc k) (λ i. low (suc i)) h
no_such_seat (Some r ∷ cs) s k low h = rw (ne_eqb r s (λ (z : r ≡ s). let y : ⊥ = omega (arith, low 0, z, h) in y)) (no_such_seat cs s (suc k) (λ i. low (suc i)) h)

-- ---- the processor that a slot runs on, by the seats
module _ (m : Tables) (s : ℕ) where
  as_list : Option ℕ → List ℕ
  as_list (Some k) = k ∷ []
  as_list None = []

  in_seat : (c : Option ℕ) → any (sits s) (map (row m) (held_slot c)) ≡ sits_in s c
  in_seat c = go (sits_in s c) (held_head c s)
    where
      go : (b : Bool) → occ s (held_slot c) ≡ (if b then 1 else 0) → any (sits s) (map (row m) (held_slot c)) ≡ b
      go true e = stands m s (held_slot c) e
      go false e = absent m s (held_slot c) e

  nobody_on : (n k : ℕ) (l i : ℕ → ℕ) → processor_of s k (table n (λ j. seat (row m) None (l j) (i j))) ≡ []
  unfolding processor_of
  nobody_on zero k l i = refl
  nobody_on (suc n) k l i = nobody_on n (suc k) (λ j. l (suc j)) (λ j. i (suc j))

  nowhere : (cs : List (Option ℕ)) (k : ℕ) → ((j : ℕ) → get_or cs j None ≡ None) → first_where (sits_in s) k cs ≡ None
  unfolding first_where
  nowhere [] k none = refl
  nowhere (c ∷ cs) k none = rw (none 0) (nowhere cs (suc k) (λ j. none (suc j)))

  processor_told : (cs : List (Option ℕ)) (n k : ℕ) (l i : ℕ → ℕ) → ((j : ℕ) → n ≤ j → get_or cs j None ≡ None)
      → processor_of s k (table n (λ j. seat (row m) (get_or cs j None) (l j) (i j))) ≡ as_list (first_where (sits_in s) k cs)
  unfolding processor_of first_where as_list
  processor_told [] n k l i none = nobody_on n k l i
  processor_told (c ∷ cs) zero k l i none = sym (ap as_list (nowhere (c ∷ cs) k (λ j. none j (omega arith))))
  processor_told (c ∷ cs) (suc n) k l i none = go (sits_in s c) (in_seat c) (processor_told cs n (suc k) (λ j. l (suc j)) (λ j. i (suc j)) (λ j h. none (suc j) (omega (arith, h))))
    where
      go : (b : Bool) → any (sits s) (map (row m) (held_slot c)) ≡ b → processor_of s (suc k) (table n (λ j. seat (row m) (get_or cs j None) (l (suc j)) (i (suc j)))) ≡ as_list (first_where (sits_in s) (suc k) cs)
          → (if any (sits s) (map (row m) (held_slot c)) then k ∷ [] else processor_of s (suc k) (table n (λ j. seat (row m) (get_or cs j None) (l (suc j)) (i (suc j))))) ≡ as_list (if b then Some k else first_where (sits_in s) (suc k) cs)
      go true e ih = rw e
      go false e ih = rw e ih

module _ (m : Tables) (g : Shape m) where
  -- ---- who
  pub seat_told : (k : ℕ) → seat_of k (view m) ≡ seat_at m k
  seat_told k = go (ltb k m.processors) refl
    where
      go : (b : Bool) → ltb k m.processors ≡ b → seat_of k (view m) ≡ seat_at m k
      go true e = table_get m.processors k (seat_at m) blank (ltb-true k m.processors e)
      go false e =
          let past = ltb-false k m.processors e in
          table_past m.processors k (seat_at m) blank past ∙ sym (rw (g.no_runner k past, g.no_last k past, g.no_idle k past) refl)

  pub runs_slot : (k s : ℕ) → get_or m.runners k None ≡ Some s → who_runs k (view m) ≡ Some s
  runs_slot k s e = ap (λ (x : book.Seat). first x.running None (λ p. Some p.slot)) (seat_told k) ∙ ap (λ c. first (map (row m) (held_slot c)) None (λ p. Some p.slot)) e

  pub runs_absent : (k : ℕ) → get_or m.runners k None ≡ None → who_runs k (view m) ≡ None
  runs_absent k e = ap (λ (x : book.Seat). first x.running None (λ p. Some p.slot)) (seat_told k) ∙ ap (λ c. first (map (row m) (held_slot c)) None (λ p. Some p.slot)) e

  pub last_told : (k : ℕ) → (seat_of k (view m)).last ≡ get_or m.lasts k 0
  last_told k = ap (λ (x : book.Seat). x.last) (seat_told k)

  pub idle_told : (k : ℕ) → (seat_of k (view m)).idle ≡ get_or m.idles k 0
  idle_told k = ap (λ (x : book.Seat). x.idle) (seat_told k)

  -- ---- the one seat of a slot
  rows_in : (s : ℕ) → who_is_in s (view m) ≡ map (row m) (those (λ x. eqb x s) (seats m))
  rows_in s = ap (those (sits s)) (seats_living m g) ∙ those_map (sits s) (row m) (seats m)

  -- a free slot, and a number that is no slot
  free_seat : (s : ℕ) → get_or m.ids s 0 ≡ 0 → occ s (seats m) ≡ 0
  free_seat s e = go (ℕ_discrete (occ s (seats m)) 0)
    where
      go : Dec (occ s (seats m) ≡ 0) → occ s (seats m) ≡ 0
      go (yes z) = z
      go (no n) = absurd (omega (arith, e, (seated.seat m g s (omega arith)).alive))

  pub nobody_in : (s : ℕ) → get_or m.ids s 0 ≡ 0 → who_is_in s (view m) ≡ []
  nobody_in s e = rows_in s ∙ ap (map (row m)) (none_is s (seats m) (free_seat s e))

  pub one_in : (s : ℕ) → s < base_slots → 0 < get_or m.ids s 0 → who_is_in s (view m) ≡ row m s ∷ []
  one_in s k h = rows_in s ∙ ap (map (row m)) (one_is s (seats m) (living_seat m g s k h).once)

  -- what is zero in free rows is what a look tells, for every number
  pub told : (f : Process → ℕ) (s : ℕ) → (get_or m.ids s 0 ≡ 0 → f (row m s) ≡ 0) → of_slot f s (view m) ≡ f (row m s)
  told f s none = go (ℕ_discrete (get_or m.ids s 0) 0) (leb base_slots s) refl
    where
      go : Dec (get_or m.ids s 0 ≡ 0) → (b : Bool) → leb base_slots s ≡ b → of_slot f s (view m) ≡ f (row m s)
      go (yes e) b h = ap (λ (l : List Process). first l 0 f) (nobody_in s e) ∙ sym (none e)
      go (no n) true h = absurd (n (beyond m.ids base_slots g.ids_long s (leb-true base_slots s h)))
      go (no n) false h = ap (λ (l : List Process). first l 0 f) (one_in s (leb-false base_slots s h) (omega arith))

  -- the zeros of free rows reach to every number
  no_entry : (l : List ℕ) → length l ≡ base_slots → ((s : ℕ) → s < base_slots → get_or m.ids s 0 ≡ 0 → get_or l s 0 ≡ 0) → (s : ℕ) → get_or m.ids s 0 ≡ 0 → get_or l s 0 ≡ 0
  no_entry l e z s h = go (leb base_slots s) refl
    where
      go : (b : Bool) → leb base_slots s ≡ b → get_or l s 0 ≡ 0
      go true q = beyond l base_slots e s (leb-true base_slots s q)
      go false q = z s (leb-false base_slots s q) h

  pub id_told : (s : ℕ) → of_slot (λ p. p.id) s (view m) ≡ get_or m.ids s 0
  id_told s = told (λ p. p.id) s (λ e. e)

  pub customer_told : (s : ℕ) → of_slot (λ p. p.customer) s (view m) ≡ get_or m.customers s 0
  customer_told s = told (λ p. p.customer) s (no_entry m.customers g.customers_long g.no_customer s)

  pub priority_told : (s : ℕ) → of_slot (λ p. p.priority) s (view m) ≡ get_or m.priorities s 0
  priority_told s = told (λ p. p.priority) s (no_entry m.priorities g.priorities_long g.no_priority s)

  pub handle_told : (s : ℕ) → of_slot (λ p. p.handle) s (view m) ≡ get_or m.handles s 0
  handle_told s = told (λ p. p.handle) s (no_entry m.handles g.handles_long g.no_handle s)

  pub time_told : (s : ℕ) → of_slot (λ p. p.time) s (view m) ≡ get_or m.times s 0
  time_told s = told (λ p. p.time) s (no_entry m.times g.times_long g.no_time s)

  -- nobody is in what is no slot
  pub no_slot : (f : Process → ℕ) (s : ℕ) → base_slots ≤ s → of_slot f s (view m) ≡ 0
  no_slot f s h = ap (λ (l : List Process). first l 0 f) (nobody_in s (beyond m.ids base_slots g.ids_long s h))

  -- ---- the parent
  pub parent_told : (s : ℕ) → of_slot parent_of s (view m) ≡ parent_at m.parents m.ids s
  unfolding climb
  parent_told s = told parent_of s (λ e. rw e)

  -- ---- the place
  module _ (s : ℕ) where
    on_processor : processor_of s 0 (view m).elsewhere ≡ as_list m s (first_where (sits_in s) 0 m.runners)
    on_processor = processor_told m s m.runners m.processors 0 (λ k. get_or m.lasts k 0) (λ k. get_or m.idles k 0) g.no_runner

    pub place_running : (k : ℕ) → first_where (sits_in s) 0 m.runners ≡ Some k → place_at s (view m) ≡ Running k
    unfolding place_at as_list
    place_running k e = ap (λ (l : List ℕ). first l (line_at s (view m)) Running) (on_processor ∙ ap (as_list m s) e)

    by_parts : Bool → Bool → List ℕ → Place
    by_parts h l w = if h then High else (if l then Low else first (map (waiter m) w) Nowhere (λ x. Waiting x.line))

    in_lines : occ s (readies m) ≡ occ s (highs m) + occ s (lows m)
    in_lines = occ_append s (highs m) (lows m)

    -- it runs on no processor
    module _ (idle : first_where (sits_in s) 0 m.runners ≡ None) where
      parts : (h l : Bool) (w : List ℕ) → any (sits s) (view m).high ≡ h → any (sits s) (view m).low ≡ l → those (λ x. eqb x s) (waiters m) ≡ w → place_at s (view m) ≡ by_parts h l w
      unfolding place_at line_at by_parts as_list
      parts h l w a b d =
          let e = waits_there m s (waiters m) ∙ ap (map (waiter m)) d in
          ap (λ (ks : List ℕ). first ks (line_at s (view m)) Running) (on_processor ∙ ap (as_list m s) idle)
          ∙ (λ i. if a i then High else (if b i then Low else first (e i) Nowhere (λ x. Waiting x.line)))

      pub place_none : get_or m.ids s 0 ≡ 0 → place_at s (view m) ≡ Nowhere
      unfolding by_parts
      place_none e =
          let z = free_seat s e in
          parts false false []
          (absent m s (highs m) (omega (arith, occ_seats m s, in_lines)))
          (absent m s (lows m) (omega (arith, occ_seats m s, in_lines)))
          (none_is s (waiters m) (omega (arith, occ_seats m s)))

      module _ (k : s < base_slots) where
        pub place_waiting : (get_or m.lines s 0 ≡ 0 → ⊥) → place_at s (view m) ≡ Waiting (decode (get_or m.lines s 0))
        unfolding by_parts
        place_waiting n =
            let h = g.homes s k in
            let w = g.coded s k in
            let u = pos_live (get_or m.lines s 0) (omega arith) in
            let v = live_le (get_or m.ids s 0) in
            parts false false (s ∷ [])
            (absent m s (highs m) (omega (arith, occ_seats m s, in_lines)))
            (absent m s (lows m) (omega (arith, occ_seats m s, in_lines)))
            (one_is s (waiters m) (omega arith))

        -- who does not wait either is ready, in the line of its own priority
        module _ (rest : m.running ≡ base_slots) (uncoded : get_or m.lines s 0 ≡ 0) (there : get_or m.ids s 0 ≡ 0 → ⊥) (own : InOwnLine (view m).high (view m).low) where
          here_nobody : occ s (occupant m.running) ≡ 0
          here_nobody = ap (λ x. occ s (occupant x)) rest ∙ occ_nobody s

          not_waiting : occ s (waiters m) ≡ 0
          not_waiting = sym (g.coded s k) ∙ ap live uncoded

          is_ready : occ s (highs m) + occ s (lows m) ≡ 1
          is_ready = omega (arith, in_lines, g.homes s k, pos_live (get_or m.ids s 0) (omega arith), here_nobody, held_not m.runners s 0 idle, not_waiting, occ_seats m s)

          pub place_high : is_high (row m s) ≡ true → place_at s (view m) ≡ High
          unfolding by_parts
          place_high e =
              let none : occ s (lows m) ≡ 0 = unlike m s is_high false (lows m) own.1 (λ f. true≢false (sym e ∙ f)) in
              parts true _ _ (stands m s (highs m) (omega (arith, is_ready, none))) refl refl

          pub place_low : is_high (row m s) ≡ false → place_at s (view m) ≡ Low
          unfolding by_parts
          place_low e =
              let none : occ s (highs m) ≡ 0 = unlike m s is_high true (highs m) own.0 (λ f. true≢false (sym f ∙ e)) in
              parts false true _ (absent m s (highs m) none) (stands m s (lows m) (omega (arith, is_ready, none))) refl

    -- what is no slot is nowhere
    pub place_out : base_slots ≤ s → place_at s (view m) ≡ Nowhere
    place_out h = place_none unseated (beyond m.ids base_slots g.ids_long s h)
      where
        unseated : first_where (sits_in s) 0 m.runners ≡ None
        unseated = no_such_seat m.runners s 0 g.in_seats h

  -- ---- the whole row
  pub row_out : (s : ℕ) → base_slots ≤ s → row_at s (view m) ≡ record { id = 0; parent = 0; customer = 0; priority = 0; handle = 0; time = 0; place = Nowhere }
  row_out s h =
      let none = no_slot in
      λ i. record {
        id = none (λ p. p.id) s h i;
        parent = none parent_of s h i;
        customer = none (λ p. p.customer) s h i;
        priority = none (λ p. p.priority) s h i;
        handle = none (λ p. p.handle) s h i;
        time = none (λ p. p.time) s h i;
        place = place_out s h i;
      }

  pub row_told : (s : ℕ) → row_at s (view m) ≡ record {
    id = get_or m.ids s 0;
    parent = parent_at m.parents m.ids s;
    customer = get_or m.customers s 0;
    priority = get_or m.priorities s 0;
    handle = get_or m.handles s 0;
    time = get_or m.times s 0;
    place = place_at s (view m);
  }
  row_told s = λ i. record {
    id = id_told s i;
    parent = parent_told s i;
    customer = customer_told s i;
    priority = priority_told s i;
    handle = handle_told s i;
    time = time_told s i;
    place = place_at s (view m);
  }

  -- nobody is here
  pub at_rest : here (view m) ≡ blank → m.running ≡ base_slots
  at_rest rest = go (ltb m.running base_slots) refl (ap (λ (x : book.Seat). length x.running) rest)
    where
      go : (b : Bool) → ltb m.running base_slots ≡ b → length (map (row m) (if b then m.running ∷ [] else [])) ≡ 0 → m.running ≡ base_slots
      go true e h = absurd (omega (arith, h))
      go false e h = omega (arith, ltb-false m.running base_slots e, g.runner)

  -- ---- idle time of all processors
  pub idle_all : here (view m) ≡ blank → idle_time (view m) ≡ tally (entry m.idles) most_processors
  idle_all rest =
      let none : m.idle ≡ 0 = ap (λ (x : book.Seat). x.idle) rest in
      omega (arith, none, sum_table (λ (x : book.Seat). x.idle) m.processors (seat_at m), tally_stop (entry m.idles) m.processors most_processors g.few_processors g.no_idle)

  -- ---- all of them
  pub all_alive : mask (living (view m)) ≡ m.taken
  unfolding mask mask_of_taken
  all_alive =
      ap (sum (λ p. 2 ^ p.slot)) (seats_living m g)
      ∙ sum_over (λ p. 2 ^ p.slot) (row m) (seats m)
      ∙ sum_slots base_slots (λ s. 2 ^ s) (seats m) (seats_slots m g)
      ∙ tally_same (λ s. occ s (seats m) * 2 ^ s) (λ s. if is_zero (entry m.ids s) then 0 else 2 ^ s) base_slots (λ s k. ap (λ n. n * 2 ^ s) (g.homes s k) ∙ of_taken (get_or m.ids s 0) (2 ^ s))
      ∙ sym g.taken_mask

-- ---- a line in order: the slots of its rows, and zeros behind them
slots_back : {A : Type 0} (slot : A → ℕ) (f : ℕ → A) → ((s : ℕ) → slot (f s) ≡ s) → (l : List ℕ) → map slot (map f l) ≡ l
slots_back slot f e [] = refl
slots_back slot f e (s ∷ l) = ap₂ {A = ℕ} {B = List ℕ} (λ x xs. x ∷ xs) (e s) (slots_back slot f e l)

line_whole : (q : List ℕ) (n : ℕ) → Line base_slots q n → record { slots = q; count = n } ≡ in_order (take n q)
line_whole q n h =
    let long : length (take n q) ≡ n = simp length-take (omega (arith, h.room, h.long)) in
    let all : q ≡ take n q ++ replicate (base_slots - length (take n q)) 0 =
    sym (take-append-drop n q) ∙ ap (λ (l : List ℕ). take n q ++ l) (h.blank ∙ ap (λ k. replicate (base_slots - k) 0) (sym long)) in
    λ i. record { slots = all i; count = sym long i }

pub highs_told : (m : Tables) → Shape m → m.high ≡ highs_in_order (view m)
highs_told m g = line_whole m.high.slots m.high.count g.high_line ∙ ap in_order (sym (slots_back (λ (p : Process). p.slot) (row m) (λ s. refl) (highs m)))

pub lows_told : (m : Tables) → Shape m → m.low ≡ lows_in_order (view m)
lows_told m g = line_whole m.low.slots m.low.count g.low_line ∙ ap in_order (sym (slots_back (λ (p : Process). p.slot) (row m) (λ s. refl) (lows m)))

pub waiting_told : (m : Tables) → Shape m → m.waits ≡ waiting_in_order (view m)
waiting_told m g = line_whole m.waits.slots m.waits.count g.waits_line ∙ ap in_order (sym (slots_back (λ (w : Waiter). w.process.slot) (waiter m) (λ s. refl) (waiters m)))

-- ---- one result: a promise that is an equation for the result has no other
pub one_result {ℓ} : {A : Type ℓ} (x r s : A) → r ≡ x → s ≡ x → r ≡ s
one_result x r s p q = p ∙ sym q

-- ---- the whole example of document 01 after its sixth event: slot 1 has just commanded sub-device 32, and slot 0 runs
six : book.Machine
six = run (start base_slots 1 1000 (1 ∷ replicate 31 0) (base_slots ∷ replicate 8 0)) (all_at 0 (call 1500 1 0 0 0 ∷ call 1600 3 0 0 0 ∷ call 1700 3 0 0 0 ∷ call 1800 6 0 0 0 ∷ call 1900 4 0 0 0 ∷ call 2000 5 32 7 0 ∷ []))

places_seen : map (λ s. place_at s six) (0 ∷ 1 ∷ 2 ∷ base_slots ∷ []) ≡ Running 0 ∷ Waiting (Device 32) ∷ Nowhere ∷ Nowhere ∷ []
unfolding rule_book six place_at line_at processor_of
places_seen = refl

numbers_seen : map (λ s. of_slot (λ p. p.id) s six ∷ of_slot parent_of s six ∷ of_slot (λ p. p.time) s six ∷ []) (0 ∷ 1 ∷ 2 ∷ []) ≡ (1 ∷ 0 ∷ 700 ∷ []) ∷ (2 ∷ 1 ∷ 300 ∷ []) ∷ (0 ∷ 0 ∷ 0 ∷ []) ∷ []
unfolding rule_book six
numbers_seen = refl

alive_seen : mask (living six) ≡ 3
unfolding rule_book six
alive_seen = refl

customers_seen : map (λ c. living_of c six ∷ ceiling c six ∷ []) (0 ∷ 1 ∷ 9 ∷ []) ≡ (2 ∷ base_slots ∷ []) ∷ (0 ∷ 0 ∷ []) ∷ (0 ∷ 0 ∷ []) ∷ []
unfolding rule_book six
customers_seen = refl
