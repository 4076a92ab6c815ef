-- Who sits where: the living by their slots, and the parts of the rule book's machine by the tables.
-- Assumes nothing.
use Rattle.std.proofs.Common.{◌≡◌, ℕ, zero, suc, ◌+◌, ◌<◌, ◌≤◌, Bool, true, false, eqb, ltb, List, [], ◌∷◌, ◌++◌, map, length, get_or, sym, refl, ap, ◌∙◌, ap₂, arith, length-append, ltb-true, le-ltb, lt-ltb, ne_eqb, if◌then◌else◌}
use mathlib.Core.List.{map-append}
use native.Mathlib.Decide.{ℕ_discrete}
use Rattle.rules.specs.declared.Line.{Line}
use Rattle.rules.specs.Words.{those, any, sum, count, All}
use Rattle.rules.proofs.Sums.{sum_over}
use Rattle.rules.specs.Numbers.{base_slots, base_sems}
use Rattle.rules.specs.Machine.{Process, Waiter, living, living_of, at, line, nucleus, nucleus_waits}
use Rattle.lines.specs.Lines.{InSlots, occ, in_lines, members_of}
use Rattle.lines.proofs.Occ.{occ_append, one_same, length_occ, tally_le, tally_ones}
use Rattle.lines.proofs.Members.{members_seated}
use Rattle.lines.proofs.Laws.{line_size}
use Rattle.lines.proofs.Bridge.{those_map, any_map, those_same, any_same, occurring, occ_slot, slots_append}
use Rattle.tables.specs.declared.Tables.{Tables}
use Rattle.tables.specs.Codes.{decode, last_code}
use Rattle.tables.specs.View.{row, waiter, occupant, away, highs, lows, readies, waiters, seats, view, live, Shape}
use Rattle.tables.proofs.Coding.{same_code, nucleus_code}
use Rattle.tables.proofs.Away.{seated_away, away_slots}

-- ---- 0 or 1
pub live_pos : (x : ℕ) → live x ≡ 1 → 0 < x
live_pos x e = go (ℕ_discrete x 0)
  where
    go : Dec (x ≡ 0) → 0 < x
    go (yes z) = let y : ◌≡◌ {A = ℕ} 0 1 = sym (rw z refl) ∙ e in absurd (omega arith)
    go (no n) = omega arith

pub pos_live : (x : ℕ) → 0 < x → live x ≡ 1
pos_live x h = rw (ne_eqb x 0 (λ e. let z : ⊥ = omega arith in z))

pub live_le : (x : ℕ) → live x ≤ 1
live_le x = go (eqb x 0)
  where
    go : (b : Bool) → (if b then 0 else 1) ≤ 1
    go true = omega arith
    go false = omega arith

-- ---- who runs
pub occupant_some : (r : ℕ) → r < base_slots → occupant r ≡ r ∷ []
occupant_some r h = rw (lt-ltb r base_slots h)

pub occupant_none : (r : ℕ) → base_slots ≤ r → occupant r ≡ []
occupant_none r h = rw (le-ltb r base_slots h)

occupant_slots : (r : ℕ) → InSlots base_slots (occupant r)
occupant_slots r = go (ltb r base_slots) refl
  where
    go : (b : Bool) → ltb r base_slots ≡ b → InSlots base_slots (if b then r ∷ [] else [])
    go true e zero h = ltb-true r base_slots e
    go true e (suc i) h = absurd (omega arith)
    go false e i h = absurd (omega arith)

pub occ_self : (s : ℕ) → occ s (s ∷ []) ≡ 1
unfolding occ
occ_self s = omega (arith, one_same s)

pub occ_nobody : (s : ℕ) → occ s [] ≡ 0
unfolding occ
occ_nobody s = refl

-- ---- the living, by slot
abbrev get_or_of : List ℕ → ℕ → ℕ
get_or_of l k = get_or l k 0

rows_of : (m : Tables) (l : List ℕ) → map (λ (w : Waiter). w.process) (map (waiter m) l) ≡ map (row m) l
rows_of m [] = refl
rows_of m (x ∷ l) = ap (λ (r : List Process). row m x ∷ r) (rows_of m l)

pub seats_living : (m : Tables) → Shape m → living (view m) ≡ map (row m) (seats m)
unfolding living
seats_living m g =
    ap₂ (λ (a b : List Process). map (row m) (occupant m.running) ++ (a ++ (map (row m) (highs m) ++ map (row m) (lows m) ++ b)))
    (seated_away (row m) m.runners m.processors (get_or_of m.lasts) (get_or_of m.idles) g.no_runner) (rows_of m (waiters m))
    ∙ ap (λ (l : List Process). map (row m) (occupant m.running) ++ (map (row m) (away m.runners) ++ (l ++ map (row m) (waiters m)))) (sym (map-append (row m) (highs m) (lows m)))
    ∙ ap (λ (l : List Process). map (row m) (occupant m.running) ++ (map (row m) (away m.runners) ++ l)) (sym (map-append (row m) (readies m) (waiters m)))
    ∙ ap (λ (l : List Process). map (row m) (occupant m.running) ++ l) (sym (map-append (row m) (away m.runners) (readies m ++ waiters m)))
    ∙ sym (map-append (row m) (occupant m.running) (away m.runners ++ (readies m ++ waiters m)))

-- how often a slot is seated: running here, elsewhere, ready, waiting
pub occ_seats : (m : Tables) (s : ℕ) → occ s (seats m) ≡ occ s (occupant m.running) + (occ s (away m.runners) + (occ s (readies m) + occ s (waiters m)))
occ_seats m s =
    occ_append s (occupant m.running) (away m.runners ++ (readies m ++ waiters m))
    ∙ ap (λ n. occ s (occupant m.running) + n) (occ_append s (away m.runners) (readies m ++ waiters m) ∙ ap (λ n. occ s (away m.runners) + n) (occ_append s (readies m) (waiters m)))

-- somebody alive
pub record Seat (m : Tables) (s : ℕ) : Type 0 where
  pub slot : s < base_slots
  pub alive : 0 < get_or m.ids s 0
  pub once : occ s (seats m) ≡ 1

-- somebody who waits
pub record Waits (m : Tables) (s : ℕ) : Type 0 where
  pub seat : Seat m s
  pub there : 1 ≤ get_or m.lines s 0
  pub known : get_or m.lines s 0 ≤ last_code

-- the slot stands in a nucleus line, a sub-device's or the pseudo-clock's
abbrev pub at_nucleus : Tables → ℕ → Bool
at_nucleus m = in_lines m.lines (base_sems + 1) last_code

module _ (m : Tables) (g : Shape m) where
  pub seats_slots : InSlots base_slots (seats m)
  seats_slots =
      slots_append base_slots (occupant m.running) (away m.runners ++ (readies m ++ waiters m)) (occupant_slots m.running)
      (slots_append base_slots (away m.runners) (readies m ++ waiters m) (away_slots m.runners g.in_seats)
      (slots_append base_slots (readies m) (waiters m) (slots_append base_slots (highs m) (lows m) g.high_line.slots g.low_line.slots) g.waits_line.slots))

  pub seat : (s : ℕ) → 1 ≤ occ s (seats m) → Seat m s
  seat s b =
      let k : s < base_slots = occ_slot base_slots (seats m) seats_slots s b in
      let h : live (get_or m.ids s 0) ≡ 1 = omega (arith, g.homes s k, live_le (get_or m.ids s 0)) in
      record { slot = k; alive = live_pos (get_or m.ids s 0) h; once = g.homes s k ∙ h }

  pub seated : All (Seat m) (seats m)
  seated = occurring (Seat m) (seats m) seat

  -- who is alive by its id is seated
  pub living_seat : (s : ℕ) → s < base_slots → 0 < get_or m.ids s 0 → Seat m s
  living_seat s k h = seat s (omega (arith, g.homes s k, pos_live (get_or m.ids s 0) h))

  pub away_seat : (s : ℕ) → 1 ≤ occ s (away m.runners) → Seat m s
  away_seat s b = seat s (omega (arith, occ_seats m s))

  pub ready_seat : (s : ℕ) → 1 ≤ occ s (readies m) → Seat m s
  ready_seat s b = seat s (omega (arith, occ_seats m s))

  pub waits_seat : (s : ℕ) → 1 ≤ occ s (waiters m) → Waits m s
  waits_seat s b =
      let p : Seat m s = seat s (omega (arith, occ_seats m s)) in
      record {
        seat = p;
        there = live_pos (get_or m.lines s 0) (omega (arith, g.coded s p.slot, p.once, occ_seats m s));
        known = g.codes s p.slot;
      }

  pub waiting : All (Waits m) (waiters m)
  waiting = occurring (Waits m) (waiters m) waits_seat

  pub runner_seat : m.running < base_slots → Seat m m.running
  runner_seat h = seat m.running (omega (arith, occ_seats m m.running, ap (occ m.running) (occupant_some m.running h), occ_self m.running))

  -- no more than there are slots
  pub few : length (seats m) ≤ base_slots
  few = omega (arith, length_occ base_slots (seats m) seats_slots, tally_le (λ s. occ s (seats m)) (λ s. 1) base_slots (λ s b. omega (arith, g.homes s b, live_le (get_or m.ids s 0))), tally_ones base_slots)

  pub sizes : length (seats m) ≡ length (occupant m.running) + (length (away m.runners) + (m.high.count + m.low.count + m.waits.count))
  sizes =
      length-append (occupant m.running) (away m.runners ++ (readies m ++ waiters m))
      ∙ ap (λ n. length (occupant m.running) + n) (
      length-append (away m.runners) (readies m ++ waiters m)
      ∙ ap (λ n. length (away m.runners) + n) (length-append (readies m) (waiters m) ∙ ap₂ (λ a b. a + b) (length-append (highs m) (lows m) ∙ ap₂ (λ a b. a + b) (line_size g.high_line) (line_size g.low_line)) (line_size g.waits_line))
      )

  -- who runs leaves room in all lines, and one who waits in the ready lines
  pub room_beside : m.running < base_slots → m.high.count + m.low.count + m.waits.count < base_slots
  room_beside h = omega (arith, few, sizes, ap length (occupant_some m.running h))

  pub room_both : m.high.count + m.low.count + m.waits.count ≤ base_slots
  room_both = omega (arith, few, sizes)

  -- the living of a customer, slot by slot
  pub members : (c : ℕ) → living_of c (view m) ≡ members_of base_slots m.ids m.customers c
  members c =
      ap (sum (λ (p : Process). count (eqb c p.customer))) (seats_living m g)
      ∙ sum_over (λ (p : Process). count (eqb c p.customer)) (row m) (seats m)
      ∙ members_seated m.ids m.customers c base_slots (seats m) seats_slots g.homes

  -- ---- the parts of the view
  pub runs_one : m.running < base_slots → (view m).running ≡ row m m.running ∷ []
  runs_one h = ap (map (row m)) (occupant_some m.running h)

  pub runs_none : base_slots ≤ m.running → (view m).running ≡ []
  runs_none h = ap (map (row m)) (occupant_none m.running h)

  pub at_line : (c : ℕ) → 1 ≤ c → c ≤ last_code → (s : ℕ) → Waits m s → at (decode c) (waiter m s) ≡ eqb (get_or m.lines s 0) c
  unfolding at
  at_line c lo hi s w = same_code c (get_or m.lines s 0) lo hi w.there w.known

  -- a line of the rule book is the rows of those whose slots pass for it
  pub line_of : (l : Line) (t : ℕ → Bool) → ((s : ℕ) → Waits m s → at l (waiter m s) ≡ t s) → line l (view m) ≡ map (row m) (those t (waiters m))
  unfolding line
  line_of l t is =
      ap (map (λ (w : Waiter). w.process)) (those_map (at l) (waiter m) (waiters m) ∙ ap (map (waiter m)) (those_same (Waits m) (λ s. at l (waiter m s)) t is (waiters m) waiting))
      ∙ rows_of m (those t (waiters m))

  pub nucleus_any : nucleus_waits (view m) ≡ any (at_nucleus m) (waiters m)
  unfolding nucleus_waits
  nucleus_any =
      any_map (λ (w : Waiter). nucleus w.line) (waiter m) (waiters m)
      ∙ any_same (Waits m) (λ s. nucleus (decode (get_or m.lines s 0))) (at_nucleus m) (λ s w. nucleus_code (get_or m.lines s 0) w.known) (waiters m) waiting
