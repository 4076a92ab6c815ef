-- A birth, over machines alone: what the code leaves is the rule book's birth, and the layout holds again.
-- Assumes nothing.
use Rattle.std.specs.Prelude.{Option, Some, None}
use Rattle.std.specs.Option.{unwrap_or}
use mathlib.Core.Path.{◌≡◌, refl, sym, ap, ap₂, ◌∙◌}
use mathlib.Core.List.{List, [], ◌∷◌, map}
use Prim.Native.Nat.{ℕ, zero, suc, ◌+◌, ◌^◌, ◌<◌, ◌≤◌}
use native.Mathlib.Omega.{arith}
use native.Mathlib.Decide.{ℕ_discrete}
use lib.ListN.{get_or, set, length-set}
use lib.Seq.{get_or-set_same, get_or-set_other}
use Rattle.rules.specs.Numbers.{base_slots}
use Rattle.rules.specs.Machine as book
use Rattle.rules.specs.Machine.{Process, Waiter, with_next, child_of, newborn, birth, lowest_free}
use Rattle.lines.specs.Lines.{occ, one, mask_of_taken}
use Rattle.lines.proofs.Occ.{one_same, one_other, occ_append}
use Rattle.lines.proofs.Zeros.{mask_set, mask_fits}
use Rattle.lines.proofs.Bridge.{occurring, map_same, each}
use Rattle.tables.specs.declared.Tables.{Tables}
use Rattle.tables.specs.Codes.{decode}
use Rattle.tables.specs.View.{row, waiter, occupant, highs, lows, waiters, seats, view, live, Shape}
use Rattle.kin.specs.Families.{above, climb, elders, Parent, Kin}
use Rattle.tables.specs.Promised.{lined_up, Step}
use Rattle.kin.proofs.Climbs.{elders_up}
use Rattle.tables.proofs.Away.{seats_alike}
use Rattle.tables.proofs.Lining.{high_lined, low_lined, occ_lined, lined_seen}
use Rattle.tables.proofs.Moves.{one_slot, occ_alone}
use Rattle.tables.proofs.Seats.{Seat, Waits, pos_live, occ_seats, seat, away_seat, ready_seat, waiting, runner_seat, room_beside}

-- the row of a child of whoever runs, in the slot s, by the bit that it takes: it is in no line yet
abbrev pub rowed : Tables → ℕ → ℕ → ℕ → ℕ → ℕ → Tables
rowed m s bit customer priority handle = record {
  ids = set m.ids s m.next;
  taken = m.taken + bit;
  parents = set m.parents s (Some m.running);
  customers = set m.customers s customer;
  priorities = set m.priorities s priority;
  handles = set m.handles s handle;
  times = m.times;
  lines = m.lines;
  high = m.high;
  low = m.low;
  four = m.four;
  waits = m.waits;
  running = m.running;
  sems = m.sems;
  ceilings = m.ceilings;
  next = m.next + 1;
  status = m.status;
  last = m.last;
  total = m.total;
  idle = m.idle;
  ended = m.ended;
  runners = m.runners;
  lasts = m.lasts;
  idles = m.idles;
  processors = m.processors;
}

-- at the end of its ready line
abbrev pub born : Tables → ℕ → ℕ → ℕ → ℕ → Tables
born m s customer priority handle = lined_up (s ∷ []) (rowed m s (2 ^ s) customer priority handle)

-- who climbs past a free slot does not see what is stored there
climb_past : (ps : List (Option ℕ)) (ids : List ℕ) → Kin ps ids → (f : ℕ) (u : Option ℕ) (v : ℕ) → get_or ids f 0 ≡ 0 → (n s : ℕ) → s < base_slots → (s ≡ f → ⊥) → climb (set ps f u) (set ids f v) n s ≡ climb ps ids n s
unfolding climb
climb_past ps ids k f u v z zero s b d = refl
climb_past ps ids k f u v z (suc n) s b d =
    ap (λ x. above x (λ p. get_or (set ids f v) p 0 ∷ climb (set ps f u) (set ids f v) n p)) (get_or-set_other ps f s u None d)
    ∙ go (get_or ps s None) refl (λ p c e. climb_past ps ids k f u v z n p c e)
  where
    go : (x : Option ℕ) → get_or ps s None ≡ x → ((p : ℕ) → p < base_slots → (p ≡ f → ⊥) → climb (set ps f u) (set ids f v) n p ≡ climb ps ids n p)
        → above x (λ p. get_or (set ids f v) p 0 ∷ climb (set ps f u) (set ids f v) n p) ≡ above x (λ p. get_or ids p 0 ∷ climb ps ids n p)
    go None e ih = refl
    go (Some p) e ih =
        let q = k s p b e in
        let d : p ≡ f → ⊥ = λ y. let y' : ⊥ = omega (arith, q.alive, z, ap (λ t. get_or ids t 0) y) in y' in
        ap₂ (λ x (xs : List ℕ). x ∷ xs) (get_or-set_other ids f p v 0 d) (ih p q.slot d)

module _ (m : Tables) (g : Shape m) (h : m.running < base_slots) (s customer priority handle : ℕ) (b : s < base_slots) (free : get_or m.ids s 0 ≡ 0) where
  abbrev r : Tables
  r = born m s customer priority handle

  run : Seat m m.running
  run = runner_seat m g h

  abbrev b₀ : Tables
  b₀ = rowed m s (2 ^ s) customer priority handle

  room : m.high.count + m.low.count + 1 ≤ base_slots
  room = omega (arith, room_beside m g h)

  pos : 0 < m.next
  pos = omega (arith, g.issued s b)

  -- the newborn's bit joins those taken
  bit_taken : mask_of_taken base_slots r.ids ≡ mask_of_taken base_slots m.ids + 2 ^ s
  bit_taken = mask_set base_slots m.ids s m.next b (omega (arith, g.ids_long)) free pos

  pub bit_fits : m.taken + 2 ^ s < 2 ^ base_slots
  bit_fits = omega (arith, g.taken_mask, bit_taken, mask_fits base_slots r.ids)

  id_of : get_or r.ids s 0 ≡ m.next
  id_of = get_or-set_same m.ids s m.next 0 (omega (arith, g.ids_long))

  id_other : (x : ℕ) → (x ≡ s → ⊥) → get_or r.ids x 0 ≡ get_or m.ids x 0
  id_other x n = get_or-set_other m.ids s x m.next 0 n

  parent_of : get_or r.parents s None ≡ Some m.running
  parent_of = get_or-set_same m.parents s (Some m.running) None (omega (arith, g.parents_long))

  -- nobody alive has the free slot
  apart : (x : ℕ) → Seat m x → x ≡ s → ⊥
  apart x p e = let y : ⊥ = omega (arith, p.alive, free, ap (λ t. get_or m.ids t 0) e) in y

  inside : {a b : ℕ} → Some a ≡ Some b → a ≡ b
  inside {a} e = ap (λ o. unwrap_or o a) e

  kin_born : Kin r.parents r.ids
  kin_born x p c e = go (ℕ_discrete x s)
    where
      go : Dec (x ≡ s) → Parent r.ids x p
      go (yes q) =
          let up : m.running ≡ p = inside (sym parent_of ∙ ap (λ t. get_or r.parents t None) (sym q) ∙ e) in
          let i : get_or r.ids p 0 ≡ get_or m.ids m.running 0 = ap (λ t. get_or r.ids t 0) (sym up) ∙ id_other m.running (apart m.running run) in
          record { slot = omega arith; alive = omega (arith, i, run.alive); older = omega (arith, i, ap (λ t. get_or r.ids t 0) q, id_of, g.issued m.running h) }
      go (no n) =
          let q = g.parent x p c (sym (get_or-set_other m.parents s x (Some m.running) None n) ∙ e) in
          let d : p ≡ s → ⊥ = λ y. let y' : ⊥ = omega (arith, q.alive, free, ap (λ t. get_or m.ids t 0) y) in y' in
          record { slot = q.slot; alive = omega (arith, q.alive, id_other p d); older = omega (arith, q.older, id_other p d, id_other x n) }

  old_elders : (x : ℕ) → x < base_slots → (x ≡ s → ⊥) → elders r.parents r.ids x ≡ elders m.parents m.ids x
  old_elders x c n =
      climb_past m.parents m.ids g.parent s (Some m.running) m.next free (get_or r.ids x 0) x c n
      ∙ ap (λ k. climb m.parents m.ids k x) (id_other x n)

  old_row : (x : ℕ) → Seat m x → row r x ≡ row m x
  old_row x p =
      let n = apart x p in
      rw (old_elders x p.slot n, id_other x n, get_or-set_other m.customers s x customer 0 n, get_or-set_other m.priorities s x priority 0 n, get_or-set_other m.handles s x handle 0 n)

  new_elders : elders r.parents r.ids s ≡ get_or m.ids m.running 0 ∷ elders m.parents m.ids m.running
  new_elders =
      let n = apart m.running run in
      elders_up r.parents r.ids kin_born s m.running b parent_of
      ∙ ap₂ (λ x (xs : List ℕ). x ∷ xs) (id_other m.running n) (old_elders m.running h n)

  new_row : lowest_free (view m) ≡ s → customer ≡ child_of (get_or m.customers m.running 0) priority → row r s ≡ newborn (row m m.running) priority handle (view m)
  new_row low theirs =
      rw (low, new_elders, id_of, get_or-set_same m.customers s customer 0 (omega (arith, g.customers_long)) ∙ theirs, get_or-set_same m.priorities s priority 0 (omega (arith, g.priorities_long)), get_or-set_same m.handles s handle 0 (omega (arith, g.handles_long)), g.no_time s b free)

  once_born : (x y : ℕ) → x < base_slots → y < base_slots → 0 < get_or r.ids x 0 → get_or r.ids x 0 ≡ get_or r.ids y 0 → x ≡ y
  once_born x y c d k e = go (ℕ_discrete x s) (ℕ_discrete y s)
    where
      go : Dec (x ≡ s) → Dec (y ≡ s) → x ≡ y
      go (yes p) (yes q) = p ∙ sym q
      go (yes p) (no q) = absurd (omega (arith, e, ap (λ t. get_or r.ids t 0) p, id_of, id_other y q, g.issued y d))
      go (no p) (yes q) = absurd (omega (arith, e, ap (λ t. get_or r.ids t 0) q, id_of, id_other x p, g.issued x c))
      go (no p) (no q) = g.once x y c d (omega (arith, k, id_other x p)) (sym (id_other x p) ∙ e ∙ id_other y q)

  seats_born : (x : ℕ) → occ x (seats r) ≡ occ x (seats m) + one s x
  seats_born x = omega (arith, occ_seats r x, occ_seats m x, occ_lined b₀ g.high_line g.low_line (s ∷ []) room x, occ_alone x s)

  -- a fact of a row whose id is zero is one of the old rows
  unborn : (Q : ℕ → Type 0) → ((x : ℕ) → x < base_slots → (x ≡ s → ⊥) → get_or m.ids x 0 ≡ 0 → Q x) → (x : ℕ) → x < base_slots → get_or r.ids x 0 ≡ 0 → Q x
  unborn Q old =
      each base_slots s (λ x. get_or r.ids x 0 ≡ 0 → Q x) (λ z. absurd (omega (arith, z, id_of, pos))) (λ x c n z. old x c n (sym (id_other x n) ∙ z))

  pub born_shape : Shape r
  born_shape = record {
    ids_long = simp length-set g.ids_long;
    taken_mask = omega (arith, g.taken_mask, bit_taken);
    parents_long = simp length-set g.parents_long;
    customers_long = simp length-set g.customers_long;
    priorities_long = simp length-set g.priorities_long;
    handles_long = simp length-set g.handles_long;
    times_long = g.times_long;
    lines_long = g.lines_long;
    sems_long = g.sems_long;
    ceilings_long = g.ceilings_long;
    high_line = high_lined b₀ g.high_line g.low_line (s ∷ []) room (one_slot s b);
    low_line = low_lined b₀ g.high_line g.low_line (s ∷ []) room (one_slot s b);
    waits_line = g.waits_line;
    runner = g.runner;
    homes = each base_slots s (λ x. occ x (seats r) ≡ live (get_or r.ids x 0))
        (omega (arith, seats_born s, g.homes s b, ap live free, one_same s, ap live id_of, pos_live m.next pos))
        (λ x c n. omega (arith, seats_born x, g.homes x c, ap live (id_other x n), one_other s x (λ q. n (sym q))));
    coded = g.coded;
    codes = g.codes;
    once = once_born;
    issued = each base_slots s (λ x. get_or r.ids x 0 < m.next + 1) (omega (arith, id_of)) (λ x c n. omega (arith, id_other x n, g.issued x c));
    parent = kin_born;
    no_customer = unborn (λ x. get_or r.customers x 0 ≡ 0) (λ x c n z. get_or-set_other m.customers s x customer 0 n ∙ g.no_customer x c z);
    no_priority = unborn (λ x. get_or r.priorities x 0 ≡ 0) (λ x c n z. get_or-set_other m.priorities s x priority 0 n ∙ g.no_priority x c z);
    no_handle = unborn (λ x. get_or r.handles x 0 ≡ 0) (λ x c n z. get_or-set_other m.handles s x handle 0 n ∙ g.no_handle x c z);
    no_time = unborn (λ x. get_or r.times x 0 ≡ 0) (λ x c n z. g.no_time x c z);
    runners_long = g.runners_long;
    lasts_long = g.lasts_long;
    idles_long = g.idles_long;
    some_processor = g.some_processor;
    few_processors = g.few_processors;
    in_seats = g.in_seats;
    no_runner = g.no_runner;
    no_last = g.no_last;
    no_idle = g.no_idle;
    spent = g.spent;
    within = g.within;
  }

  abbrev with_birth : List Process → List Process → List Process → List Waiter → ℕ → List book.Seat → book.Machine
  with_birth run h l w k ss = record { slots = base_slots; ceilings = m.ceilings; running = run; high = h; low = l; four = m.four; waiting = w; sems = m.sems; next = k; status = m.status; last = m.last; total = m.total; idle = m.idle; ended = m.ended; elsewhere = ss }

  -- the rows of the others are as they were
  same_rows : (l : List ℕ) → ((x : ℕ) → 1 ≤ occ x l → Seat m x) → map (row r) l ≡ map (row m) l
  same_rows l seats = map_same (Seat m) (row r) (row m) old_row l (occurring (Seat m) l seats)

  row_written : view b₀ ≡ with_next (suc m.next) (view m)
  row_written =
      let runs : (view r).running ≡ (view m).running = same_rows (occupant m.running) (λ x o. seat m g x (omega (arith, occ_seats m x))) in
      let highs_stay : map (row r) (highs m) ≡ (view m).high = same_rows (highs m) (λ x o. ready_seat m g x (omega (arith, occ_append x (highs m) (lows m)))) in
      let lows_stay : map (row r) (lows m) ≡ (view m).low = same_rows (lows m) (λ x o. ready_seat m g x (omega (arith, occ_append x (highs m) (lows m)))) in
      let waits : (view r).waiting ≡ (view m).waiting = map_same (Waits m) (waiter r) (waiter m) (λ x w. ap (λ p. at_line (get_or m.lines x 0) p) (old_row x w.seat)) (waiters m) (waiting m g) in
      let there : (view r).elsewhere ≡ (view m).elsewhere = seats_alike (row r) (row m) m.runners (λ x o. old_row x (away_seat m g x o)) m.processors (λ k. get_or m.lasts k 0) (λ k. get_or m.idles k 0) in
      let next : m.next + 1 ≡ suc m.next = omega arith in
      λ i. with_birth (runs i) (highs_stay i) (lows_stay i) (waits i) (next i) (there i)
    where
      at_line : ℕ → Process → Waiter
      at_line c p = record { process = p; line = decode c }

  pub birth_step : lowest_free (view m) ≡ s → customer ≡ child_of (get_or m.customers m.running 0) priority → Step (birth (row m m.running) priority handle) m r
  unfolding birth
  birth_step low theirs = record {
    seen =
        lined_seen b₀ g.high_line g.low_line (s ∷ []) room
        ∙ ap₂ (λ (p : Process) (k : book.Machine). book.joined (p ∷ []) k) (new_row low theirs) row_written;
    shape = born_shape;
  }
