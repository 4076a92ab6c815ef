-- A charge, over machines alone.
-- Assumes nothing.
use Rattle.std.proofs.Common.{◌≡◌, ℕ, ◌+◌, ◌*◌, ◌%◌, ◌^◌, ◌<◌, ◌≤◌, List, [], ◌∷◌, map, length, get_or, set, sym, ap, ◌∙◌, ap₂, arith, length-set, get_or-set_other, get_or-set_same, rules}
use native.Mathlib.Decide.{ℕ_discrete}
use Rattle.rules.specs.Words.{first}
use Rattle.rules.specs.Numbers.{base_slots, most_processors, time_limit}
use Rattle.rules.specs.Machine as book
use Rattle.rules.specs.Machine.{Process, Waiter, longer, gap, charge}
use Rattle.lines.specs.Lines.{occ, one, entry, tally}
use Rattle.lines.proofs.Occ.{occ_append, one_same, one_other, tally_add, tally_same, tally_le, tally_at}
use Rattle.lines.proofs.Bridge.{map_apart}
use Rattle.tables.specs.declared.Tables.{Tables}
use Rattle.tables.specs.View.{row, waiter, occupant, away, highs, lows, readies, waiters, view, Shape}
use Rattle.tables.specs.Promised.{Step}
use Rattle.tables.proofs.Away.{seats_alike}
use Rattle.tables.proofs.Seats.{Seat, occ_self, occ_seats, occupant_some, runner_seat, runs_one, runs_none}

-- ---- sums by slot
pub tally_longer : (ts : List ℕ) (r k n : ℕ) → r < length ts → r < n → tally (entry (set ts r (entry ts r + k))) n ≡ tally (entry ts) n + k
tally_longer ts r k n long h =
    tally_same (entry (set ts r (entry ts r + k))) (λ s. entry ts s + one r s * k) n (λ s b. go s (ℕ_discrete s r))
    ∙ tally_add (entry ts) (λ s. one r s * k) n
    ∙ ap (λ x. tally (entry ts) n + x) (tally_at (λ s. k) r n h)
  where
    go : (s : ℕ) → Dec (s ≡ r) → entry (set ts r (entry ts r + k)) s ≡ entry ts s + one r s * k
    go s (yes e) = rw (e, get_or-set_same ts r (entry ts r + k) 0 long, one_same r) (omega arith)
    go s (no n) = rw (get_or-set_other ts r s (entry ts r + k) 0 n, one_other r s (λ q. n (sym q))) (omega arith)

pub tally_has : (ts : List ℕ) (r n : ℕ) → r < n → entry ts r ≤ tally (entry ts) n
tally_has ts r n h = omega (arith, tally_at (entry ts) r n h, tally_le (λ s. one r s * entry ts s) (entry ts) n (λ s b. go s (ℕ_discrete s r)))
  where
    go : (s : ℕ) → Dec (s ≡ r) → one r s * entry ts s ≤ entry ts s
    go s (yes e) = rw (e, one_same r) (omega arith)
    go s (no k) = rw (one_other r s (λ q. k (sym q))) (omega arith)

-- one entry set: what it had comes off, what it has is added
pub tally_swap : (ts : List ℕ) (k v n : ℕ) → k < length ts → k < n → tally (entry (set ts k v)) n + entry ts k ≡ tally (entry ts) n + v
tally_swap ts k v n long h =
    ap (λ x. tally (entry (set ts k v)) n + x) (sym (tally_at (λ s. entry ts k) k n h))
    ∙ sym (tally_add (entry (set ts k v)) (λ s. one k s * entry ts k) n)
    ∙ tally_same (λ s. entry (set ts k v) s + one k s * entry ts k) (λ s. entry ts s + one k s * v) n (λ s b. go s (ℕ_discrete s k))
    ∙ tally_add (entry ts) (λ s. one k s * v) n
    ∙ ap (λ x. tally (entry ts) n + x) (tally_at (λ s. v) k n h)
  where
    go : (s : ℕ) → Dec (s ≡ k) → entry (set ts k v) s + one k s * entry ts k ≡ entry ts s + one k s * v
    go s (yes e) = rw (e, get_or-set_same ts k v 0 long, one_same k) (omega arith)
    go s (no n) = rw (get_or-set_other ts k s v 0 n, one_other k s (λ q. n (sym q))) (omega arith)

-- nobody's time is above all time
pub time_within : (m : Tables) → Shape m → (s : ℕ) → s < base_slots → entry m.times s ≤ m.total
time_within m g s h = omega (arith, g.spent, tally_has m.times s base_slots h)

-- ---- the gap, wrapping at 32 bits
pub gap_is : (m : Tables) (r now : ℕ) → r < 2 ^ 32 → now < 2 ^ 32 → m.last < 2 ^ 32 → (r + m.last) % 2 ^ 32 ≡ now → r ≡ gap now (view m)
unfolding gap
gap_is m r now a b c h = omega arith

abbrev pub charged : Tables → ℕ → List ℕ → ℕ → Tables
charged m now ts i = record { ids = m.ids; taken = m.taken; parents = m.parents; customers = m.customers; priorities = m.priorities; handles = m.handles; times = ts; lines = m.lines; high = m.high; low = m.low; four = m.four; waits = m.waits; running = m.running; sems = m.sems; ceilings = m.ceilings; next = m.next; status = m.status; last = now; total = m.total + gap now (view m); idle = i; ended = m.ended; runners = m.runners; lasts = m.lasts; idles = m.idles; processors = m.processors }

module _ (m : Tables) (g : Shape m) (now : ℕ) (fits : m.total + gap now (view m) ≤ time_limit) where
  abbrev k : ℕ
  k = gap now (view m)

  -- a machine of the rule book that is charged
  abbrev with_charge : List Process → List Process → List Process → List Waiter → ℕ → List book.Seat → book.Machine
  with_charge r h l w i ss = record { slots = base_slots; running = r; high = h; low = l; four = m.four; waiting = w; sems = m.sems; ceilings = m.ceilings; next = m.next; status = m.status; last = now; total = m.total + k; idle = i; ended = m.ended; elsewhere = ss }

  pub charge_idle : base_slots ≤ m.running → Step (charge now) m (charged m now m.times (m.idle + k))
  unfolding charge
  charge_idle h =
      let none : (view m).running ≡ [] = runs_none m g h in
      let sum : m.idle + k + tally (entry m.idles) most_processors + m.ended + tally (entry m.times) base_slots ≡ m.total + k = omega (arith, g.spent) in
      record {
        seen = ap₂ (λ r i. with_charge r (view m).high (view m).low (view m).waiting i (view m).elsewhere) (none ∙ sym (ap (map (longer k)) none)) (sym (ap (λ (l : List Process). m.idle + first l k (λ p. 0)) none));
        shape = search rules;
      }

  module _ (h : m.running < base_slots) where
    abbrev r : ℕ
    r = m.running

    abbrev ts : List ℕ
    ts = set m.times r (get_or m.times r 0 + k)

    abbrev c : Tables
    c = charged m now ts m.idle

    timed : ℕ → Process → Process
    timed v p = record { slot = p.slot; id = p.id; ancestors = p.ancestors; customer = p.customer; priority = p.priority; handle = p.handle; time = v }

    waits_timed : ℕ → Waiter → Waiter
    waits_timed v w = record { process = timed v w.process; line = w.line }

    p : Seat m r
    p = runner_seat m g h

    same : get_or ts r 0 ≡ get_or m.times r 0 + k
    same = get_or-set_same m.times r (get_or m.times r 0 + k) 0 (omega (arith, g.times_long))

    other : (x : ℕ) → (x ≡ r → ⊥) → get_or ts x 0 ≡ get_or m.times x 0
    other x n = get_or-set_other m.times r x (get_or m.times r 0 + k) 0 n

    not_there : (occ r (readies m) ≡ 0) × (occ r (waiters m) ≡ 0) × (occ r (away m.runners) ≡ 0)
    not_there =
        let o = occ_seats m r in
        let s : occ r (occupant r) ≡ 1 = ap (occ r) (occupant_some r h) ∙ occ_self r in
        (omega (arith, p.once, o, s), omega (arith, p.once, o, s), omega (arith, p.once, o, s))

    longer_row : map (row c) (occupant r) ≡ map (longer k) (view m).running
    unfolding timed
    longer_row =
        ap (map (row c)) (occupant_some r h)
        ∙ ap (λ v. timed v (row m r) ∷ []) same
        ∙ sym (ap (map (longer k)) (runs_one m g h))

    pub charge_busy : Step (charge now) m c
    unfolding charge timed waits_timed
    charge_busy =
        let untimed : (l : List ℕ) → occ r l ≡ 0 → map (row c) l ≡ map (row m) l = λ l n. map_apart r (row c) (row m) (λ x n. ap (λ v. timed v (row m x)) (other x n)) l n in
        let highs_stay : map (row c) (highs m) ≡ (view m).high = untimed (highs m) (omega (arith, occ_append r (highs m) (lows m), not_there.0)) in
        let lows_stay : map (row c) (lows m) ≡ (view m).low = untimed (lows m) (omega (arith, occ_append r (highs m) (lows m), not_there.0)) in
        let waits : map (waiter c) (waiters m) ≡ (view m).waiting = map_apart r (waiter c) (waiter m) (λ x n. ap (λ v. waits_timed v (waiter m x)) (other x n)) (waiters m) not_there.1 in
        let seats : (view c).elsewhere ≡ (view m).elsewhere =
        seats_alike (row c) (row m) m.runners (λ x o. ap (λ v. timed v (row m x)) (other x (λ q. let y : ⊥ = omega (arith, o, ap (λ v. occ v (away m.runners)) q, not_there.2) in y))) m.processors (λ k. get_or m.lasts k 0) (λ k. get_or m.idles k 0) in
        let long : length ts ≡ base_slots = simp length-set g.times_long in
        let free : (x : ℕ) → x < base_slots → get_or m.ids x 0 ≡ 0 → get_or ts x 0 ≡ 0 =
        λ x b z. other x (λ q. let y : ⊥ = omega (arith, p.alive, z, ap (λ v. get_or m.ids v 0) q) in y) ∙ g.no_time x b z in
        let sum : m.idle + tally (entry m.idles) most_processors + m.ended + tally (entry ts) base_slots ≡ m.total + k = omega (arith, g.spent, tally_longer m.times r k base_slots (omega (arith, g.times_long)) h) in
        let idle : m.idle ≡ m.idle + first (view m).running k (λ p. 0) = omega (arith, ap (λ (l : List Process). first l k (λ p. 0)) (runs_one m g h)) in
        record {
          seen = (λ i. with_charge (longer_row i) (highs_stay i) (lows_stay i) (waits i) (idle i) (seats i));
          shape = search rules;
        }
