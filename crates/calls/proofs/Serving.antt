-- P, V, I/O, a tick and a device's interrupt, over machines alone.
-- Assumes nothing.
use Rattle.std.specs.Prelude.{if◌then◌else◌}
use mathlib.Core.Path.{◌≡◌, refl, sym, ap, ap₂, ◌∙◌}
use mathlib.Core.Bool.{Bool, true, false}
use mathlib.Core.List.{List, [], ◌∷◌, map, append-nil}
use Prim.Native.Nat.{ℕ, ◌+◌, ◌-◌, ◌<◌, ◌≤◌}
use native.Mathlib.Omega.{arith}
use borrow.Author.Rules.{rules}
use lib.Pow.{pow_pos}
use lib.ListN.{length, get_or, set, length-set}
use borrow.Author.Tests.{lt-ltb, le-ltb, eq-eqb, ne_eqb}
use Rattle.rules.specs.declared.Line.{Line}
use Rattle.rules.specs.declared.Line.TheVariants.{Semaphore, Device}
use Rattle.rules.specs.declared.Cause.TheVariants.{General}
use Rattle.rules.specs.Words.{first, those, front, without}
use Rattle.rules.specs.Numbers.{base_sems, sub_devices, top}
use Rattle.rules.specs.Machine as book
use Rattle.rules.specs.Machine.{Process, Waiter, with_places, with_ready, joined, with_sem, at, line, block, wake}
use Rattle.rules.specs.Answers.{plain, naming, waking, mask}
use Rattle.rules.specs.Rules.{pass_up_or_die, trap, schedule, carry_on, resume, passeren, verhogen, do_io, tick, device_done, exists, value, may_rise}
use Rattle.tables.specs.declared.Tables.{Tables}
use Rattle.tables.specs.declared.Woken.{Woken}
use Rattle.tables.specs.declared.Settled.{Settled}
use Rattle.tables.specs.Codes.{decode}
use Rattle.answers.specs.Parts.{woken_told, device_told}
use Rattle.tables.specs.View.{row, view, Shape}
use Rattle.tables.specs.Promised.{Comes, Wakes, Ticks}
use Rattle.tables.proofs.Coding.{decode_semaphore, decode_device}
use Rattle.tables.proofs.Choosing.{comes_by}

-- ---- of the rule book alone: nobody in a line
without_none : (t : Waiter → Bool) (ws : List Waiter) → map (λ (w : Waiter). w.process) (those t ws) ≡ [] → without t ws ≡ ws
without_none t [] e = refl
without_none t (w ∷ ws) e = go (t w) e (without_none t ws)
  where
    go : (b : Bool) → map (λ (w : Waiter). w.process) (if b then w ∷ those t ws else those t ws) ≡ [] → (map (λ (w : Waiter). w.process) (those t ws) ≡ [] → without t ws ≡ ws) → (if b then ws else w ∷ without t ws) ≡ w ∷ ws
    go true e ih = let z : ◌≡◌ {A = ℕ} 0 1 = cc in absurd (omega arith)
    go false e ih = ap (λ (l : List Waiter). w ∷ l) (ih e)

pub wake_nobody : (l : Line) (m : book.Machine) → line l m ≡ [] → wake l m ≡ m
unfolding wake line
wake_nobody l m e =
    ap₂ (λ (ps : List Process) (w : List Waiter). joined (front ps) (with_places m.running w m)) e (without_none (at l) m.waiting e)
    ∙ ap₂ (λ (h q : List Process). with_ready h q m.four m) (append-nil m.high) (append-nil m.low)

-- a device's interrupt, with or without somebody in the line
pub device_done_is : (d : ℕ) (m : book.Machine) → device_done d m ≡ resume (device_told d (mask (front (line (Device d) m)))) (wake (Device d) m)
unfolding device_done mask
device_done_is d m = go (line (Device d) m) refl
  where
    go : (k : List Process) → line (Device d) m ≡ k
        → first k (resume (naming d plain) m) (λ q. resume (naming d (waking (q ∷ []) plain)) (wake (Device d) m)) ≡ resume (device_told d (mask (front k))) (wake (Device d) m)
    go [] e = ap (resume (naming d plain)) (sym (wake_nobody (Device d) m e))
    go (q ∷ k) e = refl

-- V, by the mask of who is first
module _ (p : Process) (i : ℕ) (m : book.Machine) (ok : may_rise i m ≡ true) where
  pub v_nobody : mask (front (line (Semaphore i) m)) ≡ 0 → (verhogen p i 0 0 m ≡ carry_on p plain (with_sem i (value i m + 1) m)) × (wake (Semaphore i) m ≡ m)
  unfolding verhogen mask
  v_nobody e = rw ok (go (line (Semaphore i) m) refl e)
    where
      go : (k : List Process) → line (Semaphore i) m ≡ k → mask (front k) ≡ 0
          → (first k (carry_on p plain (with_sem i (value i m + 1) m)) (λ q. carry_on p (waking (q ∷ []) plain) (wake (Semaphore i) m)) ≡ carry_on p plain (with_sem i (value i m + 1) m))
          × (wake (Semaphore i) m ≡ m)
      go [] h e = (refl, wake_nobody (Semaphore i) m h)
      go (q ∷ k) h e = absurd (omega (arith, e, pow_pos q.slot))

  pub v_someone : (mask (front (line (Semaphore i) m)) ≡ 0 → ⊥) → verhogen p i 0 0 m ≡ carry_on p (woken_told (mask (front (line (Semaphore i) m)))) (wake (Semaphore i) m)
  unfolding verhogen mask
  v_someone e = rw ok (go (line (Semaphore i) m) e)
    where
      go : (k : List Process) → (mask (front k) ≡ 0 → ⊥)
          → first k (carry_on p plain (with_sem i (value i m + 1) m)) (λ q. carry_on p (waking (q ∷ []) plain) (wake (Semaphore i) m)) ≡ carry_on p (woken_told (mask (front k))) (wake (Semaphore i) m)
      go [] e = absurd (e refl)
      go (q ∷ k) e = refl

-- ---- interrupts
pub tick_comes : (m : Tables) (w : Woken) (r : Settled) → Ticks m w → Comes (resume (woken_told w.woken) (view w.tables)) r → Comes (tick (view m)) r
unfolding tick
tick_comes m w r t h = comes_by (tick (view m)) _ r (λ i. resume (woken_told (sym t.told i)) (sym t.seen i)) h

pub device_comes : (d : ℕ) → d < sub_devices → (m : Tables) (w : Woken) (r : Settled) → Wakes (decode (d + (base_sems + 1))) m w → Comes (resume (device_told d w.woken) (view w.tables)) r → Comes (device_done d (view m)) r
device_comes d b m w r t h =
    let e = decode_device d b in
    let told : w.woken ≡ mask (front (line (Device d) (view m))) = t.told ∙ ap (λ l. mask (front (line l (view m)))) e in
    let seen : view w.tables ≡ wake (Device d) (view m) = t.seen ∙ ap (λ l. wake l (view m)) e in
    comes_by (device_done d (view m)) _ r (device_done_is d (view m) ∙ (λ i. resume (device_told d (sym told i)) (sym seen i))) h

-- ---- P
abbrev pub put_sem : ℕ → ℕ → Tables → Tables
put_sem i v m = record { ids = m.ids; taken = m.taken; parents = m.parents; customers = m.customers; priorities = m.priorities; handles = m.handles; times = m.times; lines = m.lines; high = m.high; low = m.low; four = m.four; waits = m.waits; running = m.running; sems = set m.sems i v; ceilings = m.ceilings; next = m.next; status = m.status; last = m.last; total = m.total; idle = m.idle; ended = m.ended; runners = m.runners; lasts = m.lasts; idles = m.idles; processors = m.processors }

pub sem_shape : (i v : ℕ) (m : Tables) → Shape m → Shape (put_sem i v m)
sem_shape i v m g = let long : length (set m.sems i v) ≡ base_sems = simp length-set g.sems_long in search rules

module _ (m : Tables) (g : Shape m) (i : ℕ) where
  abbrev p : Process
  p = row m m.running

  there : i < base_sems → exists i (view m) ≡ true
  there b = rw g.sems_long (lt-ltb i base_sems b)

  missing : base_sems ≤ i → exists i (view m) ≡ false
  missing b = rw g.sems_long (le-ltb i base_sems b)

  pub p_traps : (r : Settled) → base_sems ≤ i → Comes (pass_up_or_die General p (view m)) r → Comes (passeren p i 0 0 (view m)) r
  unfolding passeren trap
  p_traps r b h = comes_by (passeren p i 0 0 (view m)) _ r (rw (missing b)) h

  pub p_blocks : (r : Settled) → i < base_sems → get_or m.sems i 0 ≡ 0 → Comes (schedule plain (block (decode (i + 1)) (view m))) r → Comes (passeren p i 0 0 (view m)) r
  unfolding passeren
  p_blocks r b z h = comes_by (passeren p i 0 0 (view m)) _ r (rw (there b, eq-eqb (get_or m.sems i 0) 0 z, decode_semaphore i b)) h

  pub p_falls : (r : Settled) → i < base_sems → (get_or m.sems i 0 ≡ 0 → ⊥) → let v = get_or m.sems i 0 - 1 in Comes (carry_on p plain (view (put_sem i v m))) r → Comes (passeren p i 0 0 (view m)) r
  unfolding passeren
  p_falls r b z h = comes_by (passeren p i 0 0 (view m)) _ r (rw (there b, ne_eqb (get_or m.sems i 0) 0 z)) h

  -- ---- V
  pub v_traps : (r : Settled) → base_sems ≤ i → Comes (pass_up_or_die General p (view m)) r → Comes (verhogen p i 0 0 (view m)) r
  unfolding verhogen trap
  v_traps r b h = comes_by (verhogen p i 0 0 (view m)) _ r (rw (missing b)) h

  pub v_tops : (r : Settled) → i < base_sems → top ≤ get_or m.sems i 0 → Comes (pass_up_or_die General p (view m)) r → Comes (verhogen p i 0 0 (view m)) r
  unfolding verhogen trap
  v_tops r b t h = comes_by (verhogen p i 0 0 (view m)) _ r (rw (there b, le-ltb (get_or m.sems i 0) top t)) h

  module _ (b : i < base_sems) (low : get_or m.sems i 0 < top) (w : Woken) (t : Wakes (decode (i + 1)) m w) where
    rise : may_rise i (view m) ≡ true
    rise = rw (there b, lt-ltb (get_or m.sems i 0) top low)

    told : w.woken ≡ mask (front (line (Semaphore i) (view m)))
    told = t.told ∙ ap (λ l. mask (front (line l (view m)))) (decode_semaphore i b)

    seen : view w.tables ≡ wake (Semaphore i) (view m)
    seen = t.seen ∙ ap (λ l. wake l (view m)) (decode_semaphore i b)

    pub v_wakes : (r : Settled) → (w.woken ≡ 0 → ⊥) → Comes (carry_on (row w.tables w.tables.running) (woken_told w.woken) (view w.tables)) r → Comes (verhogen p i 0 0 (view m)) r
    unfolding carry_on
    v_wakes r n h = comes_by (verhogen p i 0 0 (view m)) _ r
        (v_someone p i (view m) rise (λ e. n (told ∙ e)) ∙ (λ k. carry_on (row m (sym t.still k)) (woken_told (sym told k)) (sym seen k))) h

    pub v_rises : (r : Settled) → w.woken ≡ 0 → let v = get_or m.sems i 0 + 1 in Comes (carry_on (row w.tables w.tables.running) (woken_told w.woken) (view (put_sem i v w.tables))) r → Comes (verhogen p i 0 0 (view m)) r
    unfolding carry_on
    v_rises r z h =
        let n = v_nobody p i (view m) rise (sym told ∙ z) in
        let same : view w.tables ≡ view m = seen ∙ n.1 in
        comes_by (verhogen p i 0 0 (view m)) _ r
        (n.0 ∙ (λ k. carry_on (row m (sym t.still k)) (woken_told (sym z k)) (with_sem i (get_or m.sems i 0 + 1) (sym same k)))) h

  -- ---- I/O
  pub io_traps : (r : Settled) → sub_devices ≤ i → Comes (pass_up_or_die General p (view m)) r → Comes (do_io p i 0 0 (view m)) r
  unfolding do_io trap
  io_traps r b h = comes_by (do_io p i 0 0 (view m)) _ r (rw (le-ltb i sub_devices b)) h

  pub io_waits : (r : Settled) → i < sub_devices → Comes (schedule (device_told i 0) (block (decode (i + (base_sems + 1))) (view m))) r → Comes (do_io p i 0 0 (view m)) r
  unfolding do_io
  io_waits r b h = comes_by (do_io p i 0 0 (view m)) _ r (rw (lt-ltb i sub_devices b, decode_device i b)) h
