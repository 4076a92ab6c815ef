-- Why everything kept and answered is in range where the words and bytes of the events are.
use Rattle.std.specs.Prelude.{if◌then◌else◌, Option, Some, None, IfSome}
use mathlib.Core.Path.{◌≡◌, refl, sym, subst}
use mathlib.Core.Bool.{Bool, true, false, ◌&&◌, ◌||◌}
use mathlib.Core.List.{List, [], ◌∷◌, map}
use Prim.Native.Nat.{ℕ, zero, suc, ◌+◌, ◌-◌, ◌*◌, ◌/◌, ◌%◌, ◌^◌, ◌≤◌, ◌<◌}
use native.Mathlib.Nat.{pow-suc, add-zero, zero-add, add-suc, suc-add}
use native.Mathlib.Omega.{arith}
use lib.Dec.{eqb, leb, ltb}
use lib.ListN.{length, replicate}
use lib.IntN.{ℤ, pos, negsuc}
use lib.Pow.{pow_pos}
use borrow.Author.Tests.{eqb-false, leb-true, leb-false, ltb-true, ltb-false, le-leb}
use Rattle.rules.specs.declared.Mode.{Mode}
use Rattle.rules.specs.declared.Mode.TheVariants.{User, Kernel}
use Rattle.rules.specs.declared.Event.{Event}
use Rattle.rules.specs.declared.Arrival.{Arrival}
use Rattle.rules.specs.declared.Event.TheVariants.{Call, Interrupt, Exception}
use Rattle.rules.specs.declared.Line.TheVariants.{Semaphore, Device}
use Rattle.rules.specs.declared.Cause.{Cause}
use Rattle.rules.specs.declared.Cause.TheVariants.{Tlb, General}
use Rattle.rules.specs.declared.Action.{Action}
use Rattle.rules.specs.declared.Refusal.{Refusal}
use Rattle.rules.specs.declared.Refusal.TheVariants.{Over, ClockBack, TimeFull, NobodyRuns, NoSuchLine, NoSuchCode, NoSuchProcessor}
use Rattle.rules.specs.declared.Answer.{Answer}
use Rattle.rules.specs.Words.{first, those, any, sum, count, many, All}
use Rattle.rules.specs.Numbers.{time_limit, sub_devices, refusal_number}
use Rattle.rules.proofs.Cases.{if_cases, first_cases, All-map, All-over, get_or_cases}
use Rattle.rules.proofs.Sums.{sum_over, sum_front}
use Rattle.rules.specs.Machine.{Process, Seat, Machine, living, next_line, line, family, rid_of, longer, child_of, newborn, gap, charge, blank, processors, here, turn, idle_from, fresh}
use Rattle.rules.proofs.Living.{living_sum, sum_killed, each_charged, all_running, fresh_living}
use Rattle.rules.specs.Answers.{Outcome, plain, mask, doing, giving, processors_of, left_idle}
use Rattle.rules.specs.Rules
use Rattle.rules.specs.Rules.{Service, step, arrive, answers, run, lowest_bit, sub_device, bad_line}
use Rattle.rules.proofs.Laws.{accepts, passed}
use Rattle.rules.proofs.Sound.{or_left, or_right, issued, seated, sound_charged, named_after}
use Rattle.rules.specs.Tables.{Sound, in_slot, Tables}
use Rattle.rules.proofs.Walk.{charge_single}
use Rattle.rules.proofs.Tables.{keeps, tables_turned, arrives, sound, short}
use Rattle.rules.proofs.Turns.{all_get, all_set, turn_cases, same_taken}
use Rattle.rules.proofs.Arrivals.{arrive_cases}
use Rattle.ledger.specs.History.{a2_of, a3_of}
use Rattle.ledger.specs.Ids.{NewbornTold}
use Rattle.ledger.specs.Moves.{Move, none, steps_back, joins, first_wakes, all_wake, is_born, ends, move, others, left, woken, ended, Moved}
use Rattle.ledger.specs.Ranges.{word, byte, long, WellFormed, Ranged, FitsResult, Fits}
use Rattle.ledger.proofs.Lines.{line_few}
use Rattle.ledger.proofs.Each.{moved_each}
use Rattle.ledger.proofs.Verdicts.{by_verdict}
use Rattle.ledger.proofs.Births.{answered}
use Rattle.ledger.proofs.Newborns.{newborn_told}
use Rattle.ledger.proofs.Moves.{moves_hold}
use Rattle.ledger.proofs.Masks.{ones_within}

-- ── Sub-devices ──

-- the lowest bit of a number that is not 0, among k bits
bit_within : (k b : ℕ) → 1 ≤ b → b < 2 ^ k → lowest_bit k b < k
bit_within zero b a h = absurd (omega arith)
bit_within (suc k) b a h = go (eqb (b % 2) 1) refl (bit_within k (b / 2))
  where
    go : (c : Bool) → eqb (b % 2) 1 ≡ c → (1 ≤ b / 2 → b / 2 < 2 ^ k → lowest_bit k (b / 2) < k) → (if c then 0 else suc (lowest_bit k (b / 2))) < suc k
    go true e ih = omega arith
    go false e ih = let z : b % 2 ≡ 1 → ⊥ = eqb-false (b % 2) 1 e in let p = pow-suc 2 k in omega (arith, ih (omega arith) (omega arith))

pub bit_most : (k b : ℕ) → lowest_bit k b ≤ k
bit_most zero b = omega arith
bit_most (suc k) b = go (eqb (b % 2) 1) (bit_most k (b / 2))
  where
    go : (c : Bool) → lowest_bit k (b / 2) ≤ k → (if c then 0 else suc (lowest_bit k (b / 2))) ≤ suc k
    go true ih = omega arith
    go false ih = omega arith

-- "transmission before receipt of that device": the lower of two numbers of at most 8, of which one is below
lower_within : (i j : ℕ) → j ≤ 8 → i ≤ 8 → (8 ≤ i → j < 8) → (if leb i j then 32 + i else 40 + j) < sub_devices
lower_within i j a b h = go (leb i j) refl (ltb i 8) refl
  where
    go : (c : Bool) → leb i j ≡ c → (d : Bool) → ltb i 8 ≡ d → (if c then 32 + i else 40 + j) < sub_devices
    go true e true f = let z = ltb-true i 8 f in omega arith
    go true e false f = let y = leb-true i j e in let q = ltb-false i 8 f in let z = h q in absurd (omega arith)
    go false e d f = let z = leb-false i j e in omega arith

one_within : (n i : ℕ) → 3 ≤ n → n < 7 → i < 8 → (n - 3) * 8 + i < sub_devices
one_within n i a b c = omega arith

-- a line that is not refused, 3 to 7, serves one of the 48 sub-devices
module _ (now n x y : ℕ) (ok : bad_line (Interrupt now n x y) ≡ false) (three : 3 ≤ n) (fx : x < byte) (fy : y < byte) where
  pub seven : n ≤ 7
  unfolding bad_line
  seven = ltb-false 7 n (or_right (ltb n 1) (ltb 7 n) (or_left (ltb n 1 || ltb 7 n) (leb 3 n && eqb x 0 && (ltb n 7 || eqb y 0)) ok))

  pub bytes : eqb x 0 && (ltb n 7 || eqb y 0) ≡ false
  unfolding bad_line
  bytes = rw (le-leb 3 n three) at (or_right (ltb n 1 || ltb 7 n) (leb 3 n && eqb x 0 && (ltb n 7 || eqb y 0)) ok)

  bit : (b : ℕ) → b < byte → (b ≡ 0 → ⊥) → lowest_bit 8 b < 8
  bit b h z = bit_within 8 b (omega arith) h

  -- the first byte is not 0, or the line is 7 and the second is not
  pub first_byte : (c : Bool) → eqb x 0 ≡ c → c && (ltb n 7 || eqb y 0) ≡ false → (8 ≤ lowest_bit 8 x → (7 ≤ n) × (lowest_bit 8 y < 8))
  first_byte true e k l = (ltb-false n 7 (or_left (ltb n 7) (eqb y 0) k), bit y fy (eqb-false y 0 (or_right (ltb n 7) (eqb y 0) k)))
  first_byte false e k l = let z = bit x fx (eqb-false x 0 e) in absurd (omega (arith, z, l))

  device_within : sub_device n x y < sub_devices
  unfolding sub_device
  device_within = go (eqb n 7) refl
    where
      go : (c : Bool) → eqb n 7 ≡ c → (if c then (if leb (lowest_bit 8 x) (lowest_bit 8 y) then 32 + lowest_bit 8 x else 40 + lowest_bit 8 y) else (n - 3) * 8 + lowest_bit 8 x) < sub_devices
      go true e = lower_within (lowest_bit 8 x) (lowest_bit 8 y) (bit_most 8 y) (bit_most 8 x) (λ l. (first_byte (eqb x 0) refl bytes l).1)
      go false e = let z : n ≡ 7 → ⊥ = eqb-false n 7 e in one_within n (lowest_bit 8 x) three (omega (arith, seven)) (small (ltb (lowest_bit 8 x) 8) refl (omega (arith, seven)))
        where
          small : (d : Bool) → ltb (lowest_bit 8 x) 8 ≡ d → n < 7 → lowest_bit 8 x < 8
          small true f l = ltb-true (lowest_bit 8 x) 8 f
          small false f l = let k = (first_byte (eqb x 0) refl bytes (ltb-false (lowest_bit 8 x) 8 f)).0 in absurd (omega (arith, k, l))

-- ── Results and sub-devices of answers ──

-- an answer so far
record Neat (x : Answer) : Type 0 where
  result : FitsResult x.result
  device : IfSome x.device (λ d. d < sub_devices)

neat : Neat plain
neat = record { result = tt; device = tt }

abbrev EndsNeat : Outcome → Type 0
EndsNeat o = Neat o.answer

schedule_neat : (x : Answer) (m : Machine) → Neat x → EndsNeat (Rules.schedule x m)
unfolding Rules.schedule Rules.nobody_ready
schedule_neat x m h =
    let same : (a : Action) → Neat (doing a x) = λ a. record { result = h.result; device = h.device } in
    first_cases EndsNeat (next_line m)
    (λ _. first_cases EndsNeat (living m) (λ _. same _) λ _ _ _. if_cases EndsNeat (Rules.worth_waiting m) (λ _. same _) (λ _. same _))
    (λ p ys _. same _)

carry_neat : (p : Process) (x : Answer) (m : Machine) → Neat x → EndsNeat (Rules.carry_on p x m)
unfolding Rules.carry_on
carry_neat p x m h = record { result = h.result; device = h.device }

resume_neat : (x : Answer) (m : Machine) → Neat x → EndsNeat (Rules.resume x m)
unfolding Rules.resume
resume_neat x m h = first_cases EndsNeat m.running (λ _. schedule_neat x m h) (λ p ys _. carry_neat p x m h)

-- the caller's numbers, and the next id
record Caller (p : Process) (m : Machine) : Type 0 where
  time : p.time < long
  handle : p.handle < long
  id : p.id < long
  parent : first p.ancestors 0 (λ n. n) < long
  next : m.next < long

abbrev SaysNeat : Service → Type 0
SaysNeat s = (p : Process) (a1 a2 a3 : ℕ) (m : Machine) → Caller p m → EndsNeat (s p a1 a2 a3 m)

or_die_neat : (c : Cause) (p : Process) (m : Machine) → EndsNeat (Rules.pass_up_or_die c p m)
unfolding Rules.pass_up_or_die Rules.die
or_die_neat c p m = if_cases EndsNeat (eqb p.handle 0) (λ _. schedule_neat _ _ (record { result = tt; device = tt })) (λ _. record { result = tt; device = tt })

trapped : SaysNeat Rules.trapped
unfolding Rules.trap
trapped p a1 a2 a3 m c = or_die_neat General p m

giving_neat : (n : ℕ) (x : Answer) → n < long → Neat x → Neat (giving (pos n) x)
giving_neat n x l h = record { result = l; device = h.device }

create : SaysNeat Rules.create
unfolding Rules.create
create p a1 a2 a3 m c =
    if_cases EndsNeat (Rules.denied (child_of p.customer a2) m) (λ _. carry_neat p _ m (record { result = omega arith; device = tt }))
    (λ _. carry_neat p _ _ (record { result = c.next; device = tt }))

terminate : SaysNeat Rules.terminate
unfolding Rules.terminate Rules.die
terminate p a1 a2 a3 m c =
    first_cases EndsNeat (those (Rules.valid p a1) (living m)) (λ _. carry_neat p _ m (record { result = omega arith; device = tt })) λ q ys _.
    if_cases EndsNeat (family q.id p) (λ _. schedule_neat _ _ (record { result = tt; device = tt })) (λ _. schedule_neat _ _ (record { result = omega arith; device = tt }))

passeren : SaysNeat Rules.passeren
unfolding Rules.passeren Rules.trap
passeren p a1 a2 a3 m c =
    if_cases EndsNeat (Rules.exists a1 m) (λ _. if_cases EndsNeat (eqb (Rules.value a1 m) 0) (λ _. schedule_neat plain _ neat) (λ _. carry_neat p plain _ neat)) (λ _. or_die_neat General p m)

verhogen : SaysNeat Rules.verhogen
unfolding Rules.verhogen Rules.trap
verhogen p a1 a2 a3 m c =
    if_cases EndsNeat (Rules.may_rise a1 m) (λ _. first_cases EndsNeat (line (Semaphore a1) m) (λ _. carry_neat p plain _ neat) (λ q ys _. carry_neat p _ _ (record { result = tt; device = tt }))) (λ _. or_die_neat General p m)

do_io : SaysNeat Rules.do_io
unfolding Rules.do_io Rules.trap
do_io p a1 a2 a3 m c = if_cases EndsNeat (ltb a1 sub_devices) (λ e. schedule_neat _ _ (record { result = tt; device = ltb-true a1 sub_devices e })) (λ _. or_die_neat General p m)

cpu_time : SaysNeat Rules.cpu_time
unfolding Rules.cpu_time
cpu_time p a1 a2 a3 m c = carry_neat p _ m (giving_neat p.time plain c.time neat)

wait_clock : SaysNeat Rules.wait_clock
unfolding Rules.wait_clock
wait_clock p a1 a2 a3 m c = schedule_neat plain _ neat

support : SaysNeat Rules.support
unfolding Rules.support
support p a1 a2 a3 m c = carry_neat p _ m (giving_neat p.handle plain c.handle neat)

identity : SaysNeat Rules.identity
unfolding Rules.identity
identity p a1 a2 a3 m c = carry_neat p _ m (giving_neat _ plain (if_cases (λ (n : ℕ). n < long) (eqb a1 0) (λ _. c.id) (λ _. c.parent)) neat)

yield : SaysNeat Rules.yield
unfolding Rules.yield
yield p a1 a2 a3 m c = schedule_neat plain _ neat

service : (mode : Mode) (a0 : ℤ) → SaysNeat (Rules.service mode a0)
unfolding Rules.service Rules.services
service User a0 = trapped
service Kernel (pos n) = trapped
service Kernel (negsuc n) =
    get_or_cases SaysNeat Rules.services (create, (terminate, (passeren, (verhogen, (do_io, (cpu_time, (wait_clock, (support, (identity, (yield, tt)))))))))) trapped n

interrupt : (now n x y : ℕ) (m : Machine) → bad_line (Interrupt now n x y) ≡ false → x < byte → y < byte → EndsNeat (Rules.interrupt n x y m)
unfolding Rules.interrupt Rules.tick Rules.device_done bad_line
interrupt now n x y m ok fx fy =
    if_cases EndsNeat (eqb n 1) (λ _. first_cases EndsNeat m.running (λ _. schedule_neat plain m neat) (λ _ _ _. schedule_neat plain _ neat)) λ not-one.
    if_cases EndsNeat (eqb n 2) (λ _. resume_neat _ _ (record { result = tt; device = tt })) λ not-two.
    let a : 1 ≤ n = ltb-false n 1 (or_left (ltb n 1) (ltb 7 n) (or_left (ltb n 1 || ltb 7 n) (leb 3 n && eqb x 0 && (ltb n 7 || eqb y 0)) ok)) in
    let b : n ≡ 1 → ⊥ = eqb-false n 1 not-one in
    let c : n ≡ 2 → ⊥ = eqb-false n 2 not-two in
    let d = device_within now n x y ok (omega arith) fx fy in
    first_cases EndsNeat (line (Device (sub_device n x y)) m) (λ _. resume_neat _ m (record { result = tt; device = d })) (λ q ys _. resume_neat _ _ (record { result = tt; device = d }))

-- ── Who calls ──

module _ (slots sems customers seats : ℕ) (m : Machine) (e : Event) (t : Tables slots sems customers seats m) (w : Ranged m) (ok : Rules.refusal m e ≡ None) where
  abbrev g : ℕ
  g = gap (Rules.clock e) m

  abbrev m₁ : Machine
  m₁ = charge (Rules.clock e) m

  not_full : m.total + gap (Rules.clock e) m ≤ time_limit
  unfolding Rules.rows
  not_full = ltb-false (time_limit) (m.total + gap (Rules.clock e) m) (passed m e ok).1.1.1.1.0

  parent_low : (n : ℕ) (ns : List ℕ) → All (λ a. a < n) ns → n < long → first ns 0 (λ n. n) < long
  parent_low n [] h l = omega arith
  parent_low n (a ∷ ns) h l = omega (arith, h.0)

  callers : All (λ p. Caller p m₁) m₁.running
  unfolding charge
  callers =
      All-over (λ p. Caller p m₁) (longer g) m.running
      (go m.running (all_running _ m (short slots sems customers seats m t)) (all_running _ m w.words) (all_running _ m (issued m (sound slots sems customers seats m t))) (all_running _ m t.older))
    where
      go : (ps : List Process) → All (λ p. p.time ≤ m.total) ps → All (λ p. (p.priority < word) × (p.handle < word)) ps → All (λ p. p.id < m.next) ps
          → All (λ p. (1 ≤ p.id) × All (λ a. a < p.id) p.ancestors) ps → All (λ p. Caller (longer g p) m₁) ps
      go [] a b c d = tt
      go (p ∷ ps) a b c d =
          let low : p.id < long = omega (arith, c.0, t.limits.2) in (
            record { time = omega (arith, a.0, not_full); handle = omega (arith, b.0.1); id = low; parent = parent_low p.id p.ancestors d.0.1 low; next = omega (arith, t.limits.2) },
            go ps a.1 b.1 c.1 d.1,
          )

performs_neat : (e : Event) (k : Machine) → WellFormed e → bad_line e ≡ false → All (λ p. Caller p k) k.running → EndsNeat (Rules.perform e k)
unfolding Rules.call Rules.exception Rules.trap Rules.tlb
performs_neat (Call now mode a0 a1 a2 a3) k f ok c =
    first_cases EndsNeat k.running (λ _. schedule_neat plain k neat) (λ p ys r. service mode a0 p a1 a2 a3 k (subst (All (λ p. Caller p k)) r c).0)
performs_neat (Interrupt now n x y) k f ok c = interrupt now n x y k ok f.2 f.3
performs_neat (Exception now code) k f ok c =
    first_cases EndsNeat k.running (λ _. schedule_neat plain k neat) (λ p ys r. if_cases EndsNeat (ltb code 24) (λ _. or_die_neat General p k) (λ _. or_die_neat Tlb p k))

-- ── Masks ──

-- a mask of slots that differ, all below w, is below 2 to the w
mask_within : (w : ℕ) (ps : List Process) → ((s : ℕ) → many (λ p. eqb s p.slot) ps ≤ count (ltb s w)) → mask ps < 2 ^ w
unfolding mask
mask_within w ps h = subst (λ (n : ℕ). n < 2 ^ w) (sum_over (λ (s : ℕ). 2 ^ s) (λ p. p.slot) ps) (ones_within w (map (λ p. p.slot) ps) (λ s. omega (arith, sum_over (λ (k : ℕ). count (eqb s k)) (λ p. p.slot) ps, h s)))

-- so is the mask of some of the living
mask_of : (slots : ℕ) (m : Machine) (ps : List Process) → Sound m → m.slots ≡ slots → ((f : Process → ℕ) → sum f ps ≤ sum f (living m)) → mask ps < 2 ^ slots
mask_of slots m ps g e h = mask_within slots ps (λ s. omega (arith, h (λ p. count (eqb s p.slot)), subst (λ (i : ℕ). in_slot s m ≤ count (ltb s i)) e (g.slots s)))

-- those who are woken, and those who end, are of the living
woken_sum : (f : Process → ℕ) (v : Move) (m : Machine) → sum f (woken v m) ≤ sum f (living m)
woken_sum f none m = omega arith
woken_sum f steps_back m = omega arith
woken_sum f (joins l) m = omega arith
woken_sum f (first_wakes l) m = omega (arith, sum_front f (line l m), line_few f l m, living_sum f m)
woken_sum f (all_wake l) m = omega (arith, line_few f l m, living_sum f m)
woken_sum f (is_born a2 a3) m = omega arith
woken_sum f (ends n) m = omega arith

ended_sum : (f : Process → ℕ) (v : Move) (m : Machine) → sum f (ended v m) ≤ sum f (living m)
ended_sum f none m = omega arith
ended_sum f steps_back m = omega arith
ended_sum f (joins l) m = omega arith
ended_sum f (first_wakes l) m = omega arith
ended_sum f (all_wake l) m = omega arith
ended_sum f (is_born a2 a3) m = omega arith
ended_sum f (ends n) m = omega (arith, sum_killed f n m)

-- 02, (xiii): a mask of processors has a bit for each
processors_within : (t : Process → Bool) (n : ℕ) (ss : List Seat) → processors_of t n ss + 2 ^ n ≤ 2 ^ (n + length ss)
processors_within t n [] = rw add-zero (omega arith)
processors_within t n (s ∷ ss) = rw (add-suc, ← suc-add) (go (any t s.running) (processors_within t (suc n) ss))
  where
    go : (b : Bool) → processors_of t (suc n) ss + 2 ^ suc n ≤ 2 ^ (suc n + length ss) → (if b then 2 ^ n else 0) + processors_of t (suc n) ss + 2 ^ n ≤ 2 ^ (suc n + length ss)
    go true ih = omega (arith, ih, pow-suc 2 n)
    go false ih = omega (arith, ih, pow-suc 2 n)

left_within : (v : Move) (m : Machine) → left v m < 2 ^ processors m
unfolding left_idle
left_within none m = pow_pos (processors m)
left_within steps_back m = pow_pos (processors m)
left_within (joins l) m = pow_pos (processors m)
left_within (first_wakes l) m = pow_pos (processors m)
left_within (all_wake l) m = pow_pos (processors m)
left_within (is_born a2 a3) m = pow_pos (processors m)
left_within (ends n) m = omega (arith, rw zero-add at (processors_within (family n) 0 m.elsewhere))

lasts_within : (v : Move) (m : Machine) → All (λ s. s.last < word) m.elsewhere → All (λ s. s.last < word) (others v m)
lasts_within none m h = h
lasts_within steps_back m h = h
lasts_within (joins l) m h = h
lasts_within (first_wakes l) m h = h
lasts_within (all_wake l) m h = h
lasts_within (is_born a2 a3) m h = h
lasts_within (ends n) m h = All-map (λ s. s.last < word) (rid_of n) (λ s k. k) m.elsewhere h

-- ── What the machine keeps ──

Words : Process → Type 0
Words p = (p.priority < word) × (p.handle < word)

-- a newborn's priority and handle are words of the event
newborn_words : (e : Event) (k : Machine) → WellFormed e → (ps : List Process) → All Words (map (λ p. newborn p (a2_of e) (a3_of e) k) ps)
unfolding Words
newborn_words e k f [] = tt
newborn_words (Call now mode a0 a1 a2 a3) k f (p ∷ ps) = ((f.2, f.3), newborn_words (Call now mode a0 a1 a2 a3) k f ps)
newborn_words (Interrupt now n x y) k f (p ∷ ps) = ((omega arith, omega arith), newborn_words (Interrupt now n x y) k f ps)
newborn_words (Exception now code) k f (p ∷ ps) = ((omega arith, omega arith), newborn_words (Exception now code) k f ps)

-- ── Every event ──

newborn_within : (slots : ℕ) (p : Option ℕ) (r : Option ℤ) (m : Machine) → m.slots ≡ slots → NewbornTold p r m → IfSome p (λ s. s < slots)
newborn_within slots None r m e h = tt
newborn_within slots (Some s) r m e h = subst (λ (i : ℕ). s < i) e h.there

clock_within : (e : Event) → WellFormed e → Rules.clock e < word
clock_within (Call now mode a0 a1 a2 a3) f = f.0
clock_within (Interrupt now n x y) f = f.0
clock_within (Exception now code) f = f.0

number_within : (r : Refusal) → refusal_number r < byte
number_within Over = omega arith
number_within ClockBack = omega arith
number_within TimeFull = omega arith
number_within NobodyRuns = omega arith
number_within NoSuchLine = omega arith
number_within NoSuchCode = omega arith
number_within NoSuchProcessor = omega arith

pub record InRange (slots seats : ℕ) (o : Outcome) : Type 0 where
  pub kept : Ranged o.after
  pub said : Fits slots seats o.answer

module _ (slots sems customers seats : ℕ) (m : Machine) (e : Event) (t : Tables slots sems customers seats m) (w : Ranged m) (f : WellFormed e) where
  accepted_range : Rules.refusal m e ≡ None → InRange slots seats (step m e)
  unfolding Rules.rows charge Words
  accepted_range ok =
      let now = Rules.clock e in
      let k = charge now m in
      let o = Rules.perform e k in
      let one = charge_single now m t.one_runs in
      let a = answered e k one in
      let n = performs_neat e k f (passed m e ok).1.0 (callers slots sems customers seats m e t w ok) in
      let v : Moved (move e m) k o = rw (accepts m e ok) at (moves_hold m e t.one_runs ok) in
      let t' : Tables slots sems customers seats o.after = rw (accepts m e ok) at (keeps slots sems customers seats m e t) in
      let g = sound_charged now m (sound slots sems customers seats m t) in
      rw (accepts m e ok) record {
        kept = record { last = subst (λ (i : ℕ). i < word) (sym a.1) (clock_within e f); lasts = subst (All (λ s. s.last < word)) (sym v.elsewhere) (lasts_within (move e m) k w.lasts); words = moved_each Words m e o v (each_charged Words (λ g p h. h) now m w.words) (newborn_words e k f k.running) };
        said = record {
          refusal = rw a.0 (omega arith);
          runner = subst (All (λ s. s < slots)) (named_after k e one).1 (All-over (λ s. s < slots) (λ p. p.slot) o.after.running (all_running (λ p. p.slot < slots) o.after (subst (λ (i : ℕ). All (λ p. p.slot < i) (living o.after)) t'.slots_there (seated o.after (sound slots sems customers seats o.after t')))));
          result = n.result;
          newborn = newborn_within slots o.answer.newborn o.answer.result m t.slots_there (rw (accepts m e ok) at (newborn_told m e (sound slots sems customers seats m t, t.one_runs, t.one_each)));
          device = n.device;
          woken = subst (λ (i : ℕ). i < 2 ^ slots) (sym v.woken_mask) (mask_of slots k (woken (move e m) k) g t.slots_there (λ f. woken_sum f (move e m) k));
          ended = subst (λ (i : ℕ). i < 2 ^ slots) (sym v.ended_mask) (mask_of slots k (ended (move e m) k) g t.slots_there (λ f. ended_sum f (move e m) k));
          idled = subst (λ (i : ℕ). i < 2 ^ seats) (sym v.idled_mask) (subst (λ (i : ℕ). left (move e m) k < 2 ^ i) t.processors_there (left_within (move e m) k));
        };
      }

  pub in_range : InRange slots seats (step m e)
  unfolding Rules.refused
  in_range = by_verdict (InRange slots seats) m e accepted_range (λ r _. record {
    kept = w;
    said = record { refusal = number_within r; runner = tt; result = tt; newborn = tt; device = tt; woken = pow_pos slots; ended = pow_pos slots; idled = pow_pos seats };
  })

-- a seat is taken
pub ranged_turned : (k : ℕ) (m : Machine) → Ranged m → Ranged (turn k m)
unfolding Words
ranged_turned k m w = turn_cases Ranged k m w (λ l. record {
  last = all_get (λ s. s.last < word) blank m.elsewhere k (omega arith) w.lasts;
  lasts = all_set (λ s. s.last < word) m.elsewhere k (here m) w.last w.lasts;
  words = (same_taken k m l).each Words w.words;
})

arrives_within : (slots sems customers seats : ℕ) (m : Machine) (x : Arrival) → Tables slots sems customers seats m → Ranged m → WellFormed x.event → InRange slots seats (arrive m x)
unfolding Rules.refused
arrives_within slots sems customers seats m x t w f =
    let k = x.processor in
    arrive_cases (InRange slots seats) m x
    (let i = in_range slots sems customers seats (turn k m) x.event (tables_turned slots sems customers seats k m t) (ranged_turned k m w) f in
    record { kept = ranged_turned k _ i.kept; said = i.said })
    (record { kept = w; said = record { refusal = omega arith; runner = tt; result = tt; newborn = tt; device = tt; woken = pow_pos slots; ended = pow_pos slots; idled = pow_pos seats } })

-- any events: the machine after them, and each answer
pub ranges_hold : (slots sems customers seats : ℕ) (xs : List Arrival) (m : Machine) → Tables slots sems customers seats m → Ranged m → All (λ x. WellFormed x.event) xs
    → Ranged (run m xs) × All (Fits slots seats) (answers m xs)
unfolding run answers
ranges_hold slots sems customers seats [] m t w f = (w, tt)
ranges_hold slots sems customers seats (x ∷ xs) m t w f =
    let i = arrives_within slots sems customers seats m x t w f.0 in
    let k = ranges_hold slots sems customers seats xs (arrive m x).after (arrives slots sems customers seats m x t) i.kept f.1 in
    (k.0, (i.said, k.1))

idle_lasts : (n now : ℕ) → now < word → All (λ s. s.last < word) (replicate n (idle_from now))
idle_lasts zero now h = tt
idle_lasts (suc n) now h = (h, idle_lasts n now h)

pub fresh_ranged : (slots others now : ℕ) (values ceilings : List ℕ) → now < word → Ranged (fresh slots others now values ceilings)
unfolding fresh
fresh_ranged slots others now values ceilings h = record {
  last = h;
  lasts = (omega arith, idle_lasts others now h);
  words = rw (fresh_living slots others now values ceilings) ((omega arith, omega arith), tt);
}
