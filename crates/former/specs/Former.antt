-- THE RULES OF ONE PROCESSOR: the rule book as it stood before 02, (xiii), its machine and every rule that speaks of a
-- machine, word for word (of crates/rules/specs as of the landing before that request; only the order of the parts and
-- the `use` lines differ, `ending` leaves the new mask of an answer as it is, and refusals go by today's names), with
-- alarms first, (vi), in it.
-- It is here for one purpose: proofs/Same shows that one processor gets the answers of these rules, whatever the start
-- and the events. Nothing else reads it. What speaks of no machine (words, waiting lines, the choosing between two
-- lines, families, the parts of an answer, the refusals that look at the event alone) is the rule book's own.
use Rattle.std.specs.Prelude.{Bool, true, false, not, ◌&&◌, ◌||◌, List, [], ◌∷◌, ◌++◌, map, Option, Some, None, ℕ, suc, ◌+◌, ◌-◌, ◌%◌, ◌^◌, eqb, leb, ltb, ℤ, pos, negsuc, length, get_or, set, replicate, if◌then◌else◌}
use Rattle.rules.specs.declared.Mode.{Mode}
use Rattle.rules.specs.declared.Mode.TheVariants.{User, Kernel}
use Rattle.rules.specs.declared.Event.{Event}
use Rattle.rules.specs.declared.Event.TheVariants.{Call, Interrupt, Exception}
use Rattle.rules.specs.declared.Line.{Line}
use Rattle.rules.specs.declared.Line.TheVariants.{Semaphore, Device, PseudoClock}
use Rattle.rules.specs.declared.Cause.{Cause}
use Rattle.rules.specs.declared.Cause.TheVariants.{Tlb, General}
use Rattle.rules.specs.declared.Action.{Action}
use Rattle.rules.specs.declared.Action.TheVariants.{CarryOn, Run, Wait, Halt, Panic, PassUp}
use Rattle.rules.specs.declared.Refusal.{Refusal}
use Rattle.rules.specs.declared.Refusal.TheVariants.{Over, ClockBack, TimeFull, NobodyRuns, NoSuchLine, NoSuchCode}
use Rattle.rules.specs.declared.StartRefusal.{StartRefusal}
use Rattle.rules.specs.declared.StartRefusal.TheVariants.{ValueTooLarge, CeilingsNotAllowed}
use Rattle.rules.specs.declared.Answer.{Answer}
use Rattle.rules.specs.Words.{first, maybe, those, front, rest, without, any, sum, many}
use Rattle.rules.specs.Numbers.{top, sub_devices, gap_limit, time_limit}
use Rattle.rules.specs.Starts.{too_large, not_allowed}
use Rattle.rules.specs.declared.Status.{Status}
use Rattle.rules.specs.declared.Status.TheVariants.{On, Halted, Panicked}
use Rattle.rules.specs.Machine.{Process, Waiter, longer, nucleus, is_high, low_turn, next_of, counted, at, family, lowest, child_of}
use Rattle.rules.specs.Answers.{plain, refusing, doing, giving, bearing, naming, mask, waking}
use Rattle.rules.specs.Rules.{sub_device, clock, not_on, bad_line, bad_code, needs_runner, valid, least_ceilings}

-- the machine: how many slots there are; how many each customer may have alive; who runs (nobody, or one); the two
-- ready lines of 02, (vi), and its count of four; all who wait, in the order in which they came;
-- the semaphores' values; the next id; the last clock reading, the sum of the accepted gaps, idle time and ended time
pub record Machine : Type 0 where
  pub slots : ℕ
  pub ceilings : List ℕ
  pub running : List Process
  pub high : List Process
  pub low : List Process
  pub four : ℕ
  pub waiting : List Waiter
  pub sems : List ℕ
  pub next : ℕ
  pub status : Status
  pub last : ℕ
  pub total : ℕ
  pub idle : ℕ
  pub ended : ℕ

-- everyone alive: each is in one place, running, in one ready line, or in one waiting line
unfoldable pub living : Machine → List Process
living m = m.running ++ ((m.high ++ m.low) ++ map (λ w. w.process) m.waiting)

-- 02, (ii): the living of a customer, the running, the ready and the waiting ones all counted; how many it may have
-- alive
abbrev pub living_of : ℕ → Machine → ℕ
living_of c m = many (λ p. eqb c p.customer) (living m)

abbrev pub ceiling : ℕ → Machine → ℕ
ceiling c m = get_or m.ceilings c 0

-- the same, but for one part
abbrev pub with_places : List Process → List Waiter → Machine → Machine
with_places r w m = record { slots = m.slots; ceilings = m.ceilings; running = r; high = m.high; low = m.low; four = m.four; waiting = w; sems = m.sems; next = m.next; status = m.status; last = m.last; total = m.total; idle = m.idle; ended = m.ended }

abbrev pub with_ready : List Process → List Process → ℕ → Machine → Machine
with_ready h l n m = record { slots = m.slots; ceilings = m.ceilings; running = m.running; high = h; low = l; four = n; waiting = m.waiting; sems = m.sems; next = m.next; status = m.status; last = m.last; total = m.total; idle = m.idle; ended = m.ended }

abbrev pub with_sem : ℕ → ℕ → Machine → Machine
with_sem i v m = record { slots = m.slots; ceilings = m.ceilings; running = m.running; high = m.high; low = m.low; four = m.four; waiting = m.waiting; sems = set m.sems i v; next = m.next; status = m.status; last = m.last; total = m.total; idle = m.idle; ended = m.ended }

abbrev pub with_status : Status → Machine → Machine
with_status s m = record { slots = m.slots; ceilings = m.ceilings; running = m.running; high = m.high; low = m.low; four = m.four; waiting = m.waiting; sems = m.sems; next = m.next; status = s; last = m.last; total = m.total; idle = m.idle; ended = m.ended }

abbrev pub with_next : ℕ → Machine → Machine
with_next n m = record { slots = m.slots; ceilings = m.ceilings; running = m.running; high = m.high; low = m.low; four = m.four; waiting = m.waiting; sems = m.sems; next = n; status = m.status; last = m.last; total = m.total; idle = m.idle; ended = m.ended }

-- who waits in a line, first come first
unfoldable pub line : Line → Machine → List Process
line l m = map (λ w. w.process) (those (at l) m.waiting)

-- "someone waiting on a nucleus line"
unfoldable pub nucleus_waits : Machine → Bool
nucleus_waits m = any (λ w. nucleus w.line) m.waiting

-- 02, (vi): 'in 01 "the ready line" becomes the line of the process's own priority': these join it, each at the end of
-- its own, in their order
abbrev pub joined : List Process → Machine → Machine
joined ps m = with_ready (m.high ++ those is_high ps) (m.low ++ those (λ p. not (is_high p)) ps) m.four m

-- (vi), "choosing the next": whether it is a low one; the line whose first is chosen
abbrev pub takes_low : Machine → Bool
takes_low m = low_turn m.high m.low m.four

abbrev pub next_line : Machine → List Process
next_line m = next_of m.high m.low m.four

-- "the running process goes to the end of the ready line"
unfoldable pub back : Machine → Machine
back m = joined m.running (with_places [] m.waiting m)

-- "it joins the end of that line"
unfoldable pub block : Line → Machine → Machine
block l m = with_places [] (m.waiting ++ map (λ p. record { process = p; line = l }) m.running) m

-- "first in the ready line runs", the line being that of the choice
unfoldable pub dispatch : Machine → Machine
dispatch m =
    with_ready (if takes_low m then m.high else rest m.high) (if takes_low m then rest m.low else m.low)
    (counted m.high m.low m.four) (with_places (front (next_line m)) m.waiting m)

-- "the first goes to the end of the ready line"
unfoldable pub wake : Line → Machine → Machine
wake l m = joined (front (line l m)) (with_places m.running (without (at l) m.waiting) m)

-- "all who wait for the pseudo-clock go to the ready line, first come first"
unfoldable pub wake_all : Line → Machine → Machine
wake_all l m = joined (line l m) (with_places m.running (those (λ w. not (at l w)) m.waiting) m)

unfoldable pub family_of : ℕ → Machine → List Process
family_of n m = those (family n) (living m)

-- "ending a process removes it from its line without changing the order of the others or any semaphore's value";
-- "the dead leave theirs in ended time"
unfoldable pub kill : ℕ → Machine → Machine
kill n m = record {
  slots = m.slots;
  ceilings = m.ceilings;
  running = those (λ p. not (family n p)) m.running;
  high = those (λ p. not (family n p)) m.high;
  low = those (λ p. not (family n p)) m.low;
  four = m.four;
  waiting = those (λ w. not (family n w.process)) m.waiting;
  sems = m.sems;
  next = m.next;
  status = m.status;
  last = m.last;
  total = m.total;
  idle = m.idle;
  ended = m.ended + sum (λ p. p.time) (family_of n m);
}

-- "a newborn gets the lowest free one"
unfoldable pub lowest_free : Machine → ℕ
lowest_free m = lowest m.slots 0 (map (λ p. p.slot) (living m))

-- "the newborn is the caller's child, .. time 0"
abbrev pub newborn : Process → ℕ → ℕ → Machine → Process
newborn p priority handle m = record { slot = lowest_free m; id = m.next; ancestors = p.id ∷ p.ancestors; customer = child_of p.customer priority; priority = priority; handle = handle; time = 0 }

-- ".. last in the ready line"; ids "are never used again"
unfoldable pub birth : Process → ℕ → ℕ → Machine → Machine
birth p priority handle m = joined (newborn p priority handle m ∷ []) (with_next (suc m.next) m)

-- "the gap is the reading now less the last one, wrapping at 32 bits"
unfoldable pub gap : ℕ → Machine → ℕ
gap now m = (now + 2 ^ 32 - m.last) % 2 ^ 32

-- "a gap is charged, before anything else, to whoever was running, else to idle"
unfoldable pub charge : ℕ → Machine → Machine
charge now m = record {
  slots = m.slots;
  ceilings = m.ceilings;
  running = map (longer (gap now m)) m.running;
  high = m.high;
  low = m.low;
  four = m.four;
  waiting = m.waiting;
  sems = m.sems;
  next = m.next;
  status = m.status;
  last = now;
  total = m.total + gap now m;
  idle = m.idle + first m.running (gap now m) (λ p. 0);
  ended = m.ended;
}

-- "id 1 is then running in slot 0, with no parent and no support handle"; 02, (ii): "id 1 is customer 0", "the start
-- carries nine ceilings"
unfoldable pub fresh : ℕ → ℕ → List ℕ → List ℕ → Machine
fresh slots now values ceilings = record {
  slots = slots;
  ceilings = ceilings;
  running = record { slot = 0; id = 1; ancestors = []; customer = 0; priority = 0; handle = 0; time = 0 } ∷ [];
  high = [];
  low = [];
  four = 0;
  waiting = [];
  sems = values;
  next = 2;
  status = On;
  last = now;
  total = 0;
  idle = 0;
  ended = 0;
}

pub record Outcome : Type 0 where
  pub after : Machine
  pub answer : Answer

abbrev pub ending : List Process → Answer → Answer
ending ps x = record { refusal = x.refusal; action = x.action; result = x.result; newborn = x.newborn; device = x.device; woken = x.woken; ended = mask ps; idled = x.idled }

-- "refused with 24"; "refusal 27 after 24"; none where it is accepted
unfoldable pub start_refusal : ℕ → List ℕ → List ℕ → Option StartRefusal
start_refusal slots values ceilings =
    if too_large values then Some ValueTooLarge else (if not_allowed slots ceilings then Some CeilingsNotAllowed else None)

-- the event ends with an action, beside the answer so far
abbrev pub act : Action → Answer → Machine → Outcome
act a x m = record { after = m; answer = doing a x }

-- ── Schedule ──

-- "if the line is empty: nobody alive, halt; someone waiting on a nucleus line, wait; otherwise panic"
unfoldable pub nobody_ready : Answer → Machine → Outcome
nobody_ready x m =
    first (living m) (act Halt x (with_status Halted m)) λ p.
    if nucleus_waits m then act Wait x m else act Panic x (with_status Panicked m)

-- "first in the ready line runs"; 02, (vi): "choosing the next now means .."
unfoldable pub schedule : Answer → Machine → Outcome
schedule x m = first (next_line m) (nobody_ready x m) λ p. act (Run p.slot) x (dispatch m)

-- "caller carries on"
unfoldable pub carry_on : Process → Answer → Machine → Outcome
carry_on p x m = act (CarryOn p.slot) x m

-- "the running process carries on; with nobody running, schedule"
unfoldable pub resume : Answer → Machine → Outcome
resume x m = first m.running (schedule x m) λ p. carry_on p x m

-- what the running process does. Nobody running is refused before, so what stands for it does not matter
abbrev pub runner : Machine → (Process → Outcome) → Outcome
runner m does = first m.running (schedule plain m) does

-- ── Pass up or die ──

-- "the running process and its descendants end, and schedule"; "if the caller ends, schedule"
unfoldable pub die : ℕ → Machine → Outcome
die n m = schedule (ending (family_of n m) plain) (kill n m)

-- "all three 'or die': with no support handle the running process and its descendants end, and schedule"
unfoldable pub pass_up_or_die : Cause → Process → Machine → Outcome
pass_up_or_die k p m = if eqb p.handle 0 then die p.id m else act (PassUp p.slot k) plain m

-- "a0 of 1 or more, and program traps: pass up 1"
unfoldable pub trap : Process → Machine → Outcome
trap p m = pass_up_or_die General p m

-- "TLB exceptions: pass up 0"
unfoldable pub tlb : Process → Machine → Outcome
tlb p m = pass_up_or_die Tlb p m

-- ── Calls: the caller, a1, a2, a3 and the machine with its gap charged ──

abbrev pub Service : Type 0
Service = Process → ℕ → ℕ → ℕ → Machine → Outcome

abbrev pub trapped : Service
trapped p a1 a2 a3 m = trap p m

-- 02, (ii): "create now gives −1 exactly when the child's customer is at its ceiling, the named customer is above 8,
-- or ids have run out"
unfoldable pub denied : ℕ → Machine → Bool
denied c m = leb (ceiling c m) (living_of c m) || leb (length m.ceilings) c || ltb top m.next

-- −1: "result: its id, or −1 ..; caller carries on"
unfoldable pub create : Service
create p a1 a2 a3 m =
    if denied (child_of p.customer a2) m then carry_on p (giving (negsuc 0) plain) m
    else carry_on p (giving (pos m.next) (bearing (lowest_free m) plain)) (birth p a2 a3 m)

-- "an id that names nobody alive gives −1 and ends nobody; if the caller ends, schedule";
-- 02, (ix): "a surviving caller with a valid target goes to the end of its ready line with result 0, then schedule";
-- (xi): "any other id gives −1"
unfoldable pub terminate : Service
terminate p a1 a2 a3 m =
    first (those (valid p a1) (living m)) (carry_on p (giving (negsuc 0) plain) m) λ q.
    if family q.id p then die q.id m
    else schedule (giving (pos 0) (ending (family_of q.id m) plain)) (back (kill q.id m))

-- the semaphore's value; whether there is such a semaphore
abbrev pub value : ℕ → Machine → ℕ
value i m = get_or m.sems i 0

abbrev pub exists : ℕ → Machine → Bool
exists i m = ltb i (length m.sems)

-- V is carried out: there is such a semaphore, and it is not at the top
abbrev pub may_rise : ℕ → Machine → Bool
may_rise i m = exists i m && ltb (value i m) top

-- −3, P: "value above 0 falls by one and the caller carries on; at 0 it joins the end of that line, and schedule"
unfoldable pub passeren : Service
passeren p a1 a2 a3 m =
    if exists a1 m
    then (if eqb (value a1 m) 0 then schedule plain (block (Semaphore a1) m) else carry_on p plain (with_sem a1 (value a1 m - 1) m))
    else trap p m

-- −4, V: "if anyone waits, the first goes to the end of the ready line and the value stays 0; else the value rises by
-- one"
unfoldable pub verhogen : Service
verhogen p a1 a2 a3 m =
    if may_rise a1 m
    then first (line (Semaphore a1) m) (carry_on p plain (with_sem a1 (value a1 m + 1) m)) (λ q.
    carry_on p (waking (q ∷ []) plain) (wake (Semaphore a1) m))
    else trap p m

-- −5: "sub-device a1 (0 to 47). Always waits there; the answer names the sub-device"
unfoldable pub do_io : Service
do_io p a1 a2 a3 m = if ltb a1 sub_devices then schedule (naming a1 plain) (block (Device a1) m) else trap p m

-- −6: "caller's time, this event's gap included"
unfoldable pub cpu_time : Service
cpu_time p a1 a2 a3 m = carry_on p (giving (pos p.time) plain) m

-- −7: "waits for the pseudo-clock, always"
unfoldable pub wait_clock : Service
wait_clock p a1 a2 a3 m = schedule plain (block PseudoClock m)

-- −8: "support handle or 0"
unfoldable pub support : Service
support p a1 a2 a3 m = carry_on p (giving (pos p.handle) plain) m

-- −9: "a1 = 0 own id, otherwise the parent's, 0 for id 1"
unfoldable pub identity : Service
identity p a1 a2 a3 m = carry_on p (giving (pos (if eqb a1 0 then p.id else first p.ancestors 0 (λ n. n))) plain) m

-- −10: "to the end of the ready line, then schedule"
unfoldable pub yield : Service
yield p a1 a2 a3 m = schedule plain (back m)

-- the calls −1 to −10, in order; "a0 below −10" is a program trap
unfoldable pub services : List Service
services = create ∷ terminate ∷ passeren ∷ verhogen ∷ do_io ∷ cpu_time ∷ wait_clock ∷ support ∷ identity ∷ yield ∷ []

-- program traps: any negative call in user mode, a0 = 0; and a0 of 1 or more is passed up like one
unfoldable pub service : Mode → ℤ → Service
service User a0 = trapped
service Kernel (pos n) = trapped
service Kernel (negsuc n) = get_or services n trapped

-- ── Interrupts ──

-- line 2: "all who wait for the pseudo-clock go to the ready line"
unfoldable pub tick : Machine → Outcome
tick m = resume (waking (line PseudoClock m) plain) (wake_all PseudoClock m)

-- lines 3 to 7: "the first in that sub-device's line becomes ready. If nobody waits, the interrupt is acknowledged and
-- forgotten"
unfoldable pub device_done : ℕ → Machine → Outcome
device_done d m =
    first (line (Device d) m) (resume (naming d plain) m) λ q.
    resume (naming d (waking (q ∷ []) plain)) (wake (Device d) m)

-- "line 1: the running process goes to the end of the ready line, then schedule"
unfoldable pub interrupt : ℕ → ℕ → ℕ → Machine → Outcome
interrupt n x y m =
    if eqb n 1 then runner m (λ p. schedule plain (back m))
    else (if eqb n 2 then tick m else device_done (sub_device n x y) m)

-- ── When the desk says no ──

unfoldable pub stopped : Machine → Bool
stopped m = not_on m.status

-- the rows of the table, in its order
unfoldable pub rows : Machine → Event → List (Refusal × Bool)
rows m e =
    (Over, stopped m)
    ∷ (NoSuchLine, bad_line e)
    ∷ (NoSuchCode, bad_code e)
    ∷ (ClockBack, leb gap_limit (gap (clock e) m))
    ∷ (TimeFull, ltb time_limit (m.total + gap (clock e) m))
    ∷ (NobodyRuns, needs_runner e && first m.running true (λ p. false))
    ∷ []

-- "the first that applies is given"; none where none does
unfoldable pub refusal : Machine → Event → Option Refusal
refusal m e = first (those (λ r. r.1) (rows m e)) None (λ r. Some r.0)

-- "action none, masks zero, other parts absent, and the machine afterwards equals the machine before"
unfoldable pub refused : Refusal → Machine → Outcome
refused r m = record { after = m; answer = refusing r plain }

-- ── An event ──

-- what an accepted event does, its gap charged
unfoldable pub call : Mode → ℤ → ℕ → ℕ → ℕ → Machine → Outcome
call mode a0 a1 a2 a3 m = runner m λ p. service mode a0 p a1 a2 a3 m

-- "0-7, 9, 10 and 12-23 are program traps, 24-28 TLB exceptions"
unfoldable pub exception : ℕ → Machine → Outcome
exception code m = runner m λ p. if ltb code 24 then trap p m else tlb p m

abbrev pub perform : Event → Machine → Outcome
perform (Call now mode a0 a1 a2 a3) m = call mode a0 a1 a2 a3 m
perform (Interrupt now n x y) m = interrupt n x y m
perform (Exception now code) m = exception code m

unfoldable pub step : Machine → Event → Outcome
step m e = maybe (refusal m e) (perform e (charge (clock e) m)) λ r. refused r m

-- the answers to a list of events, and the machine after it
unfoldable pub answers : Machine → List Event → List Answer
answers m [] = []
answers m (e ∷ es) = (step m e).answer ∷ answers (step m e).after es

unfoldable pub run : Machine → List Event → Machine
run m [] = m
run m (e ∷ es) = run (step m e).after es

-- ── A fresh machine ──

-- "the machine left when the start with the least numbers allowed ends its id 1 at once (call −2, clock unchanged)"
unfoldable pub nothing_left : ℕ → ℕ → ℕ → Machine
nothing_left slots sems customers = (step (fresh slots 0 (replicate sems 0) (least_ceilings customers)) (Call 0 Kernel (negsuc 1) 0 0 0)).after

-- "wherever a machine is refused, what stands beside the number" is that one
unfoldable pub start : ℕ → ℕ → List ℕ → List ℕ → Machine
start slots now values ceilings =
    maybe (start_refusal slots values ceilings) (fresh slots now values ceilings) λ r. nothing_left slots (length values) (length ceilings)
