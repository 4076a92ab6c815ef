-- THE OLD ANSWERS FOR ONE: 02, (xiii), "show the rules once for any number from one up, with the old answers for one".
-- Whatever the start and the events, a machine of one processor gives them, at processor 0, the answers that the former
-- rule book gave, and comes to the same machine; the new mask is 0. The two theorems stand last. They go rule by rule,
-- one or two lines each: with no other processor, every definition that (xiii) changed computes to the former one.
use Rattle.std.specs.Prelude.{if◌then◌else◌, Option, Some, None}
use mathlib.Core.Path.{◌≡◌, refl, ◌∙◌, ap, ap₂}
use mathlib.Core.Bool.{Bool, true, false}
use mathlib.Core.List.{List, [], ◌∷◌}
use Prim.Native.Nat.{ℕ, zero, suc}
use native.Mathlib.Omega.{arith}
use lib.Dec.{eqb, ltb}
use lib.IntN.{ℤ, pos, negsuc}
use lib.ListN.{length, get_or, replicate}
use Rattle.rules.specs.declared.Mode.{Mode}
use Rattle.rules.specs.declared.Mode.TheVariants.{User, Kernel}
use Rattle.rules.specs.declared.Event.{Event}
use Rattle.rules.specs.declared.Event.TheVariants.{Call, Interrupt, Exception}
use Rattle.rules.specs.declared.Line.TheVariants.{Semaphore, Device, PseudoClock}
use Rattle.rules.specs.declared.Cause.{Cause}
use Rattle.rules.specs.declared.Cause.TheVariants.{Tlb, General}
use Rattle.rules.specs.declared.StartRefusal.{StartRefusal}
use Rattle.rules.specs.declared.Answer.{Answer}
use Rattle.rules.specs.Words.{first, maybe, those}
use Rattle.rules.specs.Numbers.{sub_devices}
use Rattle.rules.specs.Starts.{bad_number, start_refusal}
use Rattle.rules.specs.Machine.{Process, Machine, living, line, nucleus_waits, back, block, dispatch, wake, wake_all, family, family_of, kill, lowest_free, child_of, birth, gap, charge, turn, fresh}
use Rattle.rules.specs.Answers.{Outcome, plain, giving, naming, waking, left_idle}
use Rattle.rules.specs.Rules
use Rattle.rules.specs.Rules.{valid, seated_again, all_at, arrive, answers, run, start}
use Rattle.rules.proofs.Turns.{turn_turn, many_turned}
use Rattle.rules.proofs.Arrivals.{arrives_in}
use Rattle.former.specs.Former
use Rattle.former.specs.Grown.{grown}

-- an outcome of it
abbrev brought : Former.Outcome → Outcome
brought o = record { after = grown o.after; answer = o.answer }

-- a choice of outcomes
chosen : (b : Bool) {x y : Outcome} {x° y° : Former.Outcome} → x ≡ brought x° → y ≡ brought y° → (if b then x else y) ≡ brought (if b then x° else y°)
chosen true p q = p
chosen false p q = q

of_first : {A : Type 0} (xs : List A) {none : Outcome} {none° : Former.Outcome} {some : A → Outcome} {some° : A → Former.Outcome}
    → none ≡ brought none° → ((x : A) → some x ≡ brought (some° x)) → first xs none some ≡ brought (first xs none° some°)
of_first [] p q = p
of_first (x ∷ xs) p q = q x

of_maybe : {A : Type 0} (o : Option A) {none : Outcome} {none° : Former.Outcome} {some : A → Outcome} {some° : A → Former.Outcome}
    → none ≡ brought none° → ((x : A) → some x ≡ brought (some° x)) → maybe o none some ≡ brought (maybe o none° some°)
of_maybe None p q = p
of_maybe (Some x) p q = q x

-- ── Rule by rule ──

nobody_ready : (x : Answer) (m : Former.Machine) → Rules.nobody_ready x (grown m) ≡ brought (Former.nobody_ready x m)
unfolding Rules.nobody_ready Former.nobody_ready Rules.worth_waiting Rules.runs_elsewhere living Former.living nucleus_waits Former.nucleus_waits
nobody_ready x m = of_first (Former.living m) refl (λ p. chosen (Former.nucleus_waits m) refl refl)

schedule : (x : Answer) (m : Former.Machine) → Rules.schedule x (grown m) ≡ brought (Former.schedule x m)
unfolding Rules.schedule Former.schedule dispatch Former.dispatch
schedule x m = of_first (Former.next_line m) (nobody_ready x m) (λ p. refl)

resume : (x : Answer) (m : Former.Machine) → Rules.resume x (grown m) ≡ brought (Former.resume x m)
unfolding Rules.resume Former.resume Rules.carry_on Former.carry_on
resume x m = of_first m.running (schedule x m) (λ p. refl)

die : (n : ℕ) (m : Former.Machine) → Rules.die n (grown m) ≡ brought (Former.die n m)
unfolding Rules.die Former.die living Former.living family_of Former.family_of kill Former.kill left_idle
die n m = schedule (Former.ending (Former.family_of n m) plain) (Former.kill n m)

pass_up_or_die : (c : Cause) (p : Process) (m : Former.Machine) → Rules.pass_up_or_die c p (grown m) ≡ brought (Former.pass_up_or_die c p m)
unfolding Rules.pass_up_or_die Former.pass_up_or_die
pass_up_or_die c p m = chosen (eqb p.handle 0) (die p.id m) refl

-- ── The calls ──

Alike : Rules.Service → Former.Service → Type 0
Alike s s° = (p : Process) (a1 a2 a3 : ℕ) (m : Former.Machine) → s p a1 a2 a3 (grown m) ≡ brought (s° p a1 a2 a3 m)

trapped : Alike Rules.trapped Former.trapped
unfolding Alike Rules.trap Former.trap
trapped p a1 a2 a3 m = pass_up_or_die General p m

create : Alike Rules.create Former.create
unfolding Alike Rules.create Former.create Rules.carry_on Former.carry_on Rules.denied Former.denied lowest_free Former.lowest_free birth Former.birth living Former.living
create p a1 a2 a3 m = chosen (Former.denied (child_of p.customer a2) m) refl refl

terminate : Alike Rules.terminate Former.terminate
unfolding Alike Rules.terminate Former.terminate Rules.carry_on Former.carry_on back Former.back living Former.living family_of Former.family_of kill Former.kill left_idle
terminate p a1 a2 a3 m =
    of_first (those (valid p a1) (Former.living m)) refl λ q.
    chosen (family q.id p) (die q.id m) (schedule (giving (pos 0) (Former.ending (Former.family_of q.id m) plain)) (Former.back (Former.kill q.id m)))

passeren : Alike Rules.passeren Former.passeren
unfolding Alike Rules.passeren Former.passeren Rules.carry_on Former.carry_on Rules.trap Former.trap block Former.block
passeren p a1 a2 a3 m = chosen (Former.exists a1 m) (chosen (eqb (Former.value a1 m) 0) (schedule plain (Former.block (Semaphore a1) m)) refl) (trapped p a1 a2 a3 m)

verhogen : Alike Rules.verhogen Former.verhogen
unfolding Alike Rules.verhogen Former.verhogen Rules.carry_on Former.carry_on Rules.trap Former.trap line Former.line wake Former.wake
verhogen p a1 a2 a3 m = chosen (Former.may_rise a1 m) (of_first (Former.line (Semaphore a1) m) refl (λ q. refl)) (trapped p a1 a2 a3 m)

do_io : Alike Rules.do_io Former.do_io
unfolding Alike Rules.do_io Former.do_io Rules.trap Former.trap block Former.block
do_io p a1 a2 a3 m = chosen (ltb a1 sub_devices) (schedule (naming a1 plain) (Former.block (Device a1) m)) (trapped p a1 a2 a3 m)

cpu_time : Alike Rules.cpu_time Former.cpu_time
unfolding Alike Rules.cpu_time Former.cpu_time Rules.carry_on Former.carry_on
cpu_time p a1 a2 a3 m = refl

wait_clock : Alike Rules.wait_clock Former.wait_clock
unfolding Alike Rules.wait_clock Former.wait_clock block Former.block
wait_clock p a1 a2 a3 m = schedule plain (Former.block PseudoClock m)

support : Alike Rules.support Former.support
unfolding Alike Rules.support Former.support Rules.carry_on Former.carry_on
support p a1 a2 a3 m = refl

identity : Alike Rules.identity Former.identity
unfolding Alike Rules.identity Former.identity Rules.carry_on Former.carry_on
identity p a1 a2 a3 m = refl

yield : Alike Rules.yield Former.yield
unfolding Alike Rules.yield Former.yield back Former.back
yield p a1 a2 a3 m = schedule plain (Former.back m)

-- two tables of services, row by row
Paired : List Rules.Service → List Former.Service → Type 0
Paired [] [] = Unit {0}
Paired [] (t ∷ ts) = ⊥
Paired (s ∷ ss) [] = ⊥
Paired (s ∷ ss) (t ∷ ts) = Alike s t × Paired ss ts

row : (ss : List Rules.Service) (ts : List Former.Service) → Paired ss ts → (n : ℕ) → Alike (get_or ss n Rules.trapped) (get_or ts n Former.trapped)
unfolding Paired
row [] [] h n = trapped
row [] (t ∷ ts) h n = absurd h
row (s ∷ ss) [] h n = absurd h
row (s ∷ ss) (t ∷ ts) h zero = h.0
row (s ∷ ss) (t ∷ ts) h (suc n) = row ss ts h.1 n

service : (mode : Mode) (a0 : ℤ) → Alike (Rules.service mode a0) (Former.service mode a0)
unfolding Rules.service Former.service Rules.services Former.services Paired
service User a0 = trapped
service Kernel (pos n) = trapped
service Kernel (negsuc n) = row Rules.services Former.services (create, (terminate, (passeren, (verhogen, (do_io, (cpu_time, (wait_clock, (support, (identity, (yield, tt)))))))))) n

-- ── Interrupts and events ──

interrupt : (n x y : ℕ) (m : Former.Machine) → Rules.interrupt n x y (grown m) ≡ brought (Former.interrupt n x y m)
unfolding Rules.interrupt Former.interrupt Rules.tick Former.tick Rules.device_done Former.device_done line Former.line wake Former.wake wake_all Former.wake_all back Former.back
interrupt n x y m =
    chosen (eqb n 1) (of_first m.running (schedule plain m) (λ p. schedule plain (Former.back m)))
    (chosen (eqb n 2) (resume (waking (Former.line PseudoClock m) plain) (Former.wake_all PseudoClock m))
    (of_first (Former.line (Device (Rules.sub_device n x y)) m) (resume (naming (Rules.sub_device n x y) plain) m)
    (λ q. resume (naming (Rules.sub_device n x y) (waking (q ∷ []) plain)) (Former.wake (Device (Rules.sub_device n x y)) m))))

perform : (e : Event) (m : Former.Machine) → Rules.perform e (grown m) ≡ brought (Former.perform e m)
unfolding Rules.call Former.call Rules.exception Former.exception Rules.trap Former.trap Rules.tlb Former.tlb Alike
perform (Call now mode a0 a1 a2 a3) m = of_first m.running (schedule plain m) (λ p. service mode a0 p a1 a2 a3 m)
perform (Interrupt now n x y) m = interrupt n x y m
perform (Exception now code) m = of_first m.running (schedule plain m) (λ p. chosen (ltb code 24) (pass_up_or_die General p m) (pass_up_or_die Tlb p m))

step : (m : Former.Machine) (e : Event) → Rules.step (grown m) e ≡ brought (Former.step m e)
unfolding Rules.step Former.step Rules.refusal Former.refusal Rules.rows Former.rows Rules.stopped Former.stopped gap Former.gap charge Former.charge Rules.refused Former.refused
step m e = of_maybe (Former.refusal m e) (perform e (Former.charge (Rules.clock e) m)) (λ r. refl)

-- ── Any events ──

answered : (m : Former.Machine) (e : Event) → arrive (turn 0 (grown m)) (record { processor = 0; event = e }) ≡ seated_again 0 (brought (Former.step m e))
answered m e =
    arrives_in (turn 0 (grown m)) (record { processor = 0; event = e }) (omega (arith, many_turned 0 (grown m)))
    ∙ ap (λ (n : Machine). seated_again 0 (Rules.step n e)) (turn_turn 0 (grown m))
    ∙ ap (seated_again 0) (step m e)

same_answers : (es : List Event) (m : Former.Machine) → answers (turn 0 (grown m)) (all_at 0 es) ≡ Former.answers m es
unfolding answers Former.answers
same_answers [] m = refl
same_answers (e ∷ es) m =
    ap₂ {A = Answer} {B = List Answer} (λ a as'. a ∷ as') (ap (λ (o : Outcome). o.answer) (answered m e))
    (ap (λ (o : Outcome). answers o.after (all_at 0 es)) (answered m e) ∙ same_answers es (Former.step m e).after)

same_machine : (es : List Event) (m : Former.Machine) → run (turn 0 (grown m)) (all_at 0 es) ≡ turn 0 (grown (Former.run m es))
unfolding run Former.run
same_machine [] m = refl
same_machine (e ∷ es) m = ap (λ (o : Outcome). run o.after (all_at 0 es)) (answered m e) ∙ same_machine es (Former.step m e).after

-- ── Any start ──

same_refusal : (slots : ℕ) (values ceilings : List ℕ) → start_refusal slots 1 values ceilings ≡ Former.start_refusal slots values ceilings
unfolding start_refusal Former.start_refusal bad_number
same_refusal slots values ceilings = refl

same_fresh : (slots now : ℕ) (values ceilings : List ℕ) → fresh slots 0 now values ceilings ≡ grown (Former.fresh slots now values ceilings)
unfolding fresh Former.fresh
same_fresh slots now values ceilings = refl

same_rest : (slots sems customers : ℕ) → Rules.nothing_left slots sems customers ≡ grown (Former.nothing_left slots sems customers)
unfolding Rules.nothing_left Former.nothing_left fresh Former.fresh
same_rest slots sems customers =
    ap (λ (o : Outcome). o.after) (step (Former.fresh slots 0 (replicate sems 0) (Rules.least_ceilings customers)) (Call 0 Kernel (negsuc 1) 0 0 0))

same_start : (slots now : ℕ) (values ceilings : List ℕ) → start slots 1 now values ceilings ≡ turn 0 (grown (Former.start slots now values ceilings))
unfolding start Former.start start_refusal Former.start_refusal bad_number
same_start slots now values ceilings = ap (turn 0) (go (Former.start_refusal slots values ceilings))
  where
    go : (o : Option StartRefusal) → maybe o (fresh slots 0 now values ceilings) (λ r. Rules.nothing_left slots (length values) (length ceilings))
        ≡ grown (maybe o (Former.fresh slots now values ceilings) (λ r. Former.nothing_left slots (length values) (length ceilings)))
    go None = same_fresh slots now values ceilings
    go (Some r) = same_rest slots (length values) (length ceilings)

-- THE OLD ANSWERS, AND THE OLD MACHINES, FOR ONE
pub old_answers : (slots now : ℕ) (values ceilings : List ℕ) (es : List Event) → answers (start slots 1 now values ceilings) (all_at 0 es) ≡ Former.answers (Former.start slots now values ceilings) es
old_answers slots now values ceilings es = ap (λ (m : Machine). answers m (all_at 0 es)) (same_start slots now values ceilings) ∙ same_answers es (Former.start slots now values ceilings)

pub old_machines : (slots now : ℕ) (values ceilings : List ℕ) (es : List Event)
    → run (start slots 1 now values ceilings) (all_at 0 es) ≡ turn 0 (grown (Former.run (Former.start slots now values ceilings) es))
old_machines slots now values ceilings es = ap (λ (m : Machine). run m (all_at 0 es)) (same_start slots now values ceilings) ∙ same_machine es (Former.start slots now values ceilings)
