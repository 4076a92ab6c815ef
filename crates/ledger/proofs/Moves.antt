-- Why an accepted event moves just whom `move` says, and the next is then chosen where nobody runs.
use Rattle.std.specs.Prelude.{if◌then◌else◌, None}
use mathlib.Core.Path.{◌≡◌, refl, sym, ◌∙◌, ap, ap₂, subst}
use mathlib.Core.Bool.{Bool, true, false, not, ◌&&◌, ◌||◌, true≢false}
use mathlib.Core.List.{List, [], ◌∷◌, ◌++◌, map, append-nil}
use Prim.Native.Nat.{ℕ, suc, ◌+◌, ◌-◌}
use native.Mathlib.Nat.{zero-add}
use native.Mathlib.Omega.{arith}
use lib.Dec.{eqb, leb, ltb}
use lib.IntN.{ℤ, pos, negsuc}
use lib.ListN.{length, get_or}
use borrow.Author.Tests.{eqb-true, eq-eqb, lt-ltb, ltb-true, ltb-false, lt-leb, le-leb}
use Rattle.rules.specs.declared.Mode.{Mode}
use Rattle.rules.specs.declared.Mode.TheVariants.{User, Kernel}
use Rattle.rules.specs.declared.Event.{Event}
use Rattle.rules.specs.declared.Event.TheVariants.{Call, Interrupt, Exception}
use Rattle.rules.specs.declared.Line.{Line}
use Rattle.rules.specs.declared.Line.TheVariants.{Semaphore, Device, PseudoClock}
use Rattle.rules.specs.declared.Cause.{Cause}
use Rattle.rules.specs.declared.Cause.TheVariants.{Tlb, General}
use Rattle.rules.specs.declared.Action.{Action}
use Rattle.rules.specs.declared.Action.TheVariants.{Wait, Halt, Panic, PassUp}
use Rattle.rules.specs.declared.Answer.{Answer}
use Rattle.rules.specs.Words.{first, those, any, front, rest, without, count, Single}
use Rattle.rules.specs.Numbers.{top, sub_devices}
use Rattle.rules.proofs.Cases.{if_cases, first_cases, single_cases, get_or_past, and_left}
use Rattle.rules.proofs.Lines.{those_append, those_those}
use Rattle.rules.specs.declared.Status.{Status}
use Rattle.rules.specs.declared.Status.TheVariants.{Halted, Panicked}
use Rattle.rules.specs.Machine.{Process, Waiter, Machine, with_sem, with_status, is_high, next_line, living, living_of, ceiling, at, line, back, block, dispatch, wake, wake_all, named, family, kill, lowest_free, child_of, newborn, birth, longer, gap, charge}
use Rattle.rules.proofs.Living.{sum_charged_same}
use Rattle.rules.specs.Answers.{Outcome, plain, mask, giving, bearing, ending, waking, naming}
use Rattle.rules.specs.Rules
use Rattle.rules.specs.Rules.{Service, act, step}
use Rattle.rules.proofs.Walk.{charge_single, kill_none}
use Rattle.rules.proofs.Laws.{accepts, passed}
use Rattle.ledger.proofs.Lists.{no_one, everyone, any_many, those_alike, nobody_passes, somebody_passes}
use Rattle.ledger.specs.History.{keeps_running, slot_run}
use Rattle.ledger.specs.Choices.{Lists, lists_of, placed, joining, chosen}
use Rattle.ledger.specs.Kills.{passed_up, terminates, valid_name, target_by, target}
use Rattle.ledger.specs.Moves.{Move, none, steps_back, joins, first_wakes, all_wake, is_born, ends, creates, call_moves, carried_out, move, moved, others, left, woken, ended, newborn_part, Acts, Moved}

-- ── Whoever runs goes on, or the next is chosen: from the machine k, with the answer so far x ──

first_some : {B : Type 0} (ps qs : List Process) (p : Process) → ps ≡ p ∷ qs → (a b : B) → first ps a (λ q. b) ≡ b
first_some {B = B} ps qs p e a b = ap (λ (rs : List Process). first {B = B} rs a (λ q. b)) e

first_none : {B : Type 0} (ps : List Process) → ps ≡ [] → (a : B) (f : Process → B) → first ps a f ≡ a
first_none {B = B} ps e a f = ap (λ (rs : List Process). first {B = B} rs a f) e

record Settles (x : Answer) (k : Machine) (o : Outcome) : Type 0 where
  places : lists_of o.after ≡ chosen (lists_of k)
  action : Acts (lists_of k) o.answer.action
  newborn_told : o.answer.newborn ≡ x.newborn
  woken_mask : o.answer.woken ≡ x.woken
  ended_mask : o.answer.ended ≡ x.ended
  elsewhere : o.after.elsewhere ≡ k.elsewhere
  idled_mask : o.answer.idled ≡ x.idled

goes_on : (x : Answer) (p : Process) (a : Action) (k : Machine) → keeps_running a ≡ true → k.running ≡ p ∷ [] → Settles x k (act a x k)
goes_on x p a k on r = record {
  places = sym (first_some k.running [] p r _ (lists_of k));
  action = rw r on;
  newborn_told = refl;
  woken_mask = refl;
  ended_mask = refl;
  elsewhere = refl;
  idled_mask = refl;
}

-- nobody is there to run
rests : (x : Answer) (a : Action) (s : Status) (k : Machine) → k.running ≡ [] → next_line k ≡ [] → keeps_running a ≡ false → slot_run a ≡ [] → Settles x k (act a x (with_status s k))
rests x a s k r e off nobody = record {
  places = sym (first_none k.running r _ _ ∙ first_none (next_line k) e _ _);
  action = rw (r, e) (off, nobody);
  newborn_told = refl;
  woken_mask = refl;
  ended_mask = refl;
  elsewhere = refl;
  idled_mask = refl;
}

schedules : (x : Answer) (k : Machine) → k.running ≡ [] → Settles x k (Rules.schedule x k)
unfolding Rules.schedule Rules.nobody_ready dispatch
schedules x k r =
    first_cases (Settles x k) (next_line k)
    (λ e. first_cases (Settles x k) (living k) (λ _. rests x Halt Halted k r e refl refl) λ p ys _.
    if_cases (Settles x k) (Rules.worth_waiting k) (λ _. rests x Wait k.status k r e refl refl) (λ _. rests x Panic Panicked k r e refl refl))
    (λ p ys e. record { places = rw (r, e) refl; action = rw (r, e) (refl, refl); newborn_told = refl; woken_mask = refl; ended_mask = refl; elsewhere = refl; idled_mask = refl })

resumes : (x : Answer) (k : Machine) → Single k.running → Settles x k (Rules.resume x k)
unfolding Rules.resume Rules.carry_on
resumes x k s = single_cases (Settles x k) k.running s (λ r. schedules x k r) (λ p r. goes_on x p _ k refl r)

-- ── Each change is a move ──

as_move : (v : Move) (m : Machine) (x : Answer) (k : Machine) (o : Outcome) → lists_of k ≡ moved v m → x.newborn ≡ newborn_part v m
    → x.woken ≡ mask (woken v m) → x.ended ≡ mask (ended v m) → k.elsewhere ≡ others v m → x.idled ≡ left v m → Settles x k o → Moved v m o
as_move v m x k o l b u w d i s = record {
  places = s.places ∙ ap chosen l;
  action = subst (λ (l : Lists). Acts l o.answer.action) l s.action;
  newborn_told = s.newborn_told ∙ b;
  woken_mask = s.woken_mask ∙ u;
  ended_mask = s.ended_mask ∙ w;
  elsewhere = s.elsewhere ∙ d;
  idled_mask = s.idled_mask ∙ i;
}

no_mask : 0 ≡ mask []
unfolding mask
no_mask = refl

-- nobody waits in the line: to wake the first is to move nobody
none_gone : (t : Waiter → Bool) (ws : List Waiter) → map (λ w. w.process) (those t ws) ≡ [] → without t ws ≡ ws
none_gone t [] e = refl
none_gone t (w ∷ ws) e = go (t w) e (none_gone t ws)
  where
    go : (b : Bool) → map (λ w. w.process) (if b then w ∷ those t ws else those t ws) ≡ [] → (map (λ w. w.process) (those t ws) ≡ [] → without t ws ≡ ws) → (if b then ws else w ∷ without t ws) ≡ w ∷ ws
    go true e ih = absurd (no_one w.process (map (λ w. w.process) (those t ws)) e)
    go false e ih = ap (λ (vs : List Waiter). w ∷ vs) (ih e)

nobody_joins : (l : Lists) → joining [] l ≡ l
nobody_joins l = ap₂ (λ (hs ls : List Process). record { on = l.on; high = hs; low = ls; four = l.four; waiting = l.waiting }) (append-nil l.high) (append-nil l.low)

nobody_wakes : (l : Line) (m : Machine) (o : Outcome) → line l m ≡ [] → Moved none m o → Moved (first_wakes l) m o
unfolding line
nobody_wakes l m o e s =
    let same : moved none m ≡ moved (first_wakes l) m =
    sym (ap₂ (λ (ps : List Process) (ws : List Waiter). joining (front ps) (placed m.running ws m)) e (none_gone (at l) m.waiting e) ∙ nobody_joins (moved none m)) in
    record {
      places = s.places ∙ ap chosen same;
      action = subst (λ (l : Lists). Acts l o.answer.action) same s.action;
      newborn_told = s.newborn_told;
      woken_mask = s.woken_mask ∙ ap (λ (ps : List Process). mask (front ps)) (sym e);
      ended_mask = s.ended_mask;
      elsewhere = s.elsewhere;
      idled_mask = s.idled_mask;
    }

-- ── Pass up or die ──

-- the move where p is running
abbrev move_by : Event → Machine → Process → Move
move_by e m p = first (target_by e m p) (if passed_up e m then none else carried_out e m) ends

stays : (m : Machine) (x : Answer) (p : Process) (a : Action) → keeps_running a ≡ true → x.newborn ≡ None → x.woken ≡ 0 → x.ended ≡ 0 → x.idled ≡ 0 → m.running ≡ p ∷ [] → Moved none m (act a x m)
stays m x p a on b u w i r = as_move none m x m _ refl b (u ∙ no_mask) (w ∙ no_mask) refl i (goes_on x p a m on r)

-- those of a ready line who are spared, and behind them whoever ran and is spared
pub spared_behind : (t u : Process → Bool) (ps rs : List Process) → those t ps ++ those u (those t rs) ≡ those t (ps ++ those u rs)
spared_behind t u ps rs = ap (λ (qs : List Process). those t ps ++ qs) (those_those u t rs) ∙ sym (those_append t ps (those u rs))

pub spared_lists : (n : ℕ) (m : Machine) → lists_of (back (kill n m)) ≡ moved (ends n) m
unfolding back kill
spared_lists n m =
    let t : Process → Bool = λ p. not (family n p) in
    ap₂ (λ (hs ls : List Process). record { on = []; high = hs; low = ls; four = m.four; waiting = those (λ w. t w.process) m.waiting })
    (spared_behind t is_high m.high m.running) (spared_behind t (λ p. not (is_high p)) m.low m.running)

-- the killed one runs no longer, so that nobody goes back
nobody_back : (k : Machine) → k.running ≡ [] → lists_of k ≡ lists_of (back k)
unfolding back
nobody_back k r =
    ap (λ (rs : List Process). record { on = rs; high = k.high; low = k.low; four = k.four; waiting = k.waiting }) r
    ∙ sym (ap (λ (rs : List Process). joining rs (placed [] k.waiting k)) r ∙ nobody_joins (placed [] k.waiting k))

dies : (n : ℕ) (p : Process) (m : Machine) → family n p ≡ true → m.running ≡ p ∷ [] → Moved (ends n) m (Rules.die n m)
unfolding Rules.die kill
dies n p m f r =
    as_move (ends n) m (ending n m plain) (kill n m) _ (nobody_back (kill n m) (kill_none n p m r f) ∙ spared_lists n m) refl no_mask refl refl refl
    (schedules _ _ (kill_none n p m r f))

own_family : (p : Process) → family p.id p ≡ true
unfolding family
own_family p = rw (eq-eqb p.id p.id refl)

passes_or_dies : (e : Event) (c : Cause) (p : Process) (m : Machine) → passed_up e m ≡ true → m.running ≡ p ∷ [] → Moved (move_by e m p) m (Rules.pass_up_or_die c p m)
unfolding Rules.pass_up_or_die
passes_or_dies e c p m up r = rw up (go (eqb p.handle 0))
  where
    go : (b : Bool) → Moved (first (if b then p.id ∷ [] else []) none ends) m (if b then Rules.die p.id m else act (PassUp p.slot c) plain m)
    go true = dies p.id p m (own_family p) r
    go false = stays m plain p _ refl refl refl refl refl r

-- an event that is carried out and ends nobody
carried : (e : Event) (m : Machine) (p : Process) (o : Outcome) (v : Move) → passed_up e m ≡ false → terminates e p ≡ [] → carried_out e m ≡ v → Moved v m o → Moved (move_by e m p) m o
carried e m p o v up t c h = rw (up, t, c) h

-- ── The calls ──

abbrev Serves : ℕ → Service → Type 0
Serves n s = (now : ℕ) (p : Process) (a1 a2 a3 : ℕ) (m : Machine) → m.running ≡ p ∷ [] → Moved (move_by (Call now Kernel (negsuc n) a1 a2 a3) m p) m (s p a1 a2 a3 m)

create : Serves 0 Rules.create
unfolding Rules.create Rules.carry_on birth
create now p a1 a2 a3 m r =
    carried (Call now Kernel (negsuc 0) a1 a2 a3) m p _ (if Rules.denied (child_of p.customer a2) m then none else is_born a2 a3) refl refl
    (ap (λ (ps : List Process). first ps none (λ q. if Rules.denied (child_of q.customer a2) m then none else is_born a2 a3)) r) (go (Rules.denied (child_of p.customer a2) m))
  where
    x : Answer
    x = giving (pos m.next) (bearing (lowest_free m) plain)

    go : (b : Bool) → Moved (if b then none else is_born a2 a3) m (if b then Rules.carry_on p (giving (negsuc 0) plain) m else Rules.carry_on p x (birth p a2 a3 m))
    go true = stays m (giving (negsuc 0) plain) p _ refl refl refl refl refl r
    go false =
        as_move (is_born a2 a3) m x (birth p a2 a3 m) _ (ap (λ (rs : List Process). joining (map (λ q. newborn q a2 a3 m) rs) (placed m.running m.waiting m)) (sym r)) refl no_mask no_mask refl refl
        (goes_on x p _ (birth p a2 a3 m) refl r)

terminate : Serves 1 Rules.terminate
unfolding Rules.terminate Rules.carry_on named kill back
terminate now p a1 a2 a3 m r = named_one (if eqb a1 0 then p.id else a1)
  where
    ending_of : Process → Outcome
    ending_of q =
        if family q.id p then Rules.die q.id m
        else Rules.schedule (giving (pos 0) (ending q.id m plain)) (back (kill q.id m))

    -- who has the id, and may be named
    t : ℕ → Process → Bool
    t n q = eqb n q.id && Rules.may_name p q

    named_one : (n : ℕ) → Moved (first (if any (t n) (living m) then n ∷ [] else []) none ends) m (first (those (t n) (living m)) (Rules.carry_on p (giving (negsuc 0) plain) m) ending_of)
    named_one n =
        first_cases (Moved (first (if any (t n) (living m) then n ∷ [] else []) none ends) m) (those (t n) (living m))
        (λ e. rw (nobody_passes (t n) (living m) e) (stays m (giving (negsuc 0) plain) p _ refl refl refl refl refl r))
        (λ q qs e.
        let k = somebody_passes (t n) (living m) q qs e in
        let z : n ≡ q.id = eqb-true n q.id (and_left (eqb n q.id) (Rules.may_name p q) k.1) in
        rw k.0 (subst (λ (j : ℕ). Moved (ends j) m (ending_of q)) (sym z)
        (if_cases (Moved (ends q.id) m) (family q.id p) (λ f. dies q.id p m f r)
        (λ f. as_move (ends q.id) m (giving (pos 0) (ending q.id m plain)) (back (kill q.id m)) _ (spared_lists q.id m) refl no_mask refl refl refl
        (schedules _ (back (kill q.id m)) refl)))))

blocks : (l : Line) (x : Answer) (m : Machine) → x.newborn ≡ None → x.woken ≡ 0 → x.ended ≡ 0 → x.idled ≡ 0 → Moved (joins l) m (Rules.schedule x (block l m))
unfolding block
blocks l x m b u w i = as_move (joins l) m x (block l m) _ refl b (u ∙ no_mask) (w ∙ no_mask) refl i (schedules x (block l m) refl)

steps : (m : Machine) → Moved steps_back m (Rules.schedule plain (back m))
unfolding back
steps m = as_move steps_back m plain (back m) _ refl refl no_mask no_mask refl refl (schedules plain (back m) refl)

passeren : Serves 2 Rules.passeren
unfolding Rules.passeren Rules.carry_on Rules.trap
passeren now p a1 a2 a3 m r = go (Rules.exists a1 m) refl
  where
    e : Event
    e = Call now Kernel (negsuc 2) a1 a2 a3

    taken : (c : Bool) → Rules.exists a1 m ≡ true → eqb (Rules.value a1 m) 0 ≡ c
        → Moved (move_by e m p) m (if c then Rules.schedule plain (block (Semaphore a1) m) else Rules.carry_on p plain (with_sem a1 (Rules.value a1 m - 1) m))
    taken true here q = carried e m p _ (joins (Semaphore a1)) (rw here) refl (rw q) (blocks (Semaphore a1) plain m refl refl refl refl)
    taken false here q = carried e m p _ none (rw here) refl (rw q) (as_move none m plain (with_sem a1 (Rules.value a1 m - 1) m) _ refl refl no_mask no_mask refl refl (goes_on plain p _ _ refl r))

    go : (b : Bool) → Rules.exists a1 m ≡ b
        → Moved (move_by e m p) m (if b then (if eqb (Rules.value a1 m) 0 then Rules.schedule plain (block (Semaphore a1) m) else Rules.carry_on p plain (with_sem a1 (Rules.value a1 m - 1) m)) else Rules.trap p m)
    go true here = taken (eqb (Rules.value a1 m) 0) here refl
    go false gone = passes_or_dies e General p m (rw gone) r

verhogen : Serves 3 Rules.verhogen
unfolding Rules.verhogen Rules.carry_on Rules.trap wake
verhogen now p a1 a2 a3 m r = go (Rules.may_rise a1 m) refl
  where
    e : Event
    e = Call now Kernel (negsuc 3) a1 a2 a3

    l : Line
    l = Semaphore a1

    served : Outcome
    served = first (line l m) (Rules.carry_on p plain (with_sem a1 (Rules.value a1 m + 1) m)) (λ q. Rules.carry_on p (waking (q ∷ []) plain) (wake l m))

    go : (b : Bool) → Rules.may_rise a1 m ≡ b → Moved (move_by e m p) m (if b then served else Rules.trap p m)
    go true may = carried e m p _ (first_wakes l) (rw may) refl refl
        (first_cases (Moved (first_wakes l) m) (line l m)
        (λ f. nobody_wakes l m _ f (as_move none m plain (with_sem a1 (Rules.value a1 m + 1) m) _ refl refl no_mask no_mask refl refl (goes_on plain p _ _ refl r)))
        (λ q ys f. as_move (first_wakes l) m (waking (q ∷ []) plain) (wake l m) _ refl refl (ap (λ (ps : List Process). mask (front ps)) (sym f)) no_mask refl refl (goes_on _ p _ (wake l m) refl r)))
    go false shut = passes_or_dies e General p m (rw shut) r

do_io : Serves 4 Rules.do_io
unfolding Rules.do_io Rules.trap
do_io now p a1 a2 a3 m r = go (ltb a1 sub_devices) refl
  where
    e : Event
    e = Call now Kernel (negsuc 4) a1 a2 a3

    go : (b : Bool) → ltb a1 sub_devices ≡ b → Moved (move_by e m p) m (if b then Rules.schedule (naming a1 plain) (block (Device a1) m) else Rules.trap p m)
    go true q = carried e m p _ (joins (Device a1)) (lt-leb sub_devices a1 (ltb-true a1 sub_devices q)) refl refl (blocks (Device a1) (naming a1 plain) m refl refl refl refl)
    go false q = passes_or_dies e General p m (le-leb sub_devices a1 (ltb-false a1 sub_devices q)) r

cpu_time : Serves 5 Rules.cpu_time
unfolding Rules.cpu_time Rules.carry_on
cpu_time now p a1 a2 a3 m r = stays m (giving _ plain) p _ refl refl refl refl refl r

wait_clock : Serves 6 Rules.wait_clock
unfolding Rules.wait_clock
wait_clock now p a1 a2 a3 m r = blocks PseudoClock plain m refl refl refl refl

support : Serves 7 Rules.support
unfolding Rules.support Rules.carry_on
support now p a1 a2 a3 m r = stays m (giving _ plain) p _ refl refl refl refl refl r

identity : Serves 8 Rules.identity
unfolding Rules.identity Rules.carry_on
identity now p a1 a2 a3 m r = stays m (giving _ plain) p _ refl refl refl refl refl r

yield : Serves 9 Rules.yield
unfolding Rules.yield
yield now p a1 a2 a3 m r = steps m

service : (mode : Mode) (a0 : ℤ) (now : ℕ) (p : Process) (a1 a2 a3 : ℕ) (m : Machine) → m.running ≡ p ∷ []
    → Moved (move_by (Call now mode a0 a1 a2 a3) m p) m (Rules.service mode a0 p a1 a2 a3 m)
unfolding Rules.service Rules.services Rules.trap
service User a0 now p a1 a2 a3 m r = passes_or_dies (Call now User a0 a1 a2 a3) General p m refl r
service Kernel (pos n) now p a1 a2 a3 m r = passes_or_dies (Call now Kernel (pos n) a1 a2 a3) General p m refl r
service Kernel (negsuc n) now p a1 a2 a3 m r =
    rw zero-add at (get_or_past Serves 0 Rules.services
    (create, (terminate, (passeren, (verhogen, (do_io, (cpu_time, (wait_clock, (support, (identity, (yield, tt))))))))))
    (λ n h now p a1 a2 a3 m r. passes_or_dies (Call now Kernel (negsuc n) a1 a2 a3) General p m (rw (lt-ltb 10 (suc n) (omega (arith, h)))) r) n) now p a1 a2 a3 m r

-- ── Any event ──

move_runs : (e : Event) (m : Machine) (p : Process) → m.running ≡ p ∷ [] → move e m ≡ move_by e m p
move_runs e m p r = ap (λ (rs : List Process). first (first rs [] (target_by e m)) (if passed_up e m then none else carried_out e m) ends) r

-- an interrupt ends nobody
quiet : (now n x y : ℕ) (m : Machine) → let e = Interrupt now n x y in move e m ≡ carried_out e m
quiet now n x y m = go m.running
  where
    e : Event
    e = Interrupt now n x y

    go : (rs : List Process) → first (first rs [] (λ p. [])) (carried_out e m) ends ≡ carried_out e m
    go [] = refl
    go (p ∷ ps) = refl

interrupt : (n x y : ℕ) (m : Machine) → Single m.running → eqb n 1 && first m.running true (λ p. false) ≡ false
    → Moved (if eqb n 1 then steps_back else (if eqb n 2 then all_wake PseudoClock else first_wakes (Device (Rules.sub_device n x y)))) m (Rules.interrupt n x y m)
unfolding Rules.interrupt Rules.tick Rules.device_done wake wake_all
interrupt n x y m s k = go (eqb n 1) (eqb n 2) k
  where
    d : ℕ
    d = Rules.sub_device n x y

    l : Line
    l = Device d

    go : (b c : Bool) → b && first m.running true (λ p. false) ≡ false
        → Moved (if b then steps_back else (if c then all_wake PseudoClock else first_wakes l)) m
        (if b then Rules.runner m (λ p. Rules.schedule plain (back m)) else (if c then Rules.tick m else Rules.device_done d m))
    go true c k = single_cases (Moved steps_back m) m.running s (λ r. absurd (true≢false (rw r at k))) (λ p r. steps m)
    go false true k = as_move (all_wake PseudoClock) m (waking (line PseudoClock m) plain) (wake_all PseudoClock m) _ refl refl refl no_mask refl refl (resumes _ _ s)
    go false false k =
        first_cases (Moved (first_wakes l) m) (line l m)
        (λ f. nobody_wakes l m _ f (as_move none m (naming d plain) m _ refl refl no_mask no_mask refl refl (resumes _ m s)))
        (λ q ys f. as_move (first_wakes l) m (naming d (waking (q ∷ []) plain)) (wake l m) _ refl refl (ap (λ (ps : List Process). mask (front ps)) (sym f)) no_mask refl refl (resumes _ (wake l m) s))

performed : (e : Event) (m : Machine) → Single m.running → Rules.needs_runner e && first m.running true (λ p. false) ≡ false → Moved (move e m) m (Rules.perform e m)
unfolding Rules.call Rules.exception Rules.needs_runner Rules.trap Rules.tlb
performed (Call now mode a0 a1 a2 a3) m s k =
    let e = Call now mode a0 a1 a2 a3 in
    single_cases (Moved (move e m) m) m.running s (λ r. absurd (true≢false (rw r at k))) (λ p r. rw (move_runs e m p r) (service mode a0 now p a1 a2 a3 m r))
performed (Interrupt now n x y) m s k = rw (quiet now n x y m) (interrupt n x y m s k)
performed (Exception now code) m s k =
    let e = Exception now code in
    single_cases (Moved (move e m) m) m.running s (λ r. absurd (true≢false (rw r at k))) (λ p r. rw (move_runs e m p r)
    (if_cases (Moved (move_by e m p) m) (ltb code 24) (λ _. passes_or_dies e General p m refl r) (λ _. passes_or_dies e Tlb p m refl r)))

-- ── The charge before it changes nothing that the move depends on ──

module _ (now : ℕ) (m : Machine) where
  pub living_charged : (c : ℕ) → living_of c (charge now m) ≡ living_of c m
  living_charged c = sum_charged_same (λ p. count (eqb c p.customer)) (λ g p. refl) now m

  pub denied_charged : (c : ℕ) → Rules.denied c (charge now m) ≡ Rules.denied c m
  unfolding Rules.denied charge
  denied_charged c = ap (λ (n : ℕ). leb (ceiling c m) n || leb (length m.ceilings) c || ltb top m.next) (living_charged c)

  creates_charged : (a2 a3 : ℕ) → creates a2 a3 (charge now m) ≡ creates a2 a3 m
  unfolding charge
  creates_charged a2 a3 = go m.running
    where
      go : (ps : List Process) → first (map (longer (gap now m)) ps) none (λ p. if Rules.denied (child_of p.customer a2) (charge now m) then none else is_born a2 a3)
          ≡ first ps none (λ p. if Rules.denied (child_of p.customer a2) m then none else is_born a2 a3)
      go [] = refl
      go (p ∷ ps) = rw (denied_charged (child_of p.customer a2)) refl

  up_charged : (e : Event) → passed_up e (charge now m) ≡ passed_up e m
  unfolding charge
  up_charged (Call k User a0 a1 a2 a3) = refl
  up_charged (Call k Kernel (pos n) a1 a2 a3) = refl
  up_charged (Call k Kernel (negsuc n) a1 a2 a3) = refl
  up_charged (Interrupt k n x y) = refl
  up_charged (Exception k code) = refl

  calls_charged : (a1 a2 a3 : ℕ) → call_moves a1 a2 a3 (charge now m) ≡ call_moves a1 a2 a3 m
  unfolding charge
  calls_charged a1 a2 a3 = ap (λ (v : Move). v ∷ rest (call_moves a1 a2 a3 m)) (creates_charged a2 a3)

  out_charged : (e : Event) → carried_out e (charge now m) ≡ carried_out e m
  unfolding charge
  out_charged (Call k mode (pos n) a1 a2 a3) = refl
  out_charged (Call k mode (negsuc n) a1 a2 a3) = ap (λ (vs : List Move). get_or vs n none) (calls_charged a1 a2 a3)
  out_charged (Interrupt k n x y) = refl
  out_charged (Exception k code) = refl

  same_name : (g : ℕ) (e : Event) (p : Process) → terminates e (longer g p) ≡ terminates e p
  same_name g (Call k User a0 a1 a2 a3) p = refl
  same_name g (Call k Kernel (pos n) a1 a2 a3) p = refl
  same_name g (Call k Kernel (negsuc n) a1 a2 a3) p = refl
  same_name g (Interrupt k n x y) p = refl
  same_name g (Exception k code) p = refl

  valid_charged : (g : ℕ) (p : Process) (n : ℕ) → valid_name (longer g p) (charge now m) n ≡ valid_name p m n
  unfolding Rules.may_name family
  valid_charged g p n =
      any_many (λ q. eqb n q.id && Rules.may_name p q) (living (charge now m))
      ∙ ap (leb 1) (sum_charged_same (λ q. count (eqb n q.id && Rules.may_name p q)) (λ g q. refl) now m)
      ∙ sym (any_many (λ q. eqb n q.id && Rules.may_name p q) (living m))

  by_charged : (g : ℕ) (e : Event) (p : Process) → target_by e (charge now m) (longer g p) ≡ target_by e m p
  by_charged g e p = rw (up_charged e, same_name g e p, those_alike (valid_name (longer g p) (charge now m)) (valid_name p m) (terminates e p) (everyone _ (valid_charged g p) (terminates e p))) refl

  pub target_charged : (e : Event) → target e (charge now m) ≡ target e m
  unfolding charge
  target_charged e = go m.running
    where
      go : (rs : List Process) → first (map (longer (gap now m)) rs) [] (target_by e (charge now m)) ≡ first rs [] (target_by e m)
      go [] = refl
      go (p ∷ ps) = by_charged (gap now m) e p

  pub move_charged : (e : Event) → move e (charge now m) ≡ move e m
  move_charged e = rw (target_charged e, up_charged e, out_charged e) refl

-- ── An accepted event: m is the machine before, and the gap is charged first ──

pub moves_hold : (m : Machine) (e : Event) → Single m.running → Rules.refusal m e ≡ None → Moved (move e m) (charge (Rules.clock e) m) (step m e)
unfolding Rules.rows charge
moves_hold m e s ok =
    let now = Rules.clock e in
    rw (accepts m e ok, ← move_charged now m e) (performed e (charge now m) (charge_single now m s) (ap (λ (b : Bool). Rules.needs_runner e && b) (same m.running) ∙ (passed m e ok).1.1.1.1.1.0))
  where
    same : (rs : List Process) → first (map (longer (gap (Rules.clock e) m)) rs) true (λ p. false) ≡ first rs true (λ p. false)
    same [] = refl
    same (p ∷ ps) = refl
