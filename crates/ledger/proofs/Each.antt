-- What holds for each of the living, and for a newborn, holds for each of the living after an event. The newborn's
-- words are the event's own.
use mathlib.Core.Path.{sym, subst}
use mathlib.Core.Bool.{not}
use mathlib.Core.List.{List, map}
use Prim.Native.Nat.{ℕ}
use lib.Dec.{eqb}
use lib.IntN.{pos, negsuc}
use Rattle.rules.specs.declared.Event.{Event}
use Rattle.rules.specs.declared.Event.TheVariants.{Call, Interrupt, Exception}
use Rattle.rules.specs.Words.{front, All}
use Rattle.rules.proofs.Cases.{if_cases, first_cases, All-over, All-under, All-append, All-left, All-right, All-those, All-front, All-without, get_or_cases}
use Rattle.rules.specs.Machine.{Process, Seat, Machine, seated_in, living, is_high, at, line, family, child_of, newborn, charge}
use Rattle.rules.proofs.Living.{process, all_living, all_running, all_elsewhere, all_ready, all_waiting, seats_killed}
use Rattle.rules.specs.Answers.{Outcome}
use Rattle.rules.specs.Rules.{denied, value, clock}
use Rattle.ledger.specs.History.{a2_of, a3_of}
use Rattle.ledger.specs.Choices.{Lists, lists_of, joining, chosen}
use Rattle.ledger.specs.Kills.{passed_up, target}
use Rattle.ledger.specs.Moves.{Move, none, steps_back, joins, first_wakes, all_wake, is_born, ends, call_moves, carried_out, move, moved, others, Moved}
use Rattle.ledger.proofs.Lines.{line_all}
use Rattle.ledger.proofs.Chosen.{still_waiting, chosen_each}

-- ── A birth is one with the words of the event ──

-- what is said of a newborn's priority and handle
abbrev Born : (ℕ → ℕ → Type 0) → Move → Type 0
Born Q none = Unit {0}
Born Q steps_back = Unit {0}
Born Q (joins l) = Unit {0}
Born Q (first_wakes l) = Unit {0}
Born Q (all_wake l) = Unit {0}
Born Q (is_born a2 a3) = Q a2 a3
Born Q (ends n) = Unit {0}

out_words : (Q : ℕ → ℕ → Type 0) (e : Event) (m : Machine) → Q (a2_of e) (a3_of e) → Born Q (carried_out e m)
out_words Q (Call now mode (pos n) a1 a2 a3) m q = tt
out_words Q (Call now mode (negsuc n) a1 a2 a3) m q =
    get_or_cases (Born Q) (call_moves a1 a2 a3 m) (
      first_cases (Born Q) m.running (λ _. tt) (λ p _ _. if_cases (Born Q) (denied (child_of p.customer a2) m) (λ _. tt) (λ _. q)),
      (tt, (if_cases (Born Q) (eqb (value a1 m) 0) (λ _. tt) (λ _. tt), (tt, (tt, (tt, (tt, (tt, (tt, (tt, tt))))))))),
    ) tt n
out_words Q (Interrupt now n x y) m q = if_cases (Born Q) (eqb n 1) (λ _. tt) (λ _. if_cases (Born Q) (eqb n 2) (λ _. tt) (λ _. tt))
out_words Q (Exception now code) m q = tt

move_words : (Q : ℕ → ℕ → Type 0) (e : Event) (m : Machine) → Q (a2_of e) (a3_of e) → Born Q (move e m)
move_words Q e m q = first_cases (Born Q) (target e m) (λ _. if_cases (Born Q) (passed_up e m) (λ _. tt) (λ _. out_words Q e m q)) (λ n ns _. tt)

-- ── Each in the lists after a move ──

module _ (P : Process → Type 0) (m : Machine) (h : All P (living m)) where
  runs : All P m.running
  runs = all_running P m h

  -- the two ready lines, and these who join them
  high : All P m.high
  high = All-left P m.high m.low (all_ready P m h)

  low : All P m.low
  low = All-right P m.high m.low (all_ready P m h)

  abbrev Both : Lists → Type 0
  Both l = All P l.high × All P l.low

  join : (ps : List Process) (l : Lists) → Both l → All P ps → Both (joining ps l)
  join ps l b a = (All-append P l.high _ b.0 (All-those P is_high ps a), All-append P l.low _ b.1 (All-those P (λ p. not (is_high p)) ps a))

  wts : All (λ w. P w.process) m.waiting
  wts = All-under P process m.waiting (all_waiting P m h)

  on_each : (v : Move) → All P (moved v m).on
  on_each none = runs
  on_each steps_back = tt
  on_each (joins l) = tt
  on_each (first_wakes l) = runs
  on_each (all_wake l) = runs
  on_each (is_born a2 a3) = runs
  on_each (ends n) = tt

  ready_each : (v : Move) → Born (λ a2 a3. All P (map (λ p. newborn p a2 a3 m) m.running)) v → Both (moved v m)
  ready_each none s = (high, low)
  ready_each steps_back s = join m.running (lists_of m) (high, low) runs
  ready_each (joins l) s = (high, low)
  ready_each (first_wakes l) s = join (front (line l m)) (lists_of m) (high, low) (All-front P (line l m) (line_all P l m h))
  ready_each (all_wake l) s = join (line l m) (lists_of m) (high, low) (line_all P l m h)
  ready_each (is_born a2 a3) s = join (map (λ p. newborn p a2 a3 m) m.running) (lists_of m) (high, low) s
  ready_each (ends n) s =
      let l : Lists = joining m.running (lists_of m) in
      let k : Both l = join m.running (lists_of m) (high, low) runs in
      (All-those P (λ p. not (family n p)) l.high k.0, All-those P (λ p. not (family n p)) l.low k.1)

  waiting_each : (v : Move) → All (λ w. P w.process) (moved v m).waiting
  waiting_each none = wts
  waiting_each steps_back = wts
  waiting_each (joins l) = All-append (λ w. P w.process) m.waiting _ wts (All-over (λ w. P w.process) (λ p. record { process = p; line = l }) m.running runs)
  waiting_each (first_wakes l) = All-without (λ w. P w.process) (at l) m.waiting wts
  waiting_each (all_wake l) = All-those (λ w. P w.process) (λ w. not (at l w)) m.waiting wts
  waiting_each (is_born a2 a3) = wts
  waiting_each (ends n) = All-those (λ w. P w.process) (λ w. not (family n w.process)) m.waiting wts

  others_each : (v : Move) → All P (seated_in (others v m))
  others_each none = all_elsewhere P m h
  others_each steps_back = all_elsewhere P m h
  others_each (joins l) = all_elsewhere P m h
  others_each (first_wakes l) = all_elsewhere P m h
  others_each (all_wake l) = all_elsewhere P m h
  others_each (is_born a2 a3) = all_elsewhere P m h
  others_each (ends n) = subst (All P) (sym (seats_killed n m.elsewhere)) (All-those P (λ p. not (family n p)) (seated_in m.elsewhere) (all_elsewhere P m h))

  each_after : (v : Move) (o : Outcome) → Moved v m o → Born (λ a2 a3. All P (map (λ p. newborn p a2 a3 m) m.running)) v → All P (living o.after)
  each_after v o w s =
      let c = chosen_each P (moved v m) (on_each v) (ready_each v s).0 (ready_each v s).1 in
      let waits : All P (map process (chosen (moved v m)).waiting) = rw (still_waiting (moved v m)) (All-over P process (moved v m).waiting (waiting_each v)) in
      all_living P o.after
      (subst (λ (l : Lists). All P l.on) (sym w.places) c.0)
      (subst (λ (ss : List Seat). All P (seated_in ss)) (sym w.elsewhere) (others_each v))
      (All-append P o.after.high o.after.low (subst (λ (l : Lists). All P l.high) (sym w.places) c.1) (subst (λ (l : Lists). All P l.low) (sym w.places) c.2))
      (subst (λ (l : Lists). All P (map process l.waiting)) (sym w.places) waits)

-- an event in the machine m: the gap is charged first
pub moved_each : (P : Process → Type 0) (m : Machine) (e : Event) (o : Outcome) → let k = charge (clock e) m in Moved (move e m) k o
    → All P (living k) → All P (map (λ p. newborn p (a2_of e) (a3_of e) k) k.running) → All P (living o.after)
moved_each P m e o v h new = let k = charge (clock e) m in each_after P k h (move e m) o v (move_words (λ a2 a3. All P (map (λ p. newborn p a2 a3 k) k.running)) e m new)
