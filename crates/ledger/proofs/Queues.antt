-- Why the lines and the count that events and answers tell are the machine's, and who is run is the one whose turn it
-- is.
use Rattle.std.specs.Prelude.{if◌then◌else◌, Option, None, option_to_list}
use mathlib.Core.Path.{◌≡◌, refl, sym, ◌∙◌, ap, ap₂, subst}
use mathlib.Core.Bool.{Bool, true, false, not, ◌||◌, true≢false}
use mathlib.Core.List.{List, [], ◌∷◌, ◌++◌, map, map-append, append-nil}
use Prim.Native.Nat.{ℕ, suc, ◌+◌, ◌≤◌}
use native.Mathlib.Omega.{arith}
use lib.Dec.{eqb, leb, ltb}
use lib.IntN.{pos, negsuc}
use lib.ListN.{length}
use borrow.Author.Tests.{eq-eqb, ltb-true, lt-ltb}
use Rattle.rules.specs.declared.Mode.TheVariants.{User, Kernel}
use Rattle.rules.specs.declared.Event.{Event}
use Rattle.rules.specs.declared.Event.TheVariants.{Call, Interrupt, Exception}
use Rattle.rules.specs.declared.Arrival.{Arrival}
use Rattle.rules.specs.declared.Line.{Line}
use Rattle.rules.specs.declared.Action.{Action}
use Rattle.rules.specs.declared.Action.TheVariants.{CarryOn, Run, Wait, Halt, Panic, PassUp, Nothing}
use Rattle.rules.specs.declared.Answer.{Answer}
use Rattle.rules.specs.Words.{first, those, front, rest, without, any, among, sum, count, many, Single, All}
use Rattle.rules.specs.Numbers.{most_in_a_row}
use Rattle.rules.proofs.Cases.{if_cases, first_cases, get_or_at, All-both, All-each, All-left, All-right, All-those, All-without, All-under}
use Rattle.rules.proofs.Sums.{sum_over, sum_split, sum_front}
use Rattle.rules.proofs.Lines.{count_le}
use Rattle.rules.specs.Machine.{Process, Waiter, Machine, living, is_high, high_by, next_of, at, line, family, family_of, lowest_free, child_of, newborn, gap, charge, turn, fresh}
use Rattle.rules.proofs.Living.{process, living_sum, all_running, all_ready, all_waiting}
use Rattle.rules.specs.Answers.{Outcome, mask}
use Rattle.rules.specs.Rules
use Rattle.rules.specs.Rules.{denied, value, step, arrive, answers, run}
use Rattle.rules.specs.Tables.{slots_of, Sound, InOwnLine, Tables}
use Rattle.rules.proofs.Lined.{joins_own}
use Rattle.rules.proofs.Walk.{charge_single}
use Rattle.rules.proofs.Sound.{Settled, sound_charged, settled}
use Rattle.rules.proofs.Tables.{sound, tables_turned, arrives}
use Rattle.rules.proofs.Turns.{high_turned, low_turned, four_turned, waiting_turned}
use Rattle.rules.proofs.Arrivals.{arrive_cases}
use Rattle.ledger.specs.History.{mask_bits, slots_in, Birth, Past, Queues, priority_by, high_in, keeps_running, slot_run, ended_slots, woken_slots, goes_back, born_by, spared_slots, leaver, comers, ready_then, run_from, queues_after, accepted, onward, turned, arrived, first_past, past}
use Rattle.ledger.specs.Choices.{whose_turn, Choosing, Queued, Lists, lists_of, joining, chosen}
use Rattle.ledger.specs.Kills.{passed_up, terminates, valid_name, target_by, target}
use Rattle.ledger.specs.Moves.{Move, none, steps_back, joins, first_wakes, all_wake, is_born, ends, call_moves, carried_out, move, moved, woken, ended, newborn_part, Acts, Moved}
use Rattle.ledger.proofs.Lists.{no_one, everyone, all_pass, those_alike}
use Rattle.ledger.proofs.Verdicts.{by_verdict}
use Rattle.ledger.proofs.Lines.{line_few}
use Rattle.ledger.proofs.Chosen.{chosen_cases, unchosen_each}
use Rattle.ledger.proofs.Picked.{Once, those_keys, picked, nobody_leaves, first_leaves, told, first_goes, mask_tells}
use Rattle.ledger.proofs.Moves.{move_charged, moves_hold}
use Rattle.ledger.proofs.Births.{Linked, slots_longer, linked, linked_turned, turned_twice, linked_arrives}
use Rattle.ledger.proofs.Refusals.{verdict}
use Rattle.ledger.proofs.Spared.{spares, lists_sum}
use Rattle.ledger.proofs.Order.{joiners, line_is}

-- ── What an event tells of the move that it makes ──

abbrev Suits : Event → Machine → Move → Type 0
Suits e m none = Unit {0}
Suits e m steps_back = goes_back e ≡ true
Suits e m (joins l) = goes_back e ≡ false
Suits e m (first_wakes l) = Unit {0}
Suits e m (all_wake l) = Unit {0}
Suits e m (is_born a2 a3) = first m.running ⊥ (λ p. Unit {0})
Suits e m (ends n) = goes_back e ≡ false → those (λ p. not (family n p)) m.running ≡ []

out_suits : (e : Event) (m : Machine) → Suits e m (carried_out e m)
out_suits (Call now mode (pos n) a1 a2 a3) m = tt
out_suits (Call now mode (negsuc n) a1 a2 a3) m =
    get_or_at (λ n. Suits (Call now mode (negsuc n) a1 a2 a3) m) (call_moves a1 a2 a3 m) (
      first_cases (Suits (Call now mode (negsuc 0) a1 a2 a3) m) m.running (λ _. tt) (λ p ps r. if_cases (Suits (Call now mode (negsuc 0) a1 a2 a3) m) (denied (child_of p.customer a2) m) (λ _. tt) (λ _. rw r tt)),
      (tt, (if_cases (Suits (Call now mode (negsuc 2) a1 a2 a3) m) (eqb (value a1 m) 0) (λ _. refl) (λ _. tt), (tt, (refl, (tt, (refl, (tt, (tt, (refl, tt))))))))),
    ) (λ n. tt) n
out_suits (Interrupt now n x y) m = let e = Interrupt now n x y in
    if_cases (Suits e m) (eqb n 1) (λ q. q) (λ _. if_cases (Suits e m) (eqb n 2) (λ _. tt) (λ _. tt))
out_suits (Exception now code) m = tt

-- who is named by a call is named by −2
names_one : (e : Event) (p : Process) (t : ℕ → Bool) (n : ℕ) (ns : List ℕ) → those t (terminates e p) ≡ n ∷ ns → goes_back e ≡ true
names_one (Call now User a0 a1 a2 a3) p t n ns h = absurd (no_one n ns (sym h))
names_one (Call now Kernel (pos k) a1 a2 a3) p t n ns h = absurd (no_one n ns (sym h))
names_one (Call now Kernel (negsuc k) a1 a2 a3) p t n ns h = go (eqb (suc k) 2) h
  where
    go : (b : Bool) → those t (if b then (if eqb a1 0 then p.id else a1) ∷ [] else []) ≡ n ∷ ns → (b || eqb (suc k) 10) ≡ true
    go true h = refl
    go false h = absurd (no_one n ns (sym h))
names_one (Interrupt now k x y) p t n ns h = absurd (no_one n ns (sym h))
names_one (Exception now code) p t n ns h = absurd (no_one n ns (sym h))

own_end : (p : Process) → those (λ q. not (family p.id q)) (p ∷ []) ≡ []
unfolding family
own_end p = rw (eq-eqb p.id p.id refl) refl

move_suits : (e : Event) (m : Machine) → Single m.running → Suits e m (move e m)
move_suits e m one =
    first_cases (Suits e m) (target e m) (λ _. if_cases (Suits e m) (passed_up e m) (λ _. tt) (λ _. out_suits e m))
    (λ n ns t back. go m.running one n ns t back)
  where
    by : (p : Process) (n : ℕ) (ns : List ℕ) (b : Bool) (c : Bool) → (if b then (if c then p.id ∷ [] else []) else those (valid_name p m) (terminates e p)) ≡ n ∷ ns → goes_back e ≡ false
        → those (λ q. not (family n q)) (p ∷ []) ≡ []
    by p n ns true true t back = let z : n ≡ p.id = cc in rw z (own_end p)
    by p n ns true false t back = absurd (no_one n ns (sym t))
    by p n ns false c t back = absurd (true≢false (sym (names_one e p (valid_name p m) n ns t) ∙ back))

    go : (ps : List Process) → Single ps → (n : ℕ) (ns : List ℕ) → first ps [] (target_by e m) ≡ n ∷ ns → goes_back e ≡ false → those (λ q. not (family n q)) ps ≡ []
    go [] s n ns t back = refl
    go (p ∷ ps) s n ns t back = rw s (by p n ns (passed_up e m) (eqb p.handle 0) t back)

-- ── One event: from the machine k, its gap charged, to the outcome o ──

abbrev slot_of : Process → ℕ
slot_of p = p.slot

abbrev waiter_slot : Waiter → ℕ
waiter_slot w = w.process.slot

-- the lists, by their slots
abbrev by_slots : Lists → Queues
by_slots l = record { high = slots_of l.high; low = slots_of l.low; four = l.four; waiting = map waiter_slot l.waiting }

-- who has left the processor and lives on
abbrev leaving : Move → Machine → List Process
leaving none m = []
leaving steps_back m = m.running
leaving (joins l) m = m.running
leaving (first_wakes l) m = []
leaving (all_wake l) m = []
leaving (is_born a2 a3) m = []
leaving (ends n) m = those (λ p. not (family n p)) m.running

-- who waited, and still does or ends
abbrev asleep : Move → Machine → List Waiter
asleep none m = m.waiting
asleep steps_back m = m.waiting
asleep (joins l) m = m.waiting
asleep (first_wakes l) m = without (at l) m.waiting
asleep (all_wake l) m = those (λ w. not (at l w)) m.waiting
asleep (is_born a2 a3) m = m.waiting
asleep (ends n) m = m.waiting

if_same : {A : Type 0} (b : Bool) (x : A) → (if b then x else x) ≡ x
if_same true x = refl
if_same false x = refl

any_over : (t : Process → Bool) (ws : List Waiter) → any t (map process ws) ≡ any (λ w. t w.process) ws
any_over t [] = refl
any_over t (w ∷ ws) = ap (λ (b : Bool). t w.process || b) (any_over t ws)

front_over : (ws : List Waiter) → front (map process ws) ≡ map process (front ws)
front_over [] = refl
front_over (w ∷ ws) = refl

slots_over : (ws : List Waiter) → slots_of (map process ws) ≡ map waiter_slot ws
slots_over [] = refl
slots_over (w ∷ ws) = ap (λ (ns : List ℕ). w.process.slot ∷ ns) (slots_over ws)

slots_join : (l : Line) (ps : List Process) → map waiter_slot (map (λ p. record { process = p; line = l }) ps) ≡ slots_of ps
slots_join l [] = refl
slots_join l (p ∷ ps) = ap (λ (ns : List ℕ). p.slot ∷ ns) (slots_join l ps)

module _ (k : Machine) (g : Sound k) (few : k.slots ≤ mask_bits) where
  once_living : Once slot_of (living k)
  once_living s = omega (arith, g.slots s, count_le (ltb s k.slots))

  once_waiting : Once waiter_slot k.waiting
  once_waiting s = omega (arith, once_living s, living_sum (λ p. count (eqb s p.slot)) k, sum_over (λ p. count (eqb s p.slot)) process k.waiting)

  -- a part of the living: a mask tells their slots
  part_told : (ps : List Process) → ((f : Process → ℕ) → sum f ps ≤ sum f (living k)) → (s : ℕ) → among s (slots_in mask_bits (mask ps)) ≡ any (λ p. eqb s p.slot) ps
  part_told ps part = mask_tells ps (λ s. omega (arith, part (λ p. count (eqb s p.slot)), g.slots s, wider s (ltb s k.slots) refl))
    where
      wider : (s : ℕ) (b : Bool) → ltb s k.slots ≡ b → count b ≤ count (ltb s mask_bits)
      wider s true e = let l = ltb-true s k.slots e in rw (lt-ltb s mask_bits (omega arith)) (omega arith)
      wider s false e = omega arith

  ended_part : (v : Move) (f : Process → ℕ) → sum f (ended v k) ≤ sum f (living k)
  unfolding family_of
  ended_part none f = omega arith
  ended_part steps_back f = omega arith
  ended_part (joins l) f = omega arith
  ended_part (first_wakes l) f = omega arith
  ended_part (all_wake l) f = omega arith
  ended_part (is_born a2 a3) f = omega arith
  ended_part (ends n) f = omega (arith, sum_split f (family n) (living k))

  woken_part : (v : Move) (f : Process → ℕ) → sum f (woken v k) ≤ sum f (living k)
  woken_part none f = omega arith
  woken_part steps_back f = omega arith
  woken_part (joins l) f = omega arith
  woken_part (first_wakes l) f = omega (arith, sum_front f (line l k), line_few f l k, living_sum f k)
  woken_part (all_wake l) f = omega (arith, line_few f l k, living_sum f k)
  woken_part (is_born a2 a3) f = omega arith
  woken_part (ends n) f = omega arith

  -- who ends, and who is woken, by their slots
  spared_is : (v : Move) → All (λ p. not (any (λ q. eqb p.slot q.slot) (ended v k)) ≡ spares v p) (living k)
  unfolding family_of
  spared_is none = everyone _ (λ p. refl) (living k)
  spared_is steps_back = everyone _ (λ p. refl) (living k)
  spared_is (joins l) = everyone _ (λ p. refl) (living k)
  spared_is (first_wakes l) = everyone _ (λ p. refl) (living k)
  spared_is (all_wake l) = everyone _ (λ p. refl) (living k)
  spared_is (is_born a2 a3) = everyone _ (λ p. refl) (living k)
  spared_is (ends n) = All-each _ _ (λ p e. ap not e) (living k) (picked slot_of (family n) (living k) once_living)

  -- whose slot is that of one of these
  abbrev called : List Process → Waiter → Bool
  called ps w = any (λ p. eqb w.process.slot p.slot) ps

  called_over : (fs ws : List Waiter) → All (λ w. called (map process fs) w ≡ told waiter_slot (λ v. true) fs w) ws
  called_over fs ws = everyone _ (λ w. any_over (λ p. eqb w.process.slot p.slot) fs) ws

  none_called : (ws : List Waiter) → (those (called []) ws ≡ []) × (those (λ w. not (called [] w)) ws ≡ ws)
  none_called [] = (refl, refl)
  none_called (w ∷ ws) = let ih = none_called ws in (ih.0, ap (λ (vs : List Waiter). w ∷ vs) ih.1)

  woken_is : (v : Move) → (map waiter_slot (those (called (woken v k)) k.waiting) ≡ slots_of (woken v k)) × (those (λ w. not (called (woken v k) w)) k.waiting ≡ asleep v k)
  unfolding line
  woken_is none = let c = none_called k.waiting in (ap (map waiter_slot) c.0, c.1)
  woken_is steps_back = let c = none_called k.waiting in (ap (map waiter_slot) c.0, c.1)
  woken_is (joins l) = let c = none_called k.waiting in (ap (map waiter_slot) c.0, c.1)
  woken_is (first_wakes l) =
      let ws : List Waiter = k.waiting in
      let fs : List Waiter = front (those (at l) ws) in
      let f = first_goes waiter_slot (at l) ws once_waiting in
      let same = called_over fs ws in
      rw (front_over (those (at l) ws)) (
        ap (map waiter_slot) (those_alike _ _ ws same ∙ f.0) ∙ sym (slots_over fs),
        those_alike _ _ ws (All-each _ _ (λ w e. ap not e) ws same) ∙ f.1,
      )
  woken_is (all_wake l) =
      let ws : List Waiter = k.waiting in
      let fs : List Waiter = those (at l) ws in
      let same : All (λ w. called (map process fs) w ≡ at l w) ws = All-both _ _ _ (λ w a b. a ∙ b) ws (called_over fs ws) (picked waiter_slot (at l) ws once_waiting) in (
        ap (map waiter_slot) (those_alike _ _ ws same) ∙ sym (slots_over fs),
        those_alike _ _ ws (All-each _ _ (λ w e. ap not e) ws same),
      )
  woken_is (is_born a2 a3) = let c = none_called k.waiting in (ap (map waiter_slot) c.0, c.1)
  woken_is (ends n) = let c = none_called k.waiting in (ap (map waiter_slot) c.0, c.1)

-- ── The choice, of any lists ──

no_run : (x : Action) → keeps_running x ≡ true → slot_run x ≡ []
no_run (CarryOn s) e = refl
no_run (Run s) e = absurd (true≢false (sym e))
no_run Wait e = refl
no_run Halt e = refl
no_run Panic e = refl
no_run (PassUp s c) e = refl
no_run Nothing e = refl

-- who is chosen where nobody keeps running
picks : (l : Lists) → l.on ≡ [] → (chosen l).on ≡ front (next_of l.high l.low l.four)
picks l nobody =
    let Q : Lists → Type 0 = λ (c : Lists). c.on ≡ front (next_of l.high l.low l.four) in
    first_cases Q l.on (λ _. first_cases Q (next_of l.high l.low l.four) (λ e. nobody ∙ ap front (sym e)) (λ p ps e. ap front (sym e)))
    (λ p ps e. absurd (no_one p ps (sym e ∙ nobody)))

turn_of : (hs ls : List Process) (four : ℕ) → slots_of (front (next_of hs ls four)) ≡ front (if leb most_in_a_row four then slots_of ls ++ slots_of hs else slots_of hs ++ slots_of ls)
turn_of hs ls four = go hs ls (leb most_in_a_row four)
  where
    go : (hs ls : List Process) (b : Bool) → slots_of (front (if first ls false (λ p. first hs true (λ q. b)) then ls else hs)) ≡ front (if b then slots_of ls ++ slots_of hs else slots_of hs ++ slots_of ls)
    go [] [] true = refl
    go [] [] false = refl
    go [] (l ∷ ls) true = refl
    go [] (l ∷ ls) false = refl
    go (h ∷ hs) [] true = refl
    go (h ∷ hs) [] false = refl
    go (h ∷ hs) (l ∷ ls) true = refl
    go (h ∷ hs) (l ∷ ls) false = refl

in_turn_of : (l : Lists) (x : Action) → Acts l x → keeps_running x ≡ false → slot_run x ≡ whose_turn (by_slots l)
in_turn_of l x acts off = go l.on refl acts
  where
    go : (on : List Process) → l.on ≡ on → first on ((keeps_running x ≡ false) × (slot_run x ≡ slots_of (chosen l).on)) (λ p. keeps_running x ≡ true) → slot_run x ≡ whose_turn (by_slots l)
    go [] e s = s.1 ∙ ap slots_of (picks l e) ∙ turn_of l.high l.low l.four
    go (p ∷ ps) e s = absurd (true≢false (sym s ∙ off))

first_slots : (ps : List Process) (n b : ℕ) → first (slots_of ps) n (λ s. b) ≡ first ps n (λ p. b)
first_slots [] n b = refl
first_slots (p ∷ ps) n b = refl

module _ (bs : List Birth) (l : Lists) (x : Action) (once : (s : ℕ) → many (λ p. eqb s p.slot) l.on + (many (λ p. eqb s p.slot) l.high + many (λ p. eqb s p.slot) l.low) ≤ 1)
    (own : InOwnLine l.high l.low) (ranks : All (λ p. high_in p.slot bs ≡ is_high p) l.high × All (λ p. high_in p.slot bs ≡ is_high p) l.low) where
  ToldSo : Lists → Type 0
  ToldSo c =
      first l.on ((keeps_running x ≡ false) × (slot_run x ≡ slots_of c.on)) (λ p. keeps_running x ≡ true)
      → first (slot_run x) (by_slots l) (run_from bs (by_slots l)) ≡ by_slots c

  abbrev queues : List ℕ → List ℕ → ℕ → Queues
  queues hs ls n = record { high = hs; low = ls; four = n; waiting = map waiter_slot l.waiting }

  same_queues : {hs hs' ls ls' : List ℕ} {n n' : ℕ} → hs ≡ hs' → ls ≡ ls' → n ≡ n' → queues hs ls n ≡ queues hs' ls' n'
  same_queues {hs = hs} {hs' = hs'} {ls = ls} {ls' = ls'} {n = n} {n' = n'} a b c = ap₂ (λ (hs ls : List ℕ). queues hs ls n) a b ∙ ap (queues hs' ls') c

  low_runs : (p : Process) (ps : List Process) → l.low ≡ p ∷ ps
      → run_from bs (by_slots l) p.slot ≡ queues (slots_of l.high) (slots_of (rest l.low)) 0
  low_runs p ps e =
      let one = once p.slot in
      let here : 1 ≤ many (λ q. eqb p.slot q.slot) l.low = rw (e, eq-eqb p.slot p.slot refl) (omega arith) in
      let low : high_in p.slot bs ≡ false = (rw e at ranks.1).0 ∙ (rw e at own.1).0 in
      same_queues (nobody_leaves slot_of p.slot l.high (omega (arith, one, here)))
      (rw e (first_leaves slot_of p ps (λ s. rw e at (few s)))) (rw (e, low) refl)
    where
      few : (s : ℕ) → many (λ q. eqb s q.slot) l.low ≤ 1
      few s = omega (arith, once s)

  high_runs : (p : Process) (ps : List Process) → l.high ≡ p ∷ ps
      → run_from bs (by_slots l) p.slot ≡ queues (slots_of (rest l.high)) (slots_of l.low) (first l.low 0 (λ q. suc l.four))
  high_runs p ps e =
      let one = once p.slot in
      let here : 1 ≤ many (λ q. eqb p.slot q.slot) l.high = rw (e, eq-eqb p.slot p.slot refl) (omega arith) in
      let high : high_in p.slot bs ≡ true = (rw e at ranks.0).0 ∙ (rw e at own.0).0 in
      same_queues (rw e (first_leaves slot_of p ps (λ s. rw e at (few s))))
      (nobody_leaves slot_of p.slot l.low (omega (arith, one, here))) (rw high (first_slots l.low 0 (suc l.four)))
    where
      few : (s : ℕ) → many (λ q. eqb s q.slot) l.high ≤ 1
      few s = omega (arith, once s)

  settle : Acts l x → first (slot_run x) (by_slots l) (run_from bs (by_slots l)) ≡ by_slots (chosen l)
  unfolding ToldSo
  settle =
      chosen_cases ToldSo l
      (λ p ps e s. rw (no_run x (rw e at s)) refl)
      (λ d e f s. rw (rw d at s).1 refl)
      (λ p ps d e s. rw (rw d at s).1 (low_runs p ps e))
      (λ p ps d e s. rw (rw d at s).1 (high_runs p ps e))

-- each in its own line after the move
own_moved : (v : Move) (m : Machine) → InOwnLine m.high m.low → InOwnLine (moved v m).high (moved v m).low
own_moved none m h = h
own_moved steps_back m h = joins_own m.running m h
own_moved (joins l) m h = h
own_moved (first_wakes l) m h = joins_own (front (line l m)) m h
own_moved (all_wake l) m h = joins_own (line l m) m h
own_moved (is_born a2 a3) m h = joins_own (map (λ p. newborn p a2 a3 m) m.running) m h
own_moved (ends n) m h =
    let l : Lists = joining m.running (lists_of m) in
    let k : InOwnLine l.high l.low = joins_own m.running m h in
    (All-those (λ p. is_high p ≡ true) (λ p. not (family n p)) l.high k.0, All-those (λ p. is_high p ≡ false) (λ p. not (family n p)) l.low k.1)

-- ── The lines before the choice ──

four_moved : (v : Move) (m : Machine) → (moved v m).four ≡ m.four
four_moved none m = refl
four_moved steps_back m = refl
four_moved (joins l) m = refl
four_moved (first_wakes l) m = refl
four_moved (all_wake l) m = refl
four_moved (is_born a2 a3) m = refl
four_moved (ends n) m = refl

-- both parts, and so all
all_parts : (P : Process → Type 0) (t : Process → Bool) (ps : List Process) → All P (those t ps) → All P (those (λ p. not (t p)) ps) → All P ps
all_parts P t [] a b = tt
all_parts P t (p ∷ ps) a b = go (t p) a b (all_parts P t ps)
  where
    go : (c : Bool) → All P (if c then p ∷ those t ps else those t ps) → All P (if not c then p ∷ those (λ p. not (t p)) ps else those (λ p. not (t p)) ps)
        → (All P (those t ps) → All P (those (λ p. not (t p)) ps) → All P ps) → P p × All P ps
    go true a b ih = (a.0, ih a.1 b)
    go false a b ih = (b.0, ih a b.1)

module _ (h : Past) (e : Event) (k : Machine) (o : Outcome) (w : Moved (move e k) k o) (one : Single k.running) (g : Sound k) (few : k.slots ≤ mask_bits) (runner : h.runner ≡ slots_of k.running) (q : Queued h.queues k) where
  abbrev v : Move
  v = move e k

  abbrev a : Answer
  a = o.answer

  abbrev bs : List Birth
  bs = born_by e a.newborn h

  ended_told : (s : ℕ) → among s (ended_slots a) ≡ any (λ p. eqb s p.slot) (ended v k)
  ended_told s = ap (λ (x : ℕ). among s (slots_in mask_bits x)) w.ended_mask ∙ part_told k g few (ended v k) (ended_part k g few v) s

  woken_told : (s : ℕ) → among s (woken_slots a) ≡ any (λ p. eqb s p.slot) (woken v k)
  woken_told s = ap (λ (x : ℕ). among s (slots_in mask_bits x)) w.woken_mask ∙ part_told k g few (woken v k) (woken_part k g few v) s

  -- those of the living who are spared
  abbrev Spared : Process → Type 0
  Spared p = not (among p.slot (ended_slots a)) ≡ spares v p

  all_spared : All Spared (living k)
  all_spared = All-each _ _ (λ p s. ap not (ended_told p.slot) ∙ s) (living k) (spared_is k g few v)

  spared_of : (ps : List Process) → All Spared ps → spared_slots a (slots_of ps) ≡ slots_of (those (spares v) ps)
  spared_of ps h = those_keys slot_of (λ s. not (among s (ended_slots a))) ps ∙ ap slots_of (those_alike _ _ ps h)

  spared_waiters : (ws : List Waiter) → All (λ w. Spared w.process) ws → spared_slots a (map waiter_slot ws) ≡ map waiter_slot (those (λ w. spares v w.process) ws)
  spared_waiters ws h = those_keys waiter_slot (λ s. not (among s (ended_slots a))) ws ∙ ap (map waiter_slot) (those_alike _ _ ws h)

  -- whoever ran here and left
  keeps_on : (A : Type 0) (ps : List Process) → first ps A (λ p. keeps_running a.action ≡ true) → h.runner ≡ slots_of ps → leaver h a ≡ []
  keeps_on A [] s r = rw r (if_same (keeps_running a.action) [])
  keeps_on A (p ∷ ps) s r = rw s refl

  leaves : keeps_running a.action ≡ false → leaver h a ≡ slots_of (those (spares v) k.running)
  leaves off = rw off (ap (spared_slots a) runner ∙ spared_of k.running (all_running Spared k all_spared))

  leaver_is : leaver h a ≡ slots_of (leaving v k)
  leaver_is = go v w.action leaves
    where
      go : (u : Move) → Acts (moved u k) a.action → (keeps_running a.action ≡ false → leaver h a ≡ slots_of (those (spares u) k.running)) → leaver h a ≡ slots_of (leaving u k)
      go none s l = keeps_on _ k.running s runner
      go steps_back s l = l s.0 ∙ ap slots_of (all_pass k.running)
      go (joins j) s l = l s.0 ∙ ap slots_of (all_pass k.running)
      go (first_wakes j) s l = keeps_on _ k.running s runner
      go (all_wake j) s l = keeps_on _ k.running s runner
      go (is_born a2 a3) s l = keeps_on _ k.running s runner
      go (ends i) s l = l s.0

  -- who becomes ready
  woken_are : those (λ s. among s (woken_slots a)) h.queues.waiting ≡ slots_of (woken v k)
  woken_are =
      ap (those (λ s. among s (woken_slots a))) q.waiting
      ∙ those_keys waiter_slot (λ s. among s (woken_slots a)) k.waiting
      ∙ ap (map waiter_slot) (those_alike _ _ k.waiting (everyone _ (λ w. woken_told w.process.slot) k.waiting))
      ∙ (woken_is k g few v).0

  comers_are : comers h e a ≡ slots_of (joiners v k)
  comers_are =
      ap (λ (b : Option ℕ). option_to_list b ++ (those (λ s. among s (woken_slots a)) h.queues.waiting ++ (if goes_back e then leaver h a else []))) w.newborn_told
      ∙ ap₂ (λ (ws ls : List ℕ). option_to_list (newborn_part v k) ++ (ws ++ (if goes_back e then ls else []))) woken_are leaver_is
      ∙ go v (move_suits e k one)
    where
      born : (ps : List Process) → Single ps → first ps ⊥ (λ p. Unit {0}) → (u : Process → Process) → ((p : Process) → (u p).slot ≡ lowest_free k) → lowest_free k ∷ [] ≡ slots_of (map u ps)
      born [] s f u e = absurd f
      born (p ∷ ps) s f u e = rw s (ap (λ (n : ℕ). n ∷ []) (sym (e p)))

      awake : (ns : List ℕ) → ns ++ (if goes_back e then [] else []) ≡ ns
      awake ns = ap (λ (ms : List ℕ). ns ++ ms) (if_same (goes_back e) []) ∙ append-nil ns

      go : (u : Move) → Suits e k u → option_to_list (newborn_part u k) ++ (slots_of (woken u k) ++ (if goes_back e then slots_of (leaving u k) else [])) ≡ slots_of (joiners u k)
      go none s = if_same (goes_back e) []
      go steps_back s = rw s refl
      go (joins l) s = rw s refl
      go (first_wakes l) s = awake (slots_of (front (line l k)))
      go (all_wake l) s = awake (slots_of (line l k))
      go (is_born a2 a3) s = awake (lowest_free k ∷ []) ∙ born k.running one s (λ p. newborn p a2 a3 k) (λ p. refl)
      go (ends n) s = back (goes_back e) refl
        where
          back : (b : Bool) → goes_back e ≡ b → (if b then slots_of (those (λ p. not (family n p)) k.running) else []) ≡ slots_of (those (λ p. not (family n p)) k.running)
          back true t = refl
          back false t = ap slots_of (sym (s t))

  -- who waits
  asleep_are : those (λ s. not (among s (woken_slots a))) h.queues.waiting ≡ map waiter_slot (asleep v k)
  asleep_are =
      ap (those (λ s. not (among s (woken_slots a)))) q.waiting
      ∙ those_keys waiter_slot (λ s. not (among s (woken_slots a))) k.waiting
      ∙ ap (map waiter_slot) (those_alike _ _ k.waiting (everyone _ (λ w. ap not (woken_told w.process.slot)) k.waiting) ∙ (woken_is k g few v).1)

  asleep_spared : (u : Move) → All (λ w. Spared w.process) (asleep u k)
  asleep_spared u = go u (All-under Spared process k.waiting (all_waiting Spared k all_spared))
    where
      go : (u : Move) → All (λ w. Spared w.process) k.waiting → All (λ w. Spared w.process) (asleep u k)
      go none s = s
      go steps_back s = s
      go (joins l) s = s
      go (first_wakes l) s = All-without (λ w. Spared w.process) (at l) k.waiting s
      go (all_wake l) s = All-those (λ w. Spared w.process) (λ w. not (at l w)) k.waiting s
      go (is_born a2 a3) s = s
      go (ends n) s = s

  waiting_are : (ready_then h e a).waiting ≡ map waiter_slot (moved v k).waiting
  waiting_are =
      ap₂ (λ (ws ls : List ℕ). spared_slots a ws ++ (if goes_back e then [] else ls)) asleep_are leaver_is
      ∙ ap (λ (ws : List ℕ). ws ++ (if goes_back e then [] else slots_of (leaving v k))) (spared_waiters (asleep v k) (asleep_spared v))
      ∙ go v (move_suits e k one)
    where
      all_stay : (ws : List Waiter) (ls : List ℕ) → ls ≡ [] → map waiter_slot (those (λ w. true) ws) ++ ls ≡ map waiter_slot ws
      all_stay ws ls n = ap₂ (λ (vs : List Waiter) (ns : List ℕ). map waiter_slot vs ++ ns) (all_pass ws) n ∙ append-nil (map waiter_slot ws)

      go : (u : Move) → Suits e k u → map waiter_slot (those (λ w. spares u w.process) (asleep u k)) ++ (if goes_back e then [] else slots_of (leaving u k)) ≡ map waiter_slot (moved u k).waiting
      go none s = all_stay k.waiting _ (if_same (goes_back e) [])
      go steps_back s = all_stay k.waiting _ (rw s refl)
      go (joins l) s =
          let ns : List Waiter = map (λ p. record { process = p; line = l }) k.running in
          rw s (ap₂ (λ (vs : List Waiter) (ns : List ℕ). map waiter_slot vs ++ ns) (all_pass k.waiting) (sym (slots_join l k.running)) ∙ sym (map-append waiter_slot k.waiting ns))
      go (first_wakes l) s = all_stay (without (at l) k.waiting) _ (if_same (goes_back e) [])
      go (all_wake l) s = all_stay (those (λ w. not (at l w)) k.waiting) _ (if_same (goes_back e) [])
      go (is_born a2 a3) s = all_stay k.waiting _ (if_same (goes_back e) [])
      go (ends n) s = ap (λ (ns : List ℕ). map waiter_slot (those (λ w. not (family n w.process)) k.waiting) ++ ns) (gone (goes_back e) refl) ∙ append-nil _
        where
          gone : (b : Bool) → goes_back e ≡ b → (if b then [] else slots_of (those (λ p. not (family n p)) k.running)) ≡ []
          gone true t = refl
          gone false t = ap slots_of (s t)

  -- ── With the priorities that the births tell ──

  module _ (ranks : All (λ p. high_in p.slot bs ≡ is_high p) (living o.after)) where
    abbrev Rank : Process → Type 0
    Rank p = high_in p.slot bs ≡ is_high p

    rank_each : All Rank (moved v k).on × All Rank (moved v k).high × All Rank (moved v k).low
    rank_each =
        let m : Machine = o.after in
        let two = all_ready Rank m ranks in
        unchosen_each Rank (moved v k)
        (subst (λ (l : Lists). All Rank l.on) w.places (all_running Rank m ranks))
        (subst (λ (l : Lists). All Rank l.high) w.places (All-left Rank m.high m.low two))
        (subst (λ (l : Lists). All Rank l.low) w.places (All-right Rank m.high m.low two))

    -- those who became ready
    rank_joiners : All Rank (joiners v k)
    rank_joiners =
        all_parts Rank is_high (joiners v k)
        (All-right Rank (those (spares v) k.high) _ (subst (All Rank) (line_is true v k) rank_each.1))
        (All-right Rank (those (spares v) k.low) _ (subst (All Rank) (line_is false v k) rank_each.2))

    spared_ready : (All Spared k.high) × (All Spared k.low)
    spared_ready = let two = all_ready Spared k all_spared in (All-left Spared k.high k.low two, All-right Spared k.high k.low two)

    high_are : (ready_then h e a).high ≡ slots_of (moved v k).high
    high_are =
        ap₂ (λ (hs cs : List ℕ). spared_slots a hs ++ those (λ s. high_in s bs) cs) q.high comers_are
        ∙ ap₂ (λ (hs cs : List ℕ). hs ++ cs) (spared_of k.high spared_ready.0)
        (those_keys slot_of (λ s. high_in s bs) (joiners v k) ∙ ap slots_of (those_alike _ _ (joiners v k) rank_joiners))
        ∙ sym (map-append slot_of (those (spares v) k.high) (those is_high (joiners v k))) ∙ ap slots_of (sym (line_is true v k))

    low_are : (ready_then h e a).low ≡ slots_of (moved v k).low
    low_are =
        ap₂ (λ (ls cs : List ℕ). spared_slots a ls ++ those (λ s. not (high_in s bs)) cs) q.low comers_are
        ∙ ap₂ (λ (ls cs : List ℕ). ls ++ cs) (spared_of k.low spared_ready.1)
        (those_keys slot_of (λ s. not (high_in s bs)) (joiners v k) ∙ ap slots_of (those_alike _ _ (joiners v k) (All-each _ _ (λ p r. ap not r) (joiners v k) rank_joiners)))
        ∙ sym (map-append slot_of (those (spares v) k.low) (those (λ p. not (is_high p)) (joiners v k))) ∙ ap slots_of (sym (line_is false v k))

    ready_are : ready_then h e a ≡ by_slots (moved v k)
    ready_are =
        ap₂ (λ (hs ls : List ℕ). record { high = hs; low = ls; four = h.queues.four; waiting = (ready_then h e a).waiting }) high_are low_are
        ∙ ap₂ (λ (n : ℕ) (ws : List ℕ). record { high = slots_of (moved v k).high; low = slots_of (moved v k).low; four = n; waiting = ws }) (q.four ∙ sym (four_moved v k)) waiting_are

    -- ── The choice ──

    module _ (g' : Sound o.after) (own : InOwnLine k.high k.low) where
      queues_are : queues_after h e a ≡ by_slots (lists_of o.after)
      queues_are =
          ap (λ (r : Queues). first (slot_run a.action) r (run_from bs r)) ready_are
          ∙ settle bs (moved v k) a.action (λ s. omega (arith, lists_sum k v o w (λ p. count (eqb s p.slot)), g'.slots s, count_le (ltb s o.after.slots)))
          (own_moved v k own) (rank_each.1, rank_each.2) w.action
          ∙ ap by_slots (sym w.places)

      queued_then : Queued (queues_after h e a) o.after
      queued_then = record {
        high = ap (λ (r : Queues). r.high) queues_are;
        low = ap (λ (r : Queues). r.low) queues_are;
        four = ap (λ (r : Queues). r.four) queues_are;
        waiting = ap (λ (r : Queues). r.waiting) queues_are;
      }

    choosing_then : Choosing h e a
    choosing_then = record { in_turn = λ off. in_turn_of (moved v k) a.action w.action off ∙ ap whose_turn (sym ready_are) }

-- ── Every event ──

module _ (slots sems customers seats : ℕ) (few : slots ≤ mask_bits) where
  abbrev Obeys : Machine → Type 0
  Obeys m = Tables slots sems customers seats m

  settled_so : (m : Machine) → Obeys m → Settled m
  settled_so m t = (sound slots sems customers seats m t, t.one_runs, t.one_each)

  module _ (h : Past) (m : Machine) (e : Event) (t : Obeys m) (l : Linked h m) (q : Queued h.queues m) (ok : Rules.refusal m e ≡ None) where
    -- the machine with its gap charged, and the answer
    k : Machine
    k = charge (Rules.clock e) m

    abbrev x : Answer
    x = (step m e).answer

    moves : Moved (move e k) k (step m e)
    unfolding k
    moves = subst (λ (v : Move). Moved v (charge (Rules.clock e) m) (step m e)) (sym (move_charged (Rules.clock e) m e)) (moves_hold m e t.one_runs ok)

    single : Single k.running
    unfolding k
    single = charge_single (Rules.clock e) m t.one_runs

    sound_now : Sound k
    unfolding k
    sound_now = sound_charged (Rules.clock e) m (sound slots sems customers seats m t)

    few_now : k.slots ≤ mask_bits
    unfolding k charge
    few_now = omega (arith, t.slots_there)

    runner_now : h.runner ≡ slots_of k.running
    unfolding k charge
    runner_now = l.runner ∙ sym (slots_longer (gap (Rules.clock e) m) m.running)

    queued_now : Queued h.queues k
    unfolding k charge
    queued_now = record { high = q.high; low = q.low; four = q.four; waiting = q.waiting }

    own_now : InOwnLine k.high k.low
    unfolding k charge
    own_now = t.own_line

    taken : accepted x ≡ true
    taken = rw (verdict m e t.one_runs, ok) refl

    -- the priority of everyone alive then, by the births told
    ranks_then : All (λ p. high_in p.slot (born_by e x.newborn h) ≡ is_high p) (living (step m e).after)
    ranks_then =
        let n : Linked (onward h e x) (step m e).after = linked h m e (settled_so m t) l in
        let same : (onward h e x).births ≡ born_by e x.newborn h = rw taken refl in
        subst (λ (bs : List Birth). All (λ p. high_in p.slot bs ≡ is_high p) (living (step m e).after)) same
        (All-both _ _ _ (λ p b r. ap (λ (i : ℕ). high_by (priority_by i (onward h e x).births)) b.0 ∙ ap high_by r) (living (step m e).after) n.told.known n.ranked)

    queued_accepted : Queued (onward h e x).queues (step m e).after
    queued_accepted =
        let n = queued_then h e k (step m e) moves single sound_now few_now runner_now queued_now ranks_then (settled m e (settled_so m t)).0 own_now in
        rw taken record { high = n.high; low = n.low; four = n.four; waiting = n.waiting }

    pub choosing_holds : Choosing h e x
    choosing_holds = choosing_then h e k (step m e) moves single sound_now few_now runner_now queued_now ranks_then

  queued : (h : Past) (m : Machine) (e : Event) → Obeys m → Linked h m → Queued h.queues m → Queued (onward h e (step m e).answer).queues (step m e).after
  unfolding Rules.refused
  queued h m e t l q = by_verdict (λ (o : Outcome). Queued (onward h e o.answer).queues o.after) m e (queued_accepted h m e t l q) (λ _ _. q)

  -- ── At any processor, and any events: the lines are the same whoever's seat is taken ──

  queues_turned : (j : ℕ) (h : Past) → (turned j h).queues ≡ h.queues
  queues_turned j h = if_cases (λ (g : Past). g.queues ≡ h.queues) (ltb j (length h.elsewhere)) (λ _. refl) (λ _. refl)

  pub queued_turned : (j : ℕ) (h : Past) (m : Machine) → Queued h.queues m → Queued (turned j h).queues (turn j m)
  queued_turned j h m q = record {
    high = ap (λ (r : Queues). r.high) (queues_turned j h) ∙ q.high ∙ ap slots_of (sym (high_turned j m));
    low = ap (λ (r : Queues). r.low) (queues_turned j h) ∙ q.low ∙ ap slots_of (sym (low_turned j m));
    four = ap (λ (r : Queues). r.four) (queues_turned j h) ∙ q.four ∙ sym (four_turned j m);
    waiting = ap (λ (r : Queues). r.waiting) (queues_turned j h) ∙ q.waiting ∙ ap (map waiter_slot) (sym (waiting_turned j m));
  }

  queued_arrives : (h : Past) (m : Machine) (x : Arrival) → Obeys m → Linked h m → Queued h.queues m → Queued (arrived h x (arrive m x).answer).queues (arrive m x).after
  unfolding Rules.refused
  queued_arrives h m x t l q =
      let j = x.processor in
      let o : Outcome = step (turn j m) x.event in
      arrive_cases (λ (o : Outcome). Queued (arrived h x o.answer).queues o.after) m x
      (queued_turned j (onward (turned j h) x.event o.answer) o.after (queued (turned j h) (turn j m) x.event (tables_turned slots sems customers seats j m t) (linked_turned j h m l) (queued_turned j h m q)))
      (subst (λ (g : Past). Queued g.queues m) (sym (turned_twice j h)) q)

  pub queued_all : (xs : List Arrival) (h : Past) (m : Machine) → Obeys m → Linked h m → Queued h.queues m → Queued (past h xs (answers m xs)).queues (run m xs)
  unfolding run answers
  queued_all [] h m t l q = q
  queued_all (x ∷ xs) h m t l q =
      queued_all xs (arrived h x (arrive m x).answer) (arrive m x).after (arrives slots sems customers seats m x t) (linked_arrives h m x (settled_so m t) l) (queued_arrives h m x t l q)

pub fresh_queued : (slots others now : ℕ) (values ceilings : List ℕ) → Queued (first_past others now).queues (fresh slots others now values ceilings)
unfolding fresh
fresh_queued slots others now values ceilings = record { high = refl; low = refl; four = refl; waiting = refl }
