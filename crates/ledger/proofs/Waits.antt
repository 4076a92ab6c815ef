-- Why nobody who is ready waits longer: what is left of a wait in the rule book's machine (rules, Waits) is never more
-- than the choices that the bound still allows, and the answers tell who is run and who ends.
use Rattle.std.specs.Prelude.{if◌then◌else◌}
use mathlib.Core.Path.{◌≡◌, refl, sym, ◌∙◌, ap, ap₂, subst}
use mathlib.Core.Logic.{◌⊎◌, inl, inr}
use mathlib.Core.Bool.{Bool, true, false, ◌||◌, true≢false}
use mathlib.Core.List.{List, [], ◌∷◌, map}
use Prim.Native.Nat.{ℕ, zero, suc, ◌+◌, ◌-◌, ◌≤◌, ◌<◌}
use native.Mathlib.Omega.{arith}
use lib.Dec.{eqb, ltb}
use lib.ListN.{length}
use borrow.Author.Tests.{eq-eqb, le-leb, lt-ltb}
use Rattle.rules.specs.declared.Event.{Event}
use Rattle.rules.specs.declared.Arrival.{Arrival}
use Rattle.rules.specs.declared.Action.{Action}
use Rattle.rules.specs.declared.Action.TheVariants.{CarryOn, Run, Wait, Halt, Panic, PassUp, Nothing}
use Rattle.rules.specs.declared.Answer.{Answer}
use Rattle.rules.specs.Words.{first, count, many, All}
use Rattle.rules.specs.Numbers.{most_in_a_row}
use Rattle.rules.proofs.Cases.{if_cases, or_true, All-left, All-right}
use Rattle.rules.specs.Machine.{Process, Machine, ready, living, turn}
use Rattle.rules.proofs.Living.{all_running, all_ready}
use Rattle.rules.specs.Answers.{Outcome}
use Rattle.rules.specs.Tables.{slots_of, with_id}
use Rattle.rules.specs.Rules
use Rattle.rules.specs.Rules.{step, arrive, answers, stopped}
use Rattle.rules.proofs.Sound.{Settled}
use Rattle.rules.proofs.Turns.{settled_turned, slots_turned}
use Rattle.rules.proofs.Arrivals.{arrive_cases, settled_arrives, over_at}
use Rattle.rules.proofs.Waits.{Stands, own, left, Waiting, chosen, RunNow, Fate, waits_alive, waits_on, waits_turned}
use Rattle.ledger.specs.History.{mask_bits, Birth, Past, holder, slot_run, ended_slots, ended_ids, onward, arrived, turned}
use Rattle.ledger.specs.Choices.{Queued}
use Rattle.ledger.specs.Waits.{ids_in, high_line, low_line, is_choice, run_by, ended_by, in_time, with_before, AtMost, high_bound, low_bound, sharp_bound, Waits}
use Rattle.ledger.proofs.Lists.{any_many}
use Rattle.ledger.proofs.Births.{Known, Linked, linked, linked_turned, linked_arrives}
use Rattle.ledger.proofs.Ids.{counted, same_slots}

-- ── One event ──

-- the answer runs it: the births tell that it is in the slot
run_told : (x : ℕ) (h : Past) (a : Answer) (m : Machine) → All (Known h.births) (living m) → RunNow x a m → run_by x h a ≡ true
run_told x h a m known r =
    let k : holder r.it.slot h.births ≡ x = (subst (All (Known h.births)) r.runs (all_running (Known h.births) m known)).0.0 ∙ r.is_x in
    rw (r.says, k, eq-eqb x x refl) refl

-- whoever was alive and is no longer has ended, and the answer tells it
ended_told : (x : ℕ) (h : Past) (m : Machine) (e : Event) → Settled m → m.slots ≤ mask_bits → Linked h m → 1 ≤ with_id x m → with_id x (step m e).after ≡ 0 → ended_by x h e (step m e).answer ≡ true
ended_told x h m e s few l alive gone =
    let ids = ended_ids h e (step m e).answer in
    any_many (eqb x) ids ∙ le-leb 1 (many (eqb x) ids) (omega (arith, alive, gone, (counted (λ n. count (eqb x n)) h m e s few l).living_now))

-- after the event x waits with less left, where the answer was a choice; or the answer runs or ends it
abbrev Onward : Bool → ℕ → ℕ → Past → Past → Event → Answer → Machine → Type 0
Onward high x n h h' e a m = ((j : ℕ) × ((j + chosen a.action ≤ n) × Waiting high x j m)) ⊎ (run_by x h' a || ended_by x h e a ≡ true)

-- who is told to be in a slot is the same from every seat
ids_turned : (ss : List ℕ) (k : ℕ) (h : Past) → ids_in ss (turned k h) ≡ ids_in ss h
ids_turned ss k h = if_cases (λ (g : Past). ids_in ss g ≡ ids_in ss h) (ltb k (length h.elsewhere)) (λ _. refl) (λ _. refl)

module _ (high : Bool) (x n : ℕ) where
  one_event : (h : Past) (m : Machine) (e : Event) → Settled m → m.slots ≤ mask_bits → Linked h m → Waiting high x n m
      → Onward high x n h (onward h e (step m e).answer) e (step m e).answer (step m e).after
  one_event h m e s few l w = go (onward h e (step m e).answer) (linked h m e s l).told.known (waits_on high x n m e s.0 s.1 w)
    where
      go : (h' : Past) → All (Known h'.births) (living (step m e).after) → Fate high x n (step m e).answer (step m e).after → Onward high x n h h' e (step m e).answer (step m e).after
      go h' known (inl i) = inl i
      go h' known (inr (inl r)) = inr (rw (run_told x h' (step m e).answer (step m e).after known r) refl)
      go h' known (inr (inr g)) = inr (rw (ended_told x h m e s few l (waits_alive high x n m w) g) (or_true (run_by x h' (step m e).answer)))

  one_arrival : (h : Past) (m : Machine) (e : Arrival) → Settled m → m.slots ≤ mask_bits → Linked h m → Waiting high x n m
      → Onward high x n h (arrived h e (arrive m e).answer) e.event (arrive m e).answer (arrive m e).after
  unfolding Rules.refused
  one_arrival h m e s few l w =
      let k = e.processor in
      arrive_cases (λ (o : Outcome). Onward high x n h (arrived h e o.answer) e.event o.answer o.after) m e
      (go (step (turn k m) e.event) (one_event (turned k h) (turn k m) e.event (settled_turned k m s) (omega (arith, few, slots_turned k m)) (linked_turned k h m l) (waits_turned high x n k m w)))
      (inl (n, (omega arith, w)))
    where
      go : (o : Outcome) → Onward high x n (turned e.processor h) (onward (turned e.processor h) e.event o.answer) e.event o.answer o.after
          → Onward high x n h (arrived h e o.answer) e.event o.answer (turn e.processor o.after)
      go o (inl i) = inl (i.0, (i.1.0, waits_turned high x i.0 e.processor o.after i.1.1))
      go o (inr t) =
          let k = e.processor in
          let g : Past = onward (turned k h) e.event o.answer in
          inr (rw (ids_turned (slot_run o.answer.action) k g, sym (ids_turned (ended_slots o.answer) k h)) t)

-- ── Any events ──

-- a choice takes one from those that the bound still allows
allowed : (a : Action) (j n : ℕ) → j + chosen a ≤ n → j ≤ n - count (first (slot_run a) false (λ s. true))
allowed (CarryOn s) j n h = omega arith
allowed (Run s) j n h = omega arith
allowed Wait j n h = omega arith
allowed Halt j n h = omega arith
allowed Panic j n h = omega arith
allowed (PassUp s k) j n h = omega arith
allowed Nothing j n h = omega arith

-- something is left of every wait
some_left : (high : Bool) (k four n : ℕ) → left high k four ≤ n → four ≤ most_in_a_row → 1 ≤ n
some_left true k four n h m = omega arith
some_left false k four n h m = omega arith

any_left : (high : Bool) (x n : ℕ) (m : Machine) → Waiting high x n m → ltb 0 n ≡ true
any_left high x n m w = lt-ltb 0 n (some_left high w.before m.four n w.few w.in_a_row)

-- more are allowed
no_less : (high : Bool) (x j n : ℕ) (m : Machine) → j ≤ n → Waiting high x j m → Waiting high x n m
no_less high x j n m h w = record { before = w.before; stands = w.stands; few = omega (arith, h, w.few); in_a_row = w.in_a_row }

or_first : (a b c : Bool) → a || b ≡ true → a || b || c ≡ true
or_first true b c h = refl
or_first false true c h = refl
or_first false false c h = absurd (true≢false (sym h))

or_last : (a b c : Bool) → c ≡ true → a || b || c ≡ true
or_last true b c h = refl
or_last false true c h = refl
or_last false false c h = h

waited : (high : Bool) (x n : ℕ) (es : List Arrival) (h : Past) (m : Machine) → Settled m → m.slots ≤ mask_bits → Linked h m → Waiting high x n m → in_time n x h es (answers m es) ≡ true
unfolding answers
waited high x n [] h m s few l w = any_left high x n m w
waited high x n (e ∷ es) h m s few l w =
    let a = (arrive m e).answer in
    let m₁ = (arrive m e).after in
    rw (any_left high x n m w) (go a (arrived h e a) m₁ (one_arrival high x n h m e s few l w)
    (λ j. waited high x j es (arrived h e a) m₁ (settled_arrives m e s) (omega (arith, few, same_slots m e s)) (linked_arrives h m e s l)))
  where
    go : (a : Answer) (g : Past) (m₁ : Machine) → Onward high x n h g e.event a m₁ → ((j : ℕ) → Waiting high x j m₁ → in_time j x g es (answers m₁ es) ≡ true)
        → run_by x g a || ended_by x h e.event a || in_time (n - count (is_choice a)) x g es (answers m₁ es) ≡ true
    go a g m₁ (inl i) ih =
        let left : ℕ = n - count (is_choice a) in
        or_last (run_by x g a) (ended_by x h e.event a) _ (ih left (no_less high x i.0 left m₁ (allowed a.action i.0 n i.1.0) i.1.1))
    go a g m₁ (inr t) ih = or_first (run_by x g a) (ended_by x h e.event a) _ t

-- a machine that is over makes no choice
no_more : (es : List Arrival) (m : Machine) → stopped m ≡ true → many is_choice (answers m es) ≡ 0
unfolding answers Rules.refused
no_more [] m h = refl
no_more (e ∷ es) m h = rw (over_at m e h) (omega (arith, no_more es m h))

-- ── The lines that are told ──

ids_known : (bs : List Birth) (ps : List Process) → All (Known bs) ps → map (λ s. holder s bs) (slots_of ps) ≡ map (λ p. p.id) ps
ids_known bs [] k = refl
ids_known bs (p ∷ ps) k = ap₂ {A = ℕ} {B = List ℕ} (λ n ns. n ∷ ns) k.0.0 (ids_known bs ps k.1)

-- whoever has k before it
stands_at : (ps : List Process) (k : ℕ) → k < length (map (λ p. p.id) ps) → Stands (with_before k (map (λ p. p.id) ps)) k ps
stands_at [] k h = absurd (omega arith)
stands_at (p ∷ ps) zero h = refl
stands_at (p ∷ ps) (suc k) h = stands_at ps k (omega arith)

module _ (es : List Arrival) (h : Past) (m : Machine) (s : Settled m) (few : m.slots ≤ mask_bits) (l : Linked h m) (q : Queued h.queues m) (in_a_row : m.four ≤ most_in_a_row) where
  line_told : (high : Bool) → (if high then high_line h else low_line h) ≡ map (λ p. p.id) (own high m.high m.low)
  line_told = go (all_ready (Known h.births) m l.told.known)
    where
      go : All (Known h.births) (ready m) → (high : Bool) → (if high then high_line h else low_line h) ≡ map (λ p. p.id) (own high m.high m.low)
      go k true = ap (λ (ss : List ℕ). ids_in ss h) q.high ∙ ids_known h.births m.high (All-left (Known h.births) m.high m.low k)
      go k false = ap (λ (ss : List ℕ). ids_in ss h) q.low ∙ ids_known h.births m.low (All-right (Known h.births) m.high m.low k)

  -- a bound that is no less than what can be left
  within : (high : Bool) (bound : ℕ → ℕ) → ((k : ℕ) → left high k m.four ≤ bound k) → AtMost bound (if high then high_line h else low_line h) h es (answers m es)
  within high bound enough =
      subst (λ (line : List ℕ). AtMost bound line h es (answers m es)) (sym (line_told high)) λ k below.
      waited high _ (bound k) es h m s few l
      (record { before = k; stands = stands_at (own high m.high m.low) k below; few = enough k; in_a_row = in_a_row })

  -- the sharper bound of a high one, from which the other follows
  sharp_enough : (k : ℕ) → left true k m.four ≤ sharp_bound k
  sharp_enough k = omega (arith, in_a_row)

  pub waits_hold : Waits h es (answers m es)
  unfolding stopped
  waits_hold = record {
    high = within true high_bound (λ k. omega (arith, sharp_enough k));
    low = within false low_bound (λ k. omega arith);
    sharp = within true sharp_bound sharp_enough;
    count_ends = λ over. no_more es m (sym l.over ∙ over);
  }
