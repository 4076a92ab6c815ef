-- Who runs next, over machines alone: the first in the ready line; halt, wait or panic; or whoever runs carries on.
-- Assumes nothing.
use Rattle.rules.specs.declared.Status.TheVariants.{Halted, Panicked}
use Rattle.rules.specs.declared.Status.{Status}
use Rattle.std.proofs.Common.{◌≡◌, ℕ, ◌<◌, ◌≤◌, Bool, true, false, List, [], ◌∷◌, ◌++◌, map, length, get_or, take, sym, refl, ap, ◌∙◌, true≢false, arith, rules, if◌then◌else◌}
use Rattle.rules.specs.declared.Answer.{Answer}
use Rattle.rules.specs.declared.Status.{Status}
use Rattle.rules.specs.declared.Status.TheVariants.{Halted, Panicked}
use Rattle.rules.specs.declared.Action.TheVariants.{CarryOn, Run, Wait, Halt, Panic}
use Rattle.rules.specs.Words.{first}
use Rattle.rules.specs.Numbers.{base_slots}
use Rattle.rules.specs.Machine as book
use Rattle.rules.specs.Machine.{Process, Waiter, seated_in, living, counted, takes_low, next_of, dispatch}
use Rattle.rules.specs.Answers.{Outcome, doing}
use Rattle.rules.specs.Rules.{act, runs_elsewhere, worth_waiting, schedule, nobody_ready, carry_on, resume}
use Rattle.lines.specs.Lines.{first_where}
use Rattle.std.specs.Prelude.{Some, None}
use Rattle.lines.proofs.Bridge.{found_first, found_none, any_those, any_none}
use Rattle.tables.specs.declared.Tables.{Tables}
use Rattle.tables.specs.declared.Settled.{Settled}
use Rattle.seats.specs.Seats.{runs_somewhere}
use Rattle.seats.proofs.Told.{runs_told}
use Rattle.tables.specs.View.{row, waiter, occupant, waiters, seats, view, Shape}
use Rattle.tables.specs.Promised.{run_next, Step, Comes}
use Rattle.tables.proofs.Seats.{seats_living, sizes, runs_one, runs_none, at_nucleus, nucleus_any}
use Rattle.tables.proofs.Moves.{high_runs, low_runs, chosen, high_first, low_first, high_step, low_step}

abbrev pub put_status : Status → Tables → Tables
put_status v m = record { ids = m.ids; taken = m.taken; parents = m.parents; customers = m.customers; priorities = m.priorities; handles = m.handles; times = m.times; lines = m.lines; high = m.high; low = m.low; four = m.four; waits = m.waits; running = m.running; sems = m.sems; ceilings = m.ceilings; next = m.next; status = v; last = m.last; total = m.total; idle = m.idle; ended = m.ended; runners = m.runners; lasts = m.lasts; idles = m.idles; processors = m.processors }

-- the first of a list that is known
pub first_known {ℓ κ} : {A : Type ℓ} {B : Type κ} (xs : List A) (y : A) (ys : List A) (none : B) (some : A → B) → xs ≡ y ∷ ys → first xs none some ≡ some y
first_known xs y ys none some e = ap (λ l. first l none some) e

pub first_empty {ℓ κ} : {A : Type ℓ} {B : Type κ} (xs : List A) (none : B) (some : A → B) → xs ≡ [] → first xs none some ≡ none
first_empty xs none some e = ap (λ l. first l none some) e

-- one outcome said by another
pub comes_by : (o k : Outcome) (r : Settled) → o ≡ k → Comes k r → Comes o r
comes_by o k r e h = record { seen = e ∙ h.seen; shape = h.shape }

-- ---- nobody ready
-- somebody runs on another processor
some_first {ℓ} : {B : Type ℓ} (xs ys : List Process) (a b : B) → first xs false (λ p. true) ≡ true → first (xs ++ ys) a (λ p. b) ≡ b
some_first [] ys a b e = absurd (true≢false (sym e))
some_first (x ∷ xs) ys a b e = refl

none_first : (xs : List Process) → first xs false (λ p. true) ≡ false → xs ≡ []
none_first [] e = refl
none_first (x ∷ xs) e = absurd (true≢false e)

elsewhere_told : (m : Tables) → Shape m → runs_elsewhere (view m) ≡ runs_somewhere m.runners
unfolding runs_elsewhere
elsewhere_told m g = sym (runs_told (row m) m.runners m.processors (λ k. get_or m.lasts k 0) (λ k. get_or m.idles k 0) g.no_runner)

first_there : (m : Tables) → m.running ≡ base_slots → runs_elsewhere (view m) ≡ true → {B : Type 0} (a b : B) → first (living (view m)) a (λ p. b) ≡ b
unfolding living runs_elsewhere
first_there m r e a b =
    ap (λ (n : ℕ). first (map (row m) (occupant n) ++ (seated_in (view m).elsewhere ++ ((view m).high ++ (view m).low ++ map (λ (w : Waiter). w.process) (view m).waiting))) a (λ p. b)) r
    ∙ some_first (seated_in (view m).elsewhere) _ a b e

pub beside_comes : (x : Answer) (m : Tables) → Shape m → m.running ≡ base_slots → runs_somewhere m.runners ≡ true → Comes (nobody_ready x (view m)) (record { tables = m; answer = doing Wait x })
unfolding nobody_ready worth_waiting
beside_comes x m g r e =
    let there : runs_elsewhere (view m) ≡ true = elsewhere_told m g ∙ e in
    record { seen = first_there m r there _ _ ∙ rw there; shape = g }

pub halt_comes : (x : Answer) (m : Tables) → Shape m → m.running ≡ base_slots → m.high.count ≡ 0 → m.low.count ≡ 0 → runs_somewhere m.runners ≡ false → m.waits.count ≡ 0 → Comes (nobody_ready x (view m)) (record { tables = put_status Halted m; answer = doing Halt x })
unfolding nobody_ready living runs_elsewhere
halt_comes x m g r h l e w =
    let nobody : seated_in (view m).elsewhere ≡ [] = none_first (seated_in (view m).elsewhere) (elsewhere_told m g ∙ e) in
    let none : living (view m) ≡ [] = λ i. map (row m) (occupant (r i)) ++ (nobody i ++ (map (row m) (take (h i) m.high.slots) ++ map (row m) (take (l i) m.low.slots) ++ map (λ (w : Waiter). w.process) (map (waiter m) (take (w i) m.waits.slots)))) in
    record { seen = first_empty (living (view m)) _ _ none; shape = search rules }

module _ (x : Answer) (m : Tables) (g : Shape m) (alone : runs_somewhere m.runners ≡ false) (some : 0 < m.waits.count) where
  some_living : {B : Type 0} (a b : B) → first (living (view m)) a (λ p. b) ≡ b
  some_living a b = ap (λ (l : List Process). first l a (λ p. b)) (seats_living m g) ∙ go (seats m) (omega (arith, sizes m g))
    where
      go : (l : List ℕ) → 0 < length l → first (map (row m) l) a (λ p. b) ≡ b
      go [] k = absurd (omega arith)
      go (y ∷ l) k = refl

  pub wait_comes : (i : ℕ) → first_where (at_nucleus m) 0 (waiters m) ≡ Some i → Comes (nobody_ready x (view m)) (record { tables = m; answer = doing Wait x })
  unfolding nobody_ready worth_waiting
  wait_comes i e = record {
    seen = some_living _ _ ∙ rw (elsewhere_told m g, alone, nucleus_any m g, any_those (at_nucleus m) (waiters m) _ _ (found_first (at_nucleus m) (waiters m) i e));
    shape = g;
  }

  pub panic_comes : first_where (at_nucleus m) 0 (waiters m) ≡ None → Comes (nobody_ready x (view m)) (record { tables = put_status Panicked m; answer = doing Panic x })
  unfolding nobody_ready worth_waiting
  panic_comes e = record {
    seen = some_living _ _ ∙ rw (elsewhere_told m g, alone, nucleus_any m g, any_none (at_nucleus m) (waiters m) (found_none (at_nucleus m) (waiters m) 0 e));
    shape = search rules;
  }

-- ---- schedule
pub stuck : (x : Answer) (m : Tables) (r : Settled) → m.high.count ≡ 0 → m.low.count ≡ 0 → Comes (nobody_ready x (view m)) r → Comes (schedule x (view m)) r
unfolding schedule
stuck x m r h l c =
    let none : next_of (view m).high (view m).low m.four ≡ [] = λ i. next_of (map (row m) (take (h i) m.high.slots)) (map (row m) (take (l i) m.low.slots)) m.four in
    comes_by (schedule x (view m)) (nobody_ready x (view m)) r (first_empty (next_of (view m).high (view m).low m.four) (nobody_ready x (view m)) _ none) c

-- where it is known whether a low one is chosen
schedule_by : (x : Answer) (m : book.Machine) (b : Bool) → takes_low m ≡ b → schedule x m ≡ first (if b then m.low else m.high) (nobody_ready x m) (λ p. act (Run p.slot) x (chosen b m))
unfolding schedule dispatch
schedule_by x m b e = ap (λ (c : Bool). first (if c then m.low else m.high) (nobody_ready x m) (λ p. act (Run p.slot) x (chosen c m))) e

module _ (x : Answer) (m : Tables) (g : Shape m) (free : m.running ≡ base_slots) (n : ℕ) (count : n ≡ counted (view m).high (view m).low m.four) where
  pub high_comes : takes_low (view m) ≡ false → 0 < m.high.count → Comes (schedule x (view m)) (run_next (get_or m.high.slots 0 0) n x (high_runs n m))
  high_comes turn some =
      let st : Step (chosen false) m (high_runs n m) = high_step m g free n count some in
      record {
        seen =
            schedule_by x (view m) false turn
            ∙ first_known (view m).high (row m (get_or m.high.slots 0 0)) (view (high_runs n m)).high (nobody_ready x (view m)) (λ p. act (Run p.slot) x (chosen false (view m))) (ap (map (row m)) (high_first m g free n count some))
            ∙ ap (act (Run (get_or m.high.slots 0 0)) x) (sym st.seen);
        shape = st.shape;
      }

  pub low_comes : takes_low (view m) ≡ true → 0 < m.low.count → Comes (schedule x (view m)) (run_next (get_or m.low.slots 0 0) n x (low_runs n m))
  low_comes turn some =
      let st : Step (chosen true) m (low_runs n m) = low_step m g free n count some in
      record {
        seen =
            schedule_by x (view m) true turn
            ∙ first_known (view m).low (row m (get_or m.low.slots 0 0)) (view (low_runs n m)).low (nobody_ready x (view m)) (λ p. act (Run p.slot) x (chosen true (view m))) (ap (map (row m)) (low_first m g free n count some))
            ∙ ap (act (Run (get_or m.low.slots 0 0)) x) (sym st.seen);
        shape = st.shape;
      }

-- ---- carry on
pub carry_comes : (x : Answer) (m : Tables) → Shape m → Comes (carry_on (row m m.running) x (view m)) (record { tables = m; answer = doing (CarryOn m.running) x })
unfolding carry_on
carry_comes x m g = record { seen = refl; shape = g }

pub resumed : (x : Answer) (m : Tables) (g : Shape m) (r : Settled) → m.running < base_slots → Comes (carry_on (row m m.running) x (view m)) r → Comes (resume x (view m)) r
unfolding resume
resumed x m g r h k = comes_by (resume x (view m)) _ r (first_known (view m).running (row m m.running) [] _ _ (runs_one m g h)) k

pub idle_resumed : (x : Answer) (m : Tables) (g : Shape m) (r : Settled) → base_slots ≤ m.running → Comes (schedule x (view m)) r → Comes (resume x (view m)) r
unfolding resume
idle_resumed x m g r h k = comes_by (resume x (view m)) _ r (first_empty (view m).running _ _ (runs_none m g h)) k

-- a step, then schedule
pub then_schedule : (f : book.Machine → book.Machine) (x : Answer) (m b : Tables) (r : Settled) → Step f m b → Comes (schedule x (view b)) r → Comes (schedule x (f (view m))) r
then_schedule f x m b r s h = comes_by (schedule x (f (view m))) (schedule x (view b)) r (ap (schedule x) (sym s.seen)) h
