-- A seat is taken and taken back: nobody comes or goes, nothing is lost, and twice is nothing at all.
use Rattle.std.specs.Prelude.{if◌then◌else◌}
use mathlib.Core.Path.{◌≡◌, refl, ap}
use mathlib.Core.Bool.{Bool, true, false}
use mathlib.Core.List.{List, [], ◌∷◌}
use Prim.Native.Nat.{ℕ, zero, suc, ◌+◌, ◌≤◌, ◌<◌}
use native.Mathlib.Omega.{arith}
use lib.Dec.{eqb, ltb}
use lib.ListN.{length, length-set, get_or, set}
use lib.Seq.{get_or-set_same}
use borrow.Author.Tests.{ltb-true, lt-ltb, le-ltb}
use Rattle.rules.specs.Words.{first, sum, count, Single, All}
use Rattle.rules.proofs.Cases.{if_cases, All-append, All-left, All-right}
use Rattle.rules.proofs.Sums.{sum_append}
use Rattle.rules.specs.Machine.{Process, Seat, Machine, Status, On, Halted, Panicked, seated_in, on_processors, living, nucleus_waits, with_seat, blank, processors, here, turn}
use Rattle.rules.proofs.Living.{Same, living_sum, all_living, all_running, all_elsewhere, all_ready, all_waiting}
use Rattle.rules.specs.Tables.{idle_time, Sound, ScheduledAs}
use Rattle.rules.proofs.Sound.{Settled}
use Rattle.rules.proofs.Kin.{Kin, moved}

-- ── One seat of a list ──

module _ {ℓ} {A : Type ℓ} where
  -- a number from each: what comes in, and what goes out
  pub sum_set : (f : A → ℕ) (d : A) (xs : List A) (k : ℕ) (x : A) → k < length xs → sum f (set xs k x) + f (get_or xs k d) ≡ sum f xs + f x
  sum_set f d [] k x h = absurd (omega arith)
  sum_set f d (y ∷ xs) zero x h = omega arith
  sum_set f d (y ∷ xs) (suc k) x h = omega (arith, sum_set f d xs k x (omega arith))

  pub all_set : (P : A → Type 0) (xs : List A) (k : ℕ) (x : A) → P x → All P xs → All P (set xs k x)
  all_set P [] k x p h = tt
  all_set P (y ∷ xs) zero x p h = (p, h.1)
  all_set P (y ∷ xs) (suc k) x p h = (h.0, all_set P xs k x p h.1)

  pub all_get : (P : A → Type 0) (d : A) (xs : List A) (k : ℕ) → P d → All P xs → P (get_or xs k d)
  all_get P d [] k p h = p
  all_get P d (y ∷ xs) zero p h = h.0
  all_get P d (y ∷ xs) (suc k) p h = all_get P d xs k p h.1

  pub put_back : (d : A) (xs : List A) (k : ℕ) (x : A) → set (set xs k x) k (get_or xs k d) ≡ xs
  put_back d [] k x = refl
  put_back d (y ∷ xs) zero x = refl
  put_back d (y ∷ xs) (suc k) x = ap (λ (l : List A). y ∷ l) (put_back d xs k x)

pub seated_sum : (f : Process → ℕ) (ss : List Seat) → sum f (seated_in ss) ≡ sum (λ s. sum f s.running) ss
seated_sum f [] = refl
seated_sum f (s ∷ ss) = omega (arith, sum_append f s.running (seated_in ss), seated_sum f ss)

pub all_seated : (P : Process → Type 0) (ss : List Seat) → All (λ s. All P s.running) ss → All P (seated_in ss)
all_seated P [] h = tt
all_seated P (s ∷ ss) h = All-append P s.running (seated_in ss) h.0 (all_seated P ss h.1)

pub each_seated : (P : Process → Type 0) (ss : List Seat) → All P (seated_in ss) → All (λ s. All P s.running) ss
each_seated P [] h = tt
each_seated P (s ∷ ss) h = (All-left P s.running (seated_in ss) h, each_seated P ss (All-right P s.running (seated_in ss) h))

-- ── The machine with a seat taken ──

-- the k-th seat is here, and what was here is in its place
abbrev pub taken : ℕ → Machine → Machine
taken k m = with_seat (get_or m.elsewhere k blank) (set m.elsewhere k (here m)) m

-- there is no such seat, or it is taken
pub turn_cases : (Q : Machine → Type 0) (k : ℕ) (m : Machine) → Q m → (k < processors m → Q (taken k m)) → Q (turn k m)
unfolding turn
turn_cases Q k m out in_range = if_cases Q (ltb k (processors m)) (λ e. in_range (ltb-true k (processors m) e)) (λ _. out)

pub turn_taken : (k : ℕ) (m : Machine) → k < processors m → turn k m ≡ taken k m
unfolding turn
turn_taken k m h = rw (lt-ltb k (processors m) h) refl

pub turn_out : (k : ℕ) (m : Machine) → processors m ≤ k → turn k m ≡ m
unfolding turn
turn_out k m h = rw (le-ltb k (processors m) h) refl

-- what is here then was in the seat
pub here_turned : (k : ℕ) (m : Machine) → k < processors m → here (turn k m) ≡ get_or m.elsewhere k blank
here_turned k m h = rw (turn_taken k m h) refl

pub seat_turned : (k : ℕ) (m : Machine) → k < processors m → get_or (turn k m).elsewhere k blank ≡ here m
seat_turned k m h = rw (turn_taken k m h) (get_or-set_same m.elsewhere k (here m) blank h)

pub many_turned : (k : ℕ) (m : Machine) → processors (turn k m) ≡ processors m
many_turned k m = turn_cases (λ (n : Machine). processors n ≡ processors m) k m refl (λ _. length-set m.elsewhere k (here m))

-- TWICE IS NOTHING
pub turn_turn : (k : ℕ) (m : Machine) → turn k (turn k m) ≡ m
unfolding turn
turn_turn k m = go (ltb k (processors m)) refl
  where
    go : (b : Bool) → ltb k (processors m) ≡ b → turn k (if b then taken k m else m) ≡ m
    go true e =
        let l = ltb-true k (processors m) e in
        rw (length-set m.elsewhere k (here m), e, get_or-set_same m.elsewhere k (here m) blank l, put_back blank m.elsewhere k (here m)) refl
    go false e = rw e refl

-- ── Everyone alive, and everyone who runs ──

running_sum : (f : Process → ℕ) (k : ℕ) (m : Machine) → k < processors m
    → sum f (taken k m).running + sum f (seated_in (taken k m).elsewhere) ≡ sum f m.running + sum f (seated_in m.elsewhere)
running_sum f k m l =
    omega (
      arith,
      seated_sum f m.elsewhere,
      seated_sum f (set m.elsewhere k (here m)),
      sum_set (λ s. sum f s.running) blank m.elsewhere k (here m) l,
    )

all_taken : (P : Process → Type 0) (k : ℕ) (m : Machine) → All P (seated_in m.elsewhere) → All P (taken k m).running
all_taken P k m h = all_get (λ s. All P s.running) blank m.elsewhere k tt (each_seated P m.elsewhere h)

all_left : (P : Process → Type 0) (k : ℕ) (m : Machine) → All P m.running → All P (seated_in m.elsewhere) → All P (seated_in (taken k m).elsewhere)
all_left P k m r h = all_seated P (set m.elsewhere k (here m)) (all_set (λ s. All P s.running) m.elsewhere k (here m) r (each_seated P m.elsewhere h))

pub same_taken : (k : ℕ) (m : Machine) → k < processors m → Same (living m) (living (taken k m))
same_taken k m l = record {
  sums = λ f. omega (arith, living_sum f m, living_sum f (taken k m), running_sum f k m l);
  each = λ P h. all_living P (taken k m) (all_taken P k m (all_elsewhere P m h)) (all_left P k m (all_running P m h) (all_elsewhere P m h)) (all_ready P m h) (all_waiting P m h);
}

same_runners : (k : ℕ) (m : Machine) → k < processors m → Same (on_processors m) (on_processors (taken k m))
unfolding on_processors
same_runners k m l = record {
  sums = λ f. omega (arith, sum_append f m.running (seated_in m.elsewhere), sum_append f (taken k m).running (seated_in (taken k m).elsewhere), running_sum f k m l);
  each = λ P h. let r = All-left P m.running (seated_in m.elsewhere) h in let s = All-right P m.running (seated_in m.elsewhere) h in
      All-append P (taken k m).running (seated_in (taken k m).elsewhere) (all_taken P k m s) (all_left P k m r s);
}

-- ── The rules of the tables ──

-- the same processes: somebody is there, or nobody
none_too : (xs ys : List Process) → Same xs ys → xs ≡ [] → ys ≡ []
none_too xs [] s e = refl
none_too xs (y ∷ ys) s e = let z = s.sums (λ p. 1) in absurd (omega (arith, z, ap (sum (λ p. 1)) e))

some_too : (A : Type 0) (xs ys : List Process) → Same xs ys → first xs A (λ p. Unit {0}) → first ys A (λ p. Unit {0})
some_too A [] [] s h = h
some_too A [] (y ∷ ys) s h = tt
some_too A (x ∷ xs) [] s h = let z = s.sums (λ p. 1) in absurd (omega (arith, z))
some_too A (x ∷ xs) (y ∷ ys) s h = tt

pub scheduled_taken : (s : Status) (k : ℕ) (m : Machine) → k < processors m → ScheduledAs s m → ScheduledAs s (taken k m)
unfolding nucleus_waits
scheduled_taken On k m l h = some_too _ (on_processors m) (on_processors (taken k m)) (same_runners k m l) h
scheduled_taken Halted k m l h = none_too (living m) (living (taken k m)) (same_taken k m l) h
scheduled_taken Panicked k m l h =
    (none_too (on_processors m) (on_processors (taken k m)) (same_runners k m l) h.0, h.1, h.2, some_too _ (living m) (living (taken k m)) (same_taken k m l) h.3)

pub sound_taken : (k : ℕ) (m : Machine) → k < processors m → Sound m → Sound (taken k m)
sound_taken k m l h =
    let s = same_taken k m l in
    record {
      ids = λ n. omega (arith, s.sums (λ p. count (eqb n p.id)), h.ids n);
      slots = λ j. omega (arith, s.sums (λ p. count (eqb j p.slot)), h.slots j);
      allowed = h.allowed;
      kept = λ c. omega (arith, s.sums (λ p. count (eqb c p.customer)), h.kept c);
    }

pub kin_taken : (k : ℕ) (m : Machine) → k < processors m → Kin m → Kin (taken k m)
kin_taken k m l h =
    let s = same_taken k m l in
    record { parents = moved (living m) (living (taken k m)) s h.parents; older = s.each _ h.older }

pub idle_taken : (k : ℕ) (m : Machine) → k < processors m → idle_time (taken k m) ≡ idle_time m
idle_taken k m l = omega (arith, sum_set (λ s. s.idle) blank m.elsewhere k (here m) l)

pub single_taken : (k : ℕ) (m : Machine) → Single m.running → All (λ s. Single s.running) m.elsewhere → Single (taken k m).running × All (λ s. Single s.running) (taken k m).elsewhere
single_taken k m r h = (all_get (λ s. Single s.running) blank m.elsewhere k tt h, all_set (λ s. Single s.running) m.elsewhere k (here m) r h)

pub settled_turned : (k : ℕ) (m : Machine) → Settled m → Settled (turn k m)
settled_turned k m h = turn_cases Settled k m h (λ l. let one = single_taken k m h.1 h.2 in (sound_taken k m l h.0, one.0, one.1))

-- what holds of everyone alive
pub all_turned : (P : Process → Type 0) (k : ℕ) (m : Machine) → All P (living m) → All P (living (turn k m))
all_turned P k m h = turn_cases (λ (n : Machine). All P (living n)) k m h (λ l. (same_taken k m l).each P h)

pub sum_turned : (f : Process → ℕ) (k : ℕ) (m : Machine) → sum f (living (turn k m)) ≡ sum f (living m)
sum_turned f k m = turn_cases (λ (n : Machine). sum f (living n) ≡ sum f (living m)) k m refl (λ l. (same_taken k m l).sums f)

-- the rest is as it was
pub next_turned : (k : ℕ) (m : Machine) → (turn k m).next ≡ m.next
next_turned k m = turn_cases (λ (n : Machine). n.next ≡ m.next) k m refl (λ _. refl)

pub slots_turned : (k : ℕ) (m : Machine) → (turn k m).slots ≡ m.slots
slots_turned k m = turn_cases (λ (n : Machine). n.slots ≡ m.slots) k m refl (λ _. refl)

pub ceilings_turned : (k : ℕ) (m : Machine) → (turn k m).ceilings ≡ m.ceilings
ceilings_turned k m = turn_cases (λ (n : Machine). n.ceilings ≡ m.ceilings) k m refl (λ _. refl)

pub sems_turned : (k : ℕ) (m : Machine) → (turn k m).sems ≡ m.sems
sems_turned k m = turn_cases (λ (n : Machine). n.sems ≡ m.sems) k m refl (λ _. refl)

pub high_turned : (k : ℕ) (m : Machine) → (turn k m).high ≡ m.high
high_turned k m = turn_cases (λ (n : Machine). n.high ≡ m.high) k m refl (λ _. refl)

pub low_turned : (k : ℕ) (m : Machine) → (turn k m).low ≡ m.low
low_turned k m = turn_cases (λ (n : Machine). n.low ≡ m.low) k m refl (λ _. refl)

pub four_turned : (k : ℕ) (m : Machine) → (turn k m).four ≡ m.four
four_turned k m = turn_cases (λ (n : Machine). n.four ≡ m.four) k m refl (λ _. refl)

pub waiting_turned : (k : ℕ) (m : Machine) → (turn k m).waiting ≡ m.waiting
waiting_turned k m = turn_cases (λ (n : Machine). n.waiting ≡ m.waiting) k m refl (λ _. refl)

pub status_turned : (k : ℕ) (m : Machine) → (turn k m).status ≡ m.status
status_turned k m = turn_cases (λ (n : Machine). n.status ≡ m.status) k m refl (λ _. refl)

pub total_turned : (k : ℕ) (m : Machine) → (turn k m).total ≡ m.total
total_turned k m = turn_cases (λ (n : Machine). n.total ≡ m.total) k m refl (λ _. refl)
