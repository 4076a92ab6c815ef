-- The machines that are made from nothing, a fresh one and the one beside a refused start, obey the rule.
-- Assumes nothing.
use Rattle.std.specs.Prelude.{◌++◌, Option, None}
use Rattle.std.proofs.Common.{◌≡◌, ℕ, zero, suc, ◌-◌, ◌<◌, ◌≤◌, Bool, true, false, ltb, List, [], ◌∷◌, length, get_or, replicate, sym, subst, refl, ap, ◌∙◌, ap₂, arith, ltb-false, ltb-true, le-ltb, lt-ltb, if◌then◌else◌}
use Rattle.rules.specs.Numbers.{base_slots, base_sems, base_customers, most_processors}
use borrow.Rule.Slice.PartMut.{post_of}
use Rattle.rules.specs.Machine as book
use Rattle.rules.specs.declared.Status.TheVariants.{On}
use Rattle.rules.specs.Machine.{Seat, origin, blank, idle_from, fresh}
use Rattle.rules.specs.Rules.{rule_book}
use Rattle.tables.specs.declared.Tables.{Tables}
use Rattle.tables.specs.View.{readings_of, seat_at, view, Shape}
use Rattle.kin.specs.Families.{climb}
use Rattle.seats.specs.Seats.{table, IsSeat}
use Rattle.seats.proofs.Tabled.{table_get, table_past}
use Rattle.tables.proofs.Trials.{Benched, tested, trial}

abbrev pub zeros : ℕ → List ℕ
zeros n = replicate n 0

abbrev pub begun : ℕ → List ℕ → List ℕ → ℕ → Tables
begun now values ceilings n = record { ids = 1 ∷ zeros (base_slots - 1); taken = 1; parents = replicate base_slots None; customers = zeros base_slots; priorities = zeros base_slots; handles = zeros base_slots; times = zeros base_slots; lines = zeros base_slots; high = record { slots = zeros base_slots; count = 0 }; low = record { slots = zeros base_slots; count = 0 }; four = 0; waits = record { slots = zeros base_slots; count = 0 }; running = 0; sems = values; ceilings = ceilings; next = 2; status = On; last = now; total = 0; idle = 0; ended = 0; runners = replicate most_processors None; lasts = readings_of now n; idles = zeros most_processors; processors = n }

-- ---- the seats
pub none_at : (n k : ℕ) → get_or (replicate {A = Option ℕ} n None) k None ≡ None
none_at zero k = refl
none_at (suc n) zero = refl
none_at (suc n) (suc k) = none_at n k

pub zero_at : (n k : ℕ) → get_or (zeros n) k 0 ≡ 0
zero_at zero k = refl
zero_at (suc n) zero = refl
zero_at (suc n) (suc k) = zero_at n k

table_all : {A : Type 0} (n : ℕ) (g : ℕ → A) (x : A) → ((k : ℕ) → k < n → g k ≡ x) → table n g ≡ replicate n x
table_all zero g x h = refl
table_all {A} (suc n) g x h = ap₂ {A = A} {B = List A} (λ y ys. y ∷ ys) (h 0 (omega arith)) (table_all n (λ k. g (suc k)) x (λ k l. h (suc k) (omega (arith, l))))

abbrev reading : ℕ → ℕ → ℕ → ℕ
reading now n k = if ltb (suc k) n then now else 0

-- of a processor but the first that is there; where there is none
reading_there : (now n k : ℕ) → suc k < n → n ≤ most_processors → get_or (readings_of now n) (suc k) 0 ≡ now
unfolding readings_of
reading_there now n k h few = table_get 7 k (reading now n) 0 (omega (arith, h, few)) ∙ rw (lt-ltb (suc k) n h)

reading_past : (now n k : ℕ) → 1 ≤ n → n ≤ k → get_or (readings_of now n) k 0 ≡ 0
unfolding readings_of
reading_past now n zero some h = absurd (omega (arith, some, h))
reading_past now n (suc k) some h = go (ltb k 7) refl
  where
    go : (b : Bool) → ltb k 7 ≡ b → get_or (table 7 (reading now n)) k 0 ≡ 0
    go true e = table_get 7 k (reading now n) 0 (ltb-true k 7 e) ∙ rw (le-ltb (suc k) n h)
    go false e = table_past 7 k (reading now n) 0 (ltb-false k 7 e)

-- how the readings are written: those of the processors but the first that are there, at once
pub readings_filled : (now n : ℕ) → 1 ≤ n → n ≤ most_processors → 0 ∷ (replicate (n - 1) now ++ post_of {X = ℕ} 1 (n - 1) (zeros most_processors)) ≡ readings_of now n
unfolding readings_of
readings_filled now zero some few = absurd (omega (arith, some))
readings_filled now (suc zero) some few = refl
readings_filled now (suc (suc zero)) some few = refl
readings_filled now (suc (suc (suc zero))) some few = refl
readings_filled now (suc (suc (suc (suc zero)))) some few = refl
readings_filled now (suc (suc (suc (suc (suc zero))))) some few = refl
readings_filled now (suc (suc (suc (suc (suc (suc zero)))))) some few = refl
readings_filled now (suc (suc (suc (suc (suc (suc (suc zero))))))) some few = refl
readings_filled now (suc (suc (suc (suc (suc (suc (suc (suc zero)))))))) some few = refl
readings_filled now (suc (suc (suc (suc (suc (suc (suc (suc (suc n))))))))) some few = absurd (omega (arith, few))

pub readings_long : (now n : ℕ) → length (readings_of now n) ≡ most_processors
unfolding readings_of
readings_long now n = refl

-- ---- the machine
-- a fresh machine with these other processors
abbrev with_others : ℕ → List ℕ → List ℕ → List Seat → book.Machine
with_others now values ceilings ss = record { slots = base_slots; ceilings = ceilings; running = origin ∷ []; high = []; low = []; four = 0; waiting = []; sems = values; next = 2; status = On; last = now; total = 0; idle = 0; ended = 0; elsewhere = blank ∷ ss }

fresh_is : (now : ℕ) (values ceilings : List ℕ) (j : ℕ) → with_others now values ceilings (replicate j (idle_from now)) ≡ fresh base_slots j now values ceilings
unfolding fresh
fresh_is now values ceilings j = refl

abbrev other_seat : ℕ → List ℕ → List ℕ → ℕ → ℕ → Seat
other_seat now values ceilings j k = seat_at (begun now values ceilings (suc j)) (suc k)

begun_part : (now : ℕ) (values ceilings : List ℕ) (j : ℕ) → view (begun now values ceilings (suc j)) ≡ with_others now values ceilings (table j (other_seat now values ceilings j))
unfolding rule_book climb readings_of
begun_part now values ceilings j = refl

others : (now : ℕ) (values ceilings : List ℕ) (j : ℕ) → suc j ≤ most_processors → table j (other_seat now values ceilings j) ≡ replicate j (idle_from now)
others now values ceilings j few = table_all j (other_seat now values ceilings j) (idle_from now) (λ k l. one k l)
  where
    one : (k : ℕ) → k < j → other_seat now values ceilings j k ≡ idle_from now
    one k l = rw (none_at most_processors (suc k), zero_at most_processors (suc k), reading_there now (suc j) k (omega (arith, l)) few) refl

pub begun_view : (now : ℕ) (values ceilings : List ℕ) (n : ℕ) → 1 ≤ n → n ≤ most_processors → view (begun now values ceilings n) ≡ fresh base_slots (n - 1) now values ceilings
begun_view now values ceilings zero some few = absurd (omega (arith, some))
begun_view now values ceilings (suc j) some few =
    let less : suc j - 1 ≡ j = omega arith in
    begun_part now values ceilings j
    ∙ ap (with_others now values ceilings) (others now values ceilings j few)
    ∙ fresh_is now values ceilings j
    ∙ ap (λ (k : ℕ). fresh base_slots k now values ceilings) (sym less)

pub begun_shape : (now : ℕ) (values ceilings : List ℕ) (n : ℕ) → 1 ≤ n → n ≤ most_processors → length values ≡ base_sems → length ceilings ≡ base_customers → Shape (begun now values ceilings n)
unfolding trial
begun_shape now values ceilings n some few long many = tested (begun now values ceilings n) long many bench refl
  where
    bench : Benched (begun now values ceilings n)
    bench = record {
      runners_long = refl;
      lasts_long = readings_long now n;
      idles_long = refl;
      some_processor = some;
      few_processors = few;
      in_seats = λ k. subst IsSeat (sym (none_at most_processors k)) tt;
      no_runner = λ k h. none_at most_processors k;
      no_last = λ k h. reading_past now n k some h;
      no_idle = λ k h. zero_at most_processors k;
    }
