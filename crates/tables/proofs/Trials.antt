-- The layout as a test that computes: how a machine that is written out is shown to obey it.
-- Assumes nothing.
use Rattle.std.specs.Prelude.{Option, Some, None}
use Rattle.std.proofs.Common.{◌≡◌, ℕ, zero, suc, ◌+◌, ◌-◌, ◌<◌, ◌≤◌, Bool, true, false, not, ◌&&◌, ◌||◌, eqb, ltb, leb, List, [], ◌∷◌, length, get_or, take, drop, replicate, sym, refl, ap, ◌∙◌, true≢false, arith, ltb-true, lt-ltb, eq-eqb, eqb-true, leb-true}
use native.Mathlib.Decide.{ℕ_discrete}
use Rattle.rules.specs.Words.{All}
use Rattle.rules.proofs.Cases.{and_left, and_right}
use Rattle.rules.specs.Numbers.{base_slots, base_sems, base_customers, most_processors, time_limit}
use Rattle.lines.specs.Lines.{Line, occ, entry, tally, mask_of_taken}
use Rattle.tables.specs.declared.Tables.{Tables}
use Rattle.tables.specs.Codes.{last_code}
use Rattle.tables.specs.View.{waiters, seats, live, Shape}
use Rattle.kin.specs.Families.{Parent}
use Rattle.seats.specs.Seats.{InSeats}

-- ---- tests for each number below another, and for each in a list
unfoldable pub all_below : (ℕ → Bool) → ℕ → Bool
all_below t zero = true
all_below t (suc n) = t n && all_below t n

below_true : (t : ℕ → Bool) (n : ℕ) → all_below t n ≡ true → (s : ℕ) → s < n → t s ≡ true
unfolding all_below
below_true t zero h s b = absurd (omega arith)
below_true t (suc n) h s b = go (ℕ_discrete s n) (below_true t n (and_right (t n) (all_below t n) h) s)
  where
    go : Dec (s ≡ n) → (s < n → t s ≡ true) → t s ≡ true
    go (yes e) f = ap t e ∙ and_left (t n) (all_below t n) h
    go (no e) f = f (omega arith)

unfoldable pub all_true : List Bool → Bool
all_true [] = true
all_true (b ∷ bs) = b && all_true bs

each_true : (bs : List Bool) → all_true bs ≡ true → All (λ b. b ≡ true) bs
unfolding all_true
each_true [] h = tt
each_true (b ∷ bs) h = (and_left b (all_true bs) h, each_true bs (and_right b (all_true bs) h))

unfoldable pub same_list : List ℕ → List ℕ → Bool
same_list [] [] = true
same_list [] (y ∷ ys) = false
same_list (x ∷ xs) [] = false
same_list (x ∷ xs) (y ∷ ys) = eqb x y && same_list xs ys

same_list_true : (xs ys : List ℕ) → same_list xs ys ≡ true → xs ≡ ys
unfolding same_list
same_list_true [] [] h = refl
same_list_true [] (y ∷ ys) h = absurd (true≢false (sym h))
same_list_true (x ∷ xs) [] h = absurd (true≢false (sym h))
same_list_true (x ∷ xs) (y ∷ ys) h =
    let heads : x ≡ y = eqb-true x y (and_left (eqb x y) (same_list xs ys) h) in
    let tails : xs ≡ ys = same_list_true xs ys (and_right (eqb x y) (same_list xs ys) h) in
    cc

-- one test holds wherever the other does
abbrev implies : Bool → Bool → Bool
implies a b = not a || b

implied : (a b : Bool) → implies a b ≡ true → a ≡ true → b ≡ true
implied true b h e = h
implied false b h e = absurd (true≢false (sym e))

-- ---- the parts of the layout
abbrev line_tests : List ℕ → ℕ → List Bool
line_tests q n = leb n base_slots ∷ eqb (length q) base_slots ∷ same_list (drop n q) (replicate (base_slots - n) 0) ∷ all_below (λ i. ltb (get_or (take n q) i 0) base_slots) (length (take n q)) ∷ []

line_tested : (q : List ℕ) (n : ℕ) → all_true (line_tests q n) ≡ true → Line base_slots q n
line_tested q n h =
    let t = each_true (line_tests q n) h in
    record {
      room = leb-true n base_slots t.0;
      long = eqb-true (length q) base_slots t.1.0;
      blank = same_list_true (drop n q) (replicate (base_slots - n) 0) t.1.1.0;
      slots = λ i b. ltb-true (get_or (take n q) i 0) base_slots (below_true (λ i. ltb (get_or (take n q) i 0) base_slots) (length (take n q)) t.1.1.1.0 i b);
    }

-- where there is a parent it is a slot, and alive and older
abbrev parent_test : List ℕ → ℕ → Option ℕ → Bool
parent_test ids s None = true
parent_test ids s (Some p) = all_true (ltb p base_slots ∷ ltb 0 (get_or ids p 0) ∷ ltb (get_or ids p 0) (get_or ids s 0) ∷ [])

parent_tested : (ids : List ℕ) (s : ℕ) (u : Option ℕ) (p : ℕ) → parent_test ids s u ≡ true → u ≡ Some p → Parent ids s p
parent_tested ids s u p h e =
    let k : parent_test ids s (Some p) ≡ true = rw e at h in
    let t = each_true (ltb p base_slots ∷ ltb 0 (get_or ids p 0) ∷ ltb (get_or ids p 0) (get_or ids s 0) ∷ []) k in
    record {
      slot = ltb-true p base_slots t.0;
      alive = ltb-true 0 (get_or ids p 0) t.1.0;
      older = ltb-true (get_or ids p 0) (get_or ids s 0) t.1.1.0;
    }

-- who has the same id is the same
abbrev once_test : List ℕ → ℕ → ℕ → Bool
once_test ids s t = implies (ltb 0 (get_or ids s 0)) (implies (eqb (get_or ids s 0) (get_or ids t 0)) (eqb s t))

once_tested : (ids : List ℕ) (s t : ℕ) → once_test ids s t ≡ true → 0 < get_or ids s 0 → get_or ids s 0 ≡ get_or ids t 0 → s ≡ t
once_tested ids s t h a e =
    let k = implied (ltb 0 (get_or ids s 0)) (implies (eqb (get_or ids s 0) (get_or ids t 0)) (eqb s t)) h (lt-ltb 0 (get_or ids s 0) a) in
    eqb-true s t (implied (eqb (get_or ids s 0) (get_or ids t 0)) (eqb s t) k (eq-eqb (get_or ids s 0) (get_or ids t 0) e))

-- what a free row has is zero
blank_tested : (id x : ℕ) → implies (eqb id 0) (eqb x 0) ≡ true → id ≡ 0 → x ≡ 0
blank_tested id x h e = eqb-true x 0 (implied (eqb id 0) (eqb x 0) h (eq-eqb id 0 e))

-- ---- all of it
abbrev slot_tests : Tables → ℕ → List Bool
slot_tests m s =
    eqb (occ s (seats m)) (live (get_or m.ids s 0))
    ∷ eqb (live (get_or m.lines s 0)) (occ s (waiters m))
    ∷ leb (get_or m.lines s 0) last_code
    ∷ all_below (once_test m.ids s) base_slots
    ∷ ltb (get_or m.ids s 0) m.next
    ∷ parent_test m.ids s (get_or m.parents s None)
    ∷ implies (eqb (get_or m.ids s 0) 0) (eqb (get_or m.priorities s 0) 0)
    ∷ implies (eqb (get_or m.ids s 0) 0) (eqb (get_or m.handles s 0) 0)
    ∷ implies (eqb (get_or m.ids s 0) 0) (eqb (get_or m.times s 0) 0)
    ∷ implies (eqb (get_or m.ids s 0) 0) (eqb (get_or m.customers s 0) 0)
    ∷ []

abbrev machine_tests : Tables → List Bool
machine_tests m =
    eqb (length m.ids) base_slots
    ∷ eqb (length m.parents) base_slots
    ∷ eqb (length m.priorities) base_slots
    ∷ eqb (length m.handles) base_slots
    ∷ eqb (length m.times) base_slots
    ∷ eqb (length m.lines) base_slots
    ∷ all_true (line_tests m.high.slots m.high.count)
    ∷ all_true (line_tests m.waits.slots m.waits.count)
    ∷ leb m.running base_slots
    ∷ eqb (m.idle + tally (entry m.idles) most_processors + m.ended + tally (entry m.times) base_slots) m.total
    ∷ leb m.total time_limit
    ∷ all_below (λ s. all_true (slot_tests m s)) base_slots
    ∷ eqb m.taken (mask_of_taken base_slots m.ids)
    ∷ eqb (length m.customers) base_slots
    ∷ all_true (line_tests m.low.slots m.low.count)
    ∷ []

-- the layout of the processors' seats
pub record Benched (m : Tables) : Type 0 where
  pub runners_long : length m.runners ≡ most_processors
  pub lasts_long : length m.lasts ≡ most_processors
  pub idles_long : length m.idles ≡ most_processors
  pub some_processor : 1 ≤ m.processors
  pub few_processors : m.processors ≤ most_processors
  pub in_seats : InSeats m.runners
  pub no_runner : (k : ℕ) → m.processors ≤ k → get_or m.runners k None ≡ None
  pub no_last : (k : ℕ) → m.processors ≤ k → get_or m.lasts k 0 ≡ 0
  pub no_idle : (k : ℕ) → m.processors ≤ k → get_or m.idles k 0 ≡ 0

-- the layout but for the numbers of semaphores and customers and the seats
unfoldable pub laid_out : Tables → Bool
laid_out m = all_true (machine_tests m)

module _ (m : Tables) (sems : length m.sems ≡ base_sems) (ceilings : length m.ceilings ≡ base_customers) (bench : Benched m) (holds : laid_out m ≡ true) where
  whole : All (λ b. b ≡ true) (machine_tests m)
  unfolding laid_out
  whole = each_true (machine_tests m) holds

  at_slot : (s : ℕ) → s < base_slots → All (λ b. b ≡ true) (slot_tests m s)
  at_slot s b = each_true (slot_tests m s) (below_true (λ s. all_true (slot_tests m s)) base_slots whole.1.1.1.1.1.1.1.1.1.1.1.0 s b)

  pub tested : Shape m
  tested = record {
    ids_long = eqb-true (length m.ids) base_slots whole.0;
    taken_mask = eqb-true m.taken (mask_of_taken base_slots m.ids) whole.1.1.1.1.1.1.1.1.1.1.1.1.0;
    parents_long = eqb-true (length m.parents) base_slots whole.1.0;
    customers_long = eqb-true (length m.customers) base_slots whole.1.1.1.1.1.1.1.1.1.1.1.1.1.0;
    priorities_long = eqb-true (length m.priorities) base_slots whole.1.1.0;
    handles_long = eqb-true (length m.handles) base_slots whole.1.1.1.0;
    times_long = eqb-true (length m.times) base_slots whole.1.1.1.1.0;
    lines_long = eqb-true (length m.lines) base_slots whole.1.1.1.1.1.0;
    sems_long = sems;
    ceilings_long = ceilings;
    high_line = line_tested m.high.slots m.high.count whole.1.1.1.1.1.1.0;
    low_line = line_tested m.low.slots m.low.count whole.1.1.1.1.1.1.1.1.1.1.1.1.1.1.0;
    waits_line = line_tested m.waits.slots m.waits.count whole.1.1.1.1.1.1.1.0;
    runner = leb-true m.running base_slots whole.1.1.1.1.1.1.1.1.0;
    homes = λ s b. eqb-true (occ s (seats m)) (live (get_or m.ids s 0)) (at_slot s b).0;
    coded = λ s b. eqb-true (live (get_or m.lines s 0)) (occ s (waiters m)) (at_slot s b).1.0;
    codes = λ s b. leb-true (get_or m.lines s 0) last_code (at_slot s b).1.1.0;
    once = λ s t b c. once_tested m.ids s t (below_true (once_test m.ids s) base_slots (at_slot s b).1.1.1.0 t c);
    issued = λ s b. ltb-true (get_or m.ids s 0) m.next (at_slot s b).1.1.1.1.0;
    parent = λ s p b. parent_tested m.ids s (get_or m.parents s None) p (at_slot s b).1.1.1.1.1.0;
    no_customer = λ s b. blank_tested (get_or m.ids s 0) (get_or m.customers s 0) (at_slot s b).1.1.1.1.1.1.1.1.1.0;
    no_priority = λ s b. blank_tested (get_or m.ids s 0) (get_or m.priorities s 0) (at_slot s b).1.1.1.1.1.1.0;
    no_handle = λ s b. blank_tested (get_or m.ids s 0) (get_or m.handles s 0) (at_slot s b).1.1.1.1.1.1.1.0;
    no_time = λ s b. blank_tested (get_or m.ids s 0) (get_or m.times s 0) (at_slot s b).1.1.1.1.1.1.1.1.0;
    runners_long = bench.runners_long;
    lasts_long = bench.lasts_long;
    idles_long = bench.idles_long;
    some_processor = bench.some_processor;
    few_processors = bench.few_processors;
    in_seats = bench.in_seats;
    no_runner = bench.no_runner;
    no_last = bench.no_last;
    no_idle = bench.no_idle;
    spent = eqb-true (m.idle + tally (entry m.idles) most_processors + m.ended + tally (entry m.times) base_slots) m.total whole.1.1.1.1.1.1.1.1.1.0;
    within = leb-true m.total time_limit whole.1.1.1.1.1.1.1.1.1.1.0;
  }

-- to unfold this is to unfold every test
unfoldable pub trial : Unit {0}
unfolding laid_out all_below all_true same_list occ tally mask_of_taken
trial = tt
