-- An event, over machines alone: what the running process does, each refusal, and what an accepted event comes to.
-- Assumes nothing.
use Rattle.std.proofs.Common.{◌≡◌, ℕ, ◌+◌, ◌<◌, ◌≤◌, Bool, true, false, ◌&&◌, ltb, leb, List, [], ◌∷◌, map, sym, refl, ap, ◌∙◌, subst, ap₂, ltb-false, ltb-true, le-ltb, lt-ltb, ne_eqb, le-leb, leb-false, if◌then◌else◌}
use borrow.Author.Tests.{lt-leb}
use Rattle.rules.specs.declared.Event.{Event}
use Rattle.rules.specs.declared.Cause.TheVariants.{Tlb, General}
use Rattle.rules.specs.declared.Answer.{Answer}
use Rattle.rules.specs.Words.{first}
use Rattle.rules.specs.Numbers.{base_slots, gap_limit, time_limit}
use Rattle.std.specs.Prelude.{Some, None, Result, Ok, Err}
use Rattle.std.specs.Result.{result_err}
use Rattle.std.proofs.lemmas.Option.{none-some}
use Rattle.rules.specs.declared.Refusal.{Refusal}
use Rattle.rules.specs.declared.Refusal.TheVariants.{Over, ClockBack, TimeFull, NobodyRuns, NoSuchLine, NoSuchCode}
use Rattle.rules.specs.declared.Status.{Status}
use Rattle.rules.specs.declared.Status.TheVariants.{On, Halted, Panicked}
use Rattle.rules.specs.Machine.{Process, back, gap, charge}
use Rattle.rules.specs.Answers.{Outcome, plain, refusing}
use Rattle.rules.specs.Rules.{schedule, runner, pass_up_or_die, trap, tlb, tick, device_done, sub_device, interrupt, exception, clock, not_on, stopped, bad_line, bad_code, needs_runner, rows, refusal, refused, perform, step}
use Rattle.rules.proofs.Laws.{refuses, accepts, passed}
use Rattle.tables.specs.declared.Tables.{Tables}
use Rattle.tables.specs.declared.Settled.{Settled}
use Rattle.tables.specs.View.{row, view, Shape}
use Rattle.tables.specs.Promised.{Comes}
use Rattle.events.specs.Promised.{Holds}
use Rattle.tables.proofs.Seats.{runs_one}

-- ---- what the running process does
module _ (m : Tables) (g : Shape m) where
  runs_does : m.running < base_slots → (does : Process → Outcome) → runner (view m) does ≡ does (row m m.running)
  runs_does h does = ap (λ (l : List Process). first l (schedule plain (view m)) does) (runs_one m g h)

  -- "line 1: the running process goes to the end of the ready line, then schedule"
  pub slice_ends : (n x y : ℕ) → n ≡ 1 → m.running < base_slots → interrupt n x y (view m) ≡ schedule plain (back (view m))
  unfolding interrupt
  slice_ends n x y e h = rw e (runs_does h (λ p. schedule plain (back (view m))))

  pub clock_ticks : (n x y : ℕ) → n ≡ 2 → interrupt n x y (view m) ≡ tick (view m)
  unfolding interrupt
  clock_ticks n x y e = rw e

  pub device_answers : (n x y d : ℕ) → (n ≡ 1 → ⊥) → (n ≡ 2 → ⊥) → d ≡ sub_device n x y → interrupt n x y (view m) ≡ device_done d (view m)
  unfolding interrupt
  device_answers n x y d a b e = rw (ne_eqb n 1 a, ne_eqb n 2 b, e)

  -- "0-7, 9, 10 and 12-23 are program traps, 24-28 TLB exceptions"
  pub program_traps : (k : ℕ) → m.running < base_slots → k < 24 → exception k (view m) ≡ pass_up_or_die General (row m m.running) (view m)
  unfolding exception trap
  program_traps k h c = rw (lt-ltb k 24 c) (runs_does h (λ p. pass_up_or_die General p (view m)))

  pub tlb_misses : (k : ℕ) → m.running < base_slots → 24 ≤ k → exception k (view m) ≡ pass_up_or_die Tlb (row m m.running) (view m)
  unfolding exception tlb
  tlb_misses k h c = rw (le-ltb k 24 c) (runs_does h (λ p. pass_up_or_die Tlb p (view m)))

-- ---- who has to run
pub manned : (e : Event) (r : ℕ) → (needs_runner e && leb base_slots r) ≡ false → needs_runner e ≡ true → r < base_slots
manned e r h n = leb-false base_slots r (rw n at h)

-- ---- each row of the table, in its order
running_test : (m : Tables) → first (view m).running true (λ p. false) ≡ leb base_slots m.running
running_test m = go (ltb m.running base_slots) refl
  where
    go : (b : Bool) → ltb m.running base_slots ≡ b → first (map (row m) (if b then m.running ∷ [] else [])) true (λ p. false) ≡ leb base_slots m.running
    go true e = sym (lt-leb base_slots m.running (ltb-true m.running base_slots e))
    go false e = sym (le-leb base_slots m.running (ltb-false m.running base_slots e))

pub stops : (m : Tables) → (m.status ≡ On → ⊥) → stopped (view m) ≡ true
unfolding stopped
stops m h = go m.status h
  where
    go : (s : Status) → (s ≡ On → ⊥) → not_on s ≡ true
    go On h = absurd (h refl)
    go Halted h = refl
    go Panicked h = refl

pub goes_on : (m : Tables) → m.status ≡ On → stopped (view m) ≡ false
unfolding stopped
goes_on m h = ap not_on h

-- rows 5 and 6 together, as the code tests them
abbrev pub tested : Bool → Bool → Result (Unit {0}) Refusal
tested line code = if line then Err NoSuchLine else (if code then Err NoSuchCode else Ok tt)

abbrev pub checked : Event → Result (Unit {0}) Refusal
checked e = tested (bad_line e) (bad_code e)

pub none_odd : (e : Event) → checked e ≡ Ok tt → (bad_line e ≡ false) × (bad_code e ≡ false)
none_odd e h = go (bad_line e) refl (bad_code e) refl h
  where
    go : (a : Bool) → bad_line e ≡ a → (b : Bool) → bad_code e ≡ b → tested a b ≡ Ok tt → (bad_line e ≡ false) × (bad_code e ≡ false)
    go true p b q h = absurd (none-some _ (sym (ap result_err h)))
    go false p true q h = absurd (none-some _ (sym (ap result_err h)))
    go false p false q h = (p, q)

module _ (m : Tables) (e : Event) where
  pub row_over : (m.status ≡ On → ⊥) → refusal (view m) e ≡ Some Over
  unfolding refusal rows
  row_over h = rw (stops m h)

  module _ (on : m.status ≡ On) where
    pub row_odd : (w : Refusal) → checked e ≡ Err w → refusal (view m) e ≡ Some w
    unfolding refusal rows
    row_odd w h = go (bad_line e) refl (bad_code e) refl h
      where
        go : (a : Bool) → bad_line e ≡ a → (b : Bool) → bad_code e ≡ b → tested a b ≡ Err w → refusal (view m) e ≡ Some w
        go true p b q h = rw (goes_on m on, p) (ap result_err h)
        go false p true q h = rw (goes_on m on, p, q) (ap result_err h)
        go false p false q h = absurd (none-some _ (ap result_err h))

    module _ (line : bad_line e ≡ false) (code : bad_code e ≡ false) where
      abbrev g : ℕ
      g = gap (clock e) (view m)

      pub row_back : gap_limit ≤ g → refusal (view m) e ≡ Some ClockBack
      unfolding refusal rows
      row_back h = rw (goes_on m on, line, code, le-leb gap_limit g h)

      module _ (forth : g < gap_limit) where
        pub row_full : time_limit < m.total + g → refusal (view m) e ≡ Some TimeFull
        unfolding refusal rows
        row_full h = rw (goes_on m on, line, code, lt-leb gap_limit g forth, lt-ltb time_limit (m.total + g) h)

        module _ (room : m.total + g ≤ time_limit) where
          pub row_nobody : (needs_runner e && leb base_slots m.running) ≡ true → refusal (view m) e ≡ Some NobodyRuns
          unfolding refusal rows
          row_nobody h = rw (goes_on m on, line, code, lt-leb gap_limit g forth, le-ltb time_limit (m.total + g) room, running_test m, h)

          pub row_none : (needs_runner e && leb base_slots m.running) ≡ false → refusal (view m) e ≡ None
          unfolding refusal rows
          row_none h = rw (goes_on m on, line, code, lt-leb gap_limit g forth, le-ltb time_limit (m.total + g) room, running_test m, h)

-- ---- what the verdict tells
-- an event that is not refused has passed each row
pub passes : (m : Tables) (e : Event) → refusal (view m) e ≡ None
    → (bad_line e ≡ false) × (m.total + gap (clock e) (view m) ≤ time_limit) × ((needs_runner e && leb base_slots m.running) ≡ false)
unfolding rows
passes m e h =
    let p = passed (view m) e h in
    (p.1.0, ltb-false time_limit (m.total + gap (clock e) (view m)) p.1.1.1.1.0, ap (λ b. needs_runner e && b) (sym (running_test m)) ∙ p.1.1.1.1.1.0)

-- ---- the answer
module _ (m : Tables) (g : Holds m) (e : Event) (r : Settled) where
  -- refused: the same machine, and the number alone
  pub says_no : (w : Refusal) → refusal (view m) e ≡ Some w → r.tables ≡ m → r.answer ≡ refusing w plain → Comes (step (view m) e) r
  unfolding refused
  says_no w h same told = record {
    seen = refuses (view m) e w h ∙ ap₂ (λ (a : Tables) (b : Answer). record { after = view a; answer = b }) (sym same) (sym told);
    shape = subst Shape (sym same) g.shape;
  }

  -- accepted: what it does to the machine with its gap charged
  pub says_yes : (k : Tables) → refusal (view m) e ≡ None → view k ≡ charge (clock e) (view m) → Comes (perform e (view k)) r → Comes (step (view m) e) r
  says_yes k h charged does = record { seen = accepts (view m) e h ∙ ap (perform e) (sym charged) ∙ does.seen; shape = does.shape }
