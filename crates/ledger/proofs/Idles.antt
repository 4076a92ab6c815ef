-- Why each processor's idle time is the sum of the accepted gaps there when nobody ran on it.
use Rattle.std.specs.Prelude.{if◌then◌else◌}
use mathlib.Core.Path.{◌≡◌, refl, sym, ◌∙◌, ap}
use mathlib.Core.Logic.{◌≢◌}
use mathlib.Core.Bool.{Bool, true, false}
use mathlib.Core.List.{List, [], ◌∷◌}
use Prim.Native.Nat.{ℕ, zero, suc, ◌+◌, ◌≤◌, ◌<◌}
use native.Mathlib.Omega.{arith}
use lib.Dec.{eqb, ltb}
use lib.ListN.{length, length-map, get_or, replicate}
use lib.Seq.{get_or-set_other}
use borrow.Author.Tests.{eqb-true, eqb-false, ltb-true, ltb-false}
use Rattle.rules.specs.declared.Arrival.{Arrival}
use Rattle.rules.specs.Machine.{Seat, Machine, blank, processors, here, turn, idle_from, fresh}
use Rattle.rules.specs.Answers.{Outcome}
use Rattle.rules.specs.Rules
use Rattle.rules.specs.Rules.{step, arrive, answers, run, stopped}
use Rattle.rules.proofs.Sound.{Settled}
use Rattle.rules.proofs.Turns.{turn_taken, here_turned, seat_turned, many_turned, settled_turned}
use Rattle.rules.proofs.Arrivals.{arrives_in, no_such_refused, settled_arrives}
use Rattle.ledger.specs.History.{Past, turned, arrived, idled, tally_at}
use Rattle.ledger.specs.Times.{idle_at}
use Rattle.ledger.proofs.Births.{Linked, linked_turned, linked_arrives}
use Rattle.ledger.proofs.Times.{idles, grown_here}

-- ── One seat of them ──

idle_got : (j : ℕ) (ss : List Seat) → (get_or ss j blank).idle ≡ get_or (idles ss) j 0
idle_got j [] = refl
idle_got zero (s ∷ ss) = refl
idle_got (suc j) (s ∷ ss) = idle_got j ss

-- the seat taken is here, and the one put back is what was here; the others are as they were
own_turned : (k : ℕ) (m : Machine) → k < processors m → idle_at k (turn k m) ≡ m.idle
own_turned k m l = ap (λ (u : Seat). u.idle) (seat_turned k m l)

other_turned : (j k : ℕ) (m : Machine) → k < processors m → j ≢ k → idle_at j (turn k m) ≡ idle_at j m
other_turned j k m l z = rw (turn_taken k m l) (ap (λ (u : Seat). u.idle) (get_or-set_other m.elsewhere k j (here m) blank z))

-- ── One event ──

abbrev at_one : ℕ → ℕ → ℕ → ℕ
at_one j k n = if eqb j k then n else 0

abbrev Own : ℕ → Past → Arrival → Machine → Outcome → Type 0
Own j h x m o = idle_at j o.after ≡ idle_at j m + at_one j x.processor (idled (turned x.processor h) x.event o.answer)

none_at_one : (j k n : ℕ) → n ≡ 0 → at_one j k n ≡ 0
none_at_one j k n e = rw e (go (eqb j k))
  where
    go : (c : Bool) → ◌≡◌ {A = ℕ} (if c then 0 else 0) 0
    go true = refl
    go false = refl

module _ (j : ℕ) (h : Past) (m : Machine) (x : Arrival) (s : Settled m) (t : Linked h m) where
  -- the machine turned to the processor, and after the event
  abbrev there : Machine
  there = turn x.processor m

  abbrev then_there : Machine
  then_there = (step there x.event).after

  grown_there : (then_there.idle ≡ there.idle + idled (turned x.processor h) x.event (step there x.event).answer) × (idles then_there.elsewhere ≡ idles there.elsewhere)
  grown_there =
      let g = grown_here (turned x.processor h) there x.event (settled_turned x.processor m s).1 (linked_turned x.processor h m t) in
      (g.1, g.2)

  as_many : processors then_there ≡ processors m
  as_many =
      sym (length-map then_there.elsewhere (λ (u : Seat). u.idle)) ∙ ap length grown_there.1 ∙ length-map there.elsewhere (λ (u : Seat). u.idle) ∙ many_turned x.processor m

  -- idle time in the j-th seat, while the event is in hand
  still : idle_at j then_there ≡ idle_at j there
  still = idle_got j then_there.elsewhere ∙ ap (λ (is : List ℕ). get_or is j 0) grown_there.1 ∙ sym (idle_got j there.elsewhere)

  own_in : x.processor < processors m → Own j h x m (arrive m x)
  own_in l = rw (arrives_in m x l) (go (eqb j x.processor) refl)
    where
      after : x.processor < processors then_there
      after = omega (arith, l, as_many)

      go : (b : Bool) → eqb j x.processor ≡ b
          → idle_at j (turn x.processor then_there) ≡ idle_at j m + (if b then idled (turned x.processor h) x.event (step there x.event).answer else 0)
      go true e =
          let same = eqb-true j x.processor e in
          let one : idle_at j (turn x.processor then_there) ≡ then_there.idle = ap (λ (i : ℕ). idle_at i (turn x.processor then_there)) same ∙ own_turned x.processor then_there after in
          let two : there.idle ≡ idle_at j m = ap (λ (u : Seat). u.idle) (here_turned x.processor m l) ∙ ap (λ (i : ℕ). idle_at i m) (sym same) in
          omega (arith, one, two, grown_there.0)
      go false e =
          let apart = eqb-false j x.processor e in
          omega (arith, other_turned j x.processor then_there after apart, still, other_turned j x.processor m l apart)

  -- a refused event adds nothing
  own_out : processors m ≤ x.processor → Own j h x m (arrive m x)
  unfolding Rules.refused
  own_out l =
      rw (no_such_refused m x l) (omega (arith, none_at_one j x.processor 0 refl))

  own_arrives : Own j h x m (arrive m x)
  own_arrives = go (ltb x.processor (processors m)) refl
    where
      go : (b : Bool) → ltb x.processor (processors m) ≡ b → Own j h x m (arrive m x)
      go true e = own_in (ltb-true x.processor (processors m) e)
      go false e = own_out (ltb-false x.processor (processors m) e)

-- ── Any events ──

pub own_all : (j : ℕ) (xs : List Arrival) (h : Past) (m : Machine) → Settled m → Linked h m → idle_at j (run m xs) ≡ idle_at j m + tally_at j idled h xs (answers m xs)
unfolding run answers
own_all j [] h m s t = omega arith
own_all j (x ∷ xs) h m s t =
    omega (
      arith,
      own_arrives j h m x s t,
      own_all j xs (arrived h x (arrive m x).answer) (arrive m x).after (settled_arrives m x s) (linked_arrives h m x s t),
    )

-- ── The start ──

none_yet : (j n now : ℕ) → (get_or (replicate n (idle_from now)) j blank).idle ≡ 0
none_yet j zero now = refl
none_yet zero (suc n) now = refl
none_yet (suc j) (suc n) now = none_yet j n now

pub fresh_idle : (j slots others now : ℕ) (values ceilings : List ℕ) → idle_at j (turn 0 (fresh slots others now values ceilings)) ≡ 0
unfolding fresh
fresh_idle zero slots others now values ceilings = own_turned 0 (fresh slots others now values ceilings) (omega arith)
fresh_idle (suc j) slots others now values ceilings =
    other_turned (suc j) 0 (fresh slots others now values ceilings) (omega arith) (λ (z : suc j ≡ 0). omega arith) ∙ none_yet j others now
