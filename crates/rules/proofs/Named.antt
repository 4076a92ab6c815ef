-- THE NEW MASK: bit k is set exactly where whoever runs on processor k ends, and never for the processor of the event
-- itself.
use Rattle.std.specs.Prelude.{if◌then◌else◌}
use mathlib.Core.Path.{◌≡◌, refl, ◌∙◌, ap}
use mathlib.Core.Bool.{Bool, true, false}
use mathlib.Core.List.{List, [], ◌∷◌}
use Prim.Native.Nat.pow
use Prim.Native.Nat.{ℕ, zero, suc, ◌+◌, ◌*◌, ◌/◌, ◌%◌, ◌^◌}
use native.Mathlib.Omega.{arith}
use lib.Dec.{ltb}
use lib.ListN.{get_or}
use borrow.Author.Tests.{ltb-true, ltb-false}
use Rattle.rules.specs.declared.Event.{Event}
use Rattle.rules.specs.declared.Arrival.{Arrival}
use Rattle.rules.specs.declared.Answer.{Answer}
use Rattle.rules.specs.Words.{any, count, Single}
use Rattle.rules.proofs.Cases.{maybe_cases}
use Rattle.rules.specs.Machine.{Process, Seat, Machine, family, rid_of, kill, birth, charge, blank, processors, turn}
use Rattle.rules.specs.Answers.{Outcome, processors_of, left_idle}
use Rattle.rules.specs.Rules
use Rattle.rules.specs.Rules.{step, arrive}
use Rattle.rules.proofs.Walk.{Kept, perform_keeps, charge_single}
use Rattle.rules.proofs.Laws.{BlankAt, rid_at}
use Rattle.rules.proofs.Turns.{seat_turned}
use Rattle.rules.proofs.Arrivals.{arrives_in, no_such_refused}
use Rattle.rules.specs.Tables.{Rests}
use Rattle.rules.proofs.Tables.{tables_turned}

-- the k-th bit
abbrev pub bit : ℕ → ℕ → ℕ
bit zero n = n % 2
bit (suc k) n = bit k (n / 2)

pub shifted : (t : Process → Bool) (n : ℕ) (ss : List Seat) → processors_of t (suc n) ss ≡ 2 * processors_of t n ss
shifted t n [] = refl
shifted t n (s ∷ ss) = go (any t s.running) (shifted t (suc n) ss)
  where
    go : (b : Bool) → processors_of t (suc (suc n)) ss ≡ 2 * processors_of t (suc n) ss
        → (if b then 2 ^ suc n else 0) + processors_of t (suc (suc n)) ss ≡ 2 * ((if b then 2 ^ n else 0) + processors_of t (suc n) ss)
    go true ih = omega (arith, ih, pow.suc 2 n)
    go false ih = omega (arith, ih)

no_bits : (k : ℕ) → bit k 0 ≡ 0
no_bits zero = refl
no_bits (suc k) = no_bits k

-- bit k is set exactly where somebody runs in the k-th seat who passes
pub bit_named : (t : Process → Bool) (k : ℕ) (ss : List Seat) → bit k (processors_of t 0 ss) ≡ count (any t (get_or ss k blank).running)
bit_named t k [] = no_bits k
bit_named t zero (s ∷ ss) = rw (shifted t 0 ss) (go (any t s.running) (processors_of t 0 ss))
  where
    go : (b : Bool) (n : ℕ) → ((if b then 2 ^ 0 else 0) + 2 * n) % 2 ≡ count b
    go true n = omega arith
    go false n = omega arith
bit_named t (suc k) (s ∷ ss) = rw (shifted t 0 ss) (ap (bit k) (go (any t s.running) (processors_of t 0 ss)) ∙ bit_named t k ss)
  where
    go : (b : Bool) (n : ℕ) → ((if b then 2 ^ 0 else 0) + 2 * n) / 2 ≡ n
    go true n = omega arith
    go false n = omega arith

-- ── Never the event's own ──

record Unnamed (k : ℕ) (x : Answer) (m : Machine) : Type 0 where
  still_blank : BlankAt k m
  bit_clear : bit k x.idled ≡ 0

unnamed : (k : ℕ) → Kept (BlankAt k) (Unnamed k)
unfolding kill birth left_idle
unnamed k = record {
  begins = λ m h. record { still_blank = h; bit_clear = no_bits k };
  tells = λ a r d w x m h. record { still_blank = h.still_blank; bit_clear = h.bit_clear };
  moves = λ r hs ls n w x m s h. record { still_blank = h.still_blank; bit_clear = h.bit_clear };
  stops = λ s x m h. record { still_blank = h.still_blank; bit_clear = h.bit_clear };
  kills = λ n m h. record {
    still_blank = rid_at n k m.elsewhere ∙ ap (rid_of n) h;
    bit_clear = bit_named (family n) k m.elsewhere ∙ ap (λ (s : Seat). count (any (family n) s.running)) h;
  };
  births = λ a2 a3 p m e r h. record { still_blank = h; bit_clear = no_bits k };
}

stays_unnamed : (k : ℕ) (m : Machine) (e : Event) → Single m.running → BlankAt k m → bit k (step m e).answer.idled ≡ 0
unfolding step Rules.refused charge
stays_unnamed k m e one h =
    maybe_cases (λ (o : Outcome). bit k o.answer.idled ≡ 0) (Rules.refusal m e)
    (λ _. (perform_keeps (BlankAt k) (Unnamed k) (unnamed k) (λ i v m h. record { still_blank = h; bit_clear = no_bits k }) (charge (Rules.clock e) m) e (charge_single (Rules.clock e) m one) h).bit_clear)
    (λ r no. no_bits k)

pub own_not_named : (slots sems customers seats : ℕ) (m : Machine) (x : Arrival) → Rests slots sems customers seats m → bit x.processor (arrive m x).answer.idled ≡ 0
unfolding Rules.refused
own_not_named slots sems customers seats m x r = go (ltb x.processor (processors m)) refl
  where
    go : (b : Bool) → ltb x.processor (processors m) ≡ b → bit x.processor (arrive m x).answer.idled ≡ 0
    go true e =
        let k = x.processor in
        let l = ltb-true k (processors m) e in
        ap (λ (o : Outcome). bit k o.answer.idled) (arrives_in m x l)
        ∙ stays_unnamed k (turn k m) x.event (tables_turned slots sems customers seats k m r.tables).one_runs (seat_turned k m l ∙ r.nothing_here)
    go false e = ap (λ (o : Outcome). bit x.processor o.answer.idled) (no_such_refused m x (ltb-false x.processor (processors m) e)) ∙ no_bits x.processor
