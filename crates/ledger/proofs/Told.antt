-- Why what births and sums tell is what the machine keeps, and what −6, −8 and −9 answer.
use Rattle.std.specs.Prelude.{if◌then◌else◌, Some, None}
use mathlib.Core.Path.{◌≡◌, refl, sym, ◌∙◌, ap, ap₂, subst}
use mathlib.Core.Bool.{Bool, true, false, true≢false}
use mathlib.Core.List.{List, [], ◌∷◌}
use Prim.Native.Nat.{ℕ, suc, ◌+◌}
use native.Mathlib.Omega.{arith}
use lib.Dec.{eqb}
use lib.IntN.{pos, negsuc}
use borrow.Author.Tests.{eqb-true}
use Rattle.rules.specs.declared.Mode.TheVariants.{User, Kernel}
use Rattle.rules.specs.declared.Event.{Event}
use Rattle.rules.specs.declared.Event.TheVariants.{Call, Interrupt, Exception}
use Rattle.rules.specs.Words.{first, Single, All}
use Rattle.rules.specs.Machine.{Process, Machine, living, longer, gap, charge}
use Rattle.rules.proofs.Living.{all_running}
use Rattle.rules.specs.Answers.{Outcome}
use Rattle.rules.specs.Rules
use Rattle.rules.specs.Rules.{step, refusal, service}
use Rattle.rules.proofs.Laws.{accepts, passed}
use Rattle.ledger.specs.History.{Past, running_id, chain, handle_by}
use Rattle.ledger.specs.Told.{ToldOf, parent_by, time_by, asked, Tells}
use Rattle.ledger.specs.Customers.{Belongs}
use Rattle.ledger.proofs.Births.{Known, Ranked, Handled, Linked, caller}
use Rattle.ledger.proofs.Times.{gap_told}

pub all_told : (h : Past) (m : Machine) → Linked h m → All (ToldOf h.births) (living m)
all_told h m k = go (living m) k.told.known k.belongs k.ranked k.handled
  where
    go : (ps : List Process) → All (Known h.births) ps → All (Belongs h.births) ps → All (Ranked h.births) ps → All (Handled h.births) ps → All (ToldOf h.births) ps
    go [] a b c d = tt
    go (p ∷ ps) a b c d = (record { id = a.0.0; ancestors = a.0.1; customer = b.0; priority = c.0; handle = d.0 }, go ps a.1 b.1 c.1 d.1)

-- ── What the three calls answer ──

module _ (p : Process) (a1 a2 a3 : ℕ) (m : Machine) where
  six : (n : ℕ) → n ≡ 5 → (service Kernel (negsuc n) p a1 a2 a3 m).answer.result ≡ Some (pos p.time)
  unfolding service Rules.services Rules.cpu_time Rules.carry_on
  six n e = rw e refl

  eight : (n : ℕ) → n ≡ 7 → (service Kernel (negsuc n) p a1 a2 a3 m).answer.result ≡ Some (pos p.handle)
  unfolding service Rules.services Rules.support Rules.carry_on
  eight n e = rw e refl

  nine : (n : ℕ) → n ≡ 8 → (service Kernel (negsuc n) p a1 a2 a3 m).answer.result ≡ Some (pos (if eqb a1 0 then p.id else first p.ancestors 0 (λ a. a)))
  unfolding service Rules.services Rules.identity Rules.carry_on
  nine n e = rw e refl

-- the event is the call of whoever runs
by_runner : (now n a1 a2 a3 : ℕ) (m : Machine) (p : Process) → m.running ≡ p ∷ [] → refusal m (Call now Kernel (negsuc n) a1 a2 a3) ≡ None
    → step m (Call now Kernel (negsuc n) a1 a2 a3) ≡ service Kernel (negsuc n) (longer (gap now m) p) a1 a2 a3 (charge now m)
unfolding Rules.call charge
by_runner now n a1 a2 a3 m p r ok = accepts m (Call now Kernel (negsuc n) a1 a2 a3) ok ∙ ran
  where
    ran : Rules.call Kernel (negsuc n) a1 a2 a3 (charge now m) ≡ service Kernel (negsuc n) (longer (gap now m) p) a1 a2 a3 (charge now m)
    ran = rw r refl

module _ (ran : ℕ → ℕ) (h : Past) (m : Machine) (one : Single m.running) (k : Linked h m) (t : All (λ p. p.time ≡ ran p.id) (living m)) where
  module _ (now n a1 a2 a3 : ℕ) (ok : refusal m (Call now Kernel (negsuc n) a1 a2 a3) ≡ None) (p : Process) (r : m.running ≡ p ∷ []) where
    abbrev e : Event
    e = Call now Kernel (negsuc n) a1 a2 a3

    runs : running_id h ≡ p.id
    runs = caller h p m.running (all_running (Known h.births) m k.told.known) k.runner r

    known : Known h.births p
    known = (subst (All (Known h.births)) r (all_running (Known h.births) m k.told.known)).0

    handled : Handled h.births p
    handled = (subst (All (Handled h.births)) r (all_running (Handled h.births) m k.handled)).0

    timed : p.time ≡ ran p.id
    timed = (subst (All (λ q. q.time ≡ ran q.id)) r (all_running (λ q. q.time ≡ ran q.id) m t)).0

    time_told : p.time + gap now m ≡ time_by ran h e
    time_told = ap₂ {A = ℕ} {B = ℕ} (λ a b. a + b) (timed ∙ ap ran (sym runs)) (sym (gap_told h m e k))

    handle_told : p.handle ≡ handle_by (running_id h) h.births
    handle_told = sym handled ∙ ap (λ (i : ℕ). handle_by i h.births) (sym runs)

    parent_told : first p.ancestors 0 (λ a. a) ≡ parent_by (running_id h) h.births
    parent_told = ap (λ (ns : List ℕ). first ns 0 (λ a. a)) (sym known.1 ∙ ap (λ (i : ℕ). chain i h.births) (sym runs))

    id_told : (if eqb a1 0 then p.id else first p.ancestors 0 (λ a. a)) ≡ (if eqb a1 0 then running_id h else parent_by (running_id h) h.births)
    id_told = ap₂ {A = ℕ} {B = ℕ} (λ i j. if eqb a1 0 then i else j) (sym runs) parent_told

    answer : (step m e).answer.result ≡ (service Kernel (negsuc n) (longer (gap now m) p) a1 a2 a3 (charge now m)).answer.result
    answer = ap (λ (o : Outcome). o.answer.result) (by_runner now n a1 a2 a3 m p r ok)

    result : first (asked ran h e) (Unit {0}) (λ v. (step m e).answer.result ≡ Some (pos v))
    result = go (eqb (suc n) 6) refl (eqb (suc n) 8) refl (eqb (suc n) 9) refl
      where
        q : Process
        q = longer (gap now m) p

        go : (b : Bool) → eqb (suc n) 6 ≡ b → (c : Bool) → eqb (suc n) 8 ≡ c → (d : Bool) → eqb (suc n) 9 ≡ d
            → first (if b then time_by ran h e ∷ []
            else (if c then handle_by (running_id h) h.births ∷ []
            else (if d then (if eqb a1 0 then running_id h else parent_by (running_id h) h.births) ∷ [] else []))) (Unit {0}) (λ v. (step m e).answer.result ≡ Some (pos v))
        go true x c y d z = let i = eqb-true (suc n) 6 x in answer ∙ six (longer (gap now m) p) a1 a2 a3 (charge now m) n (omega arith) ∙ ap (λ (v : ℕ). Some (pos v)) time_told
        go false x true y d z = let i = eqb-true (suc n) 8 y in answer ∙ eight (longer (gap now m) p) a1 a2 a3 (charge now m) n (omega arith) ∙ ap (λ (v : ℕ). Some (pos v)) handle_told
        go false x false y true z = let i = eqb-true (suc n) 9 z in answer ∙ nine (longer (gap now m) p) a1 a2 a3 (charge now m) n (omega arith) ∙ ap (λ (v : ℕ). Some (pos v)) id_told
        go false x false y false z = tt

  a_call : (now n a1 a2 a3 : ℕ) → refusal m (Call now Kernel (negsuc n) a1 a2 a3) ≡ None
      → first (asked ran h (Call now Kernel (negsuc n) a1 a2 a3)) (Unit {0}) (λ v. (step m (Call now Kernel (negsuc n) a1 a2 a3)).answer.result ≡ Some (pos v))
  unfolding Rules.rows Rules.needs_runner
  a_call now n a1 a2 a3 ok = go m.running refl one (passed m (Call now Kernel (negsuc n) a1 a2 a3) ok).1.1.1.1.1.0
    where
      go : (ps : List Process) → m.running ≡ ps → Single ps → first ps true (λ p. false) ≡ false
          → first (asked ran h (Call now Kernel (negsuc n) a1 a2 a3)) (Unit {0}) (λ v. (step m (Call now Kernel (negsuc n) a1 a2 a3)).answer.result ≡ Some (pos v))
      go [] r s f = absurd (true≢false f)
      go (p ∷ ps) r s f = result now n a1 a2 a3 ok p (r ∙ ap (λ (qs : List Process). p ∷ qs) s)

  pub tells_hold : (e : Event) → refusal m e ≡ None → Tells ran h e (step m e).answer
  tells_hold (Call now User a0 a1 a2 a3) ok = record { result_told = tt }
  tells_hold (Call now Kernel (pos n) a1 a2 a3) ok = record { result_told = tt }
  tells_hold (Call now Kernel (negsuc n) a1 a2 a3) ok = record { result_told = a_call now n a1 a2 a3 ok }
  tells_hold (Interrupt now n x y) ok = record { result_told = tt }
  tells_hold (Exception now code) ok = record { result_told = tt }
