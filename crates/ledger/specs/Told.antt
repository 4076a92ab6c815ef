-- WHAT IS TOLD IS SO. What births tell of everyone alive is what the machine keeps of them: their id by their slot,
-- their ancestors, customer, priority and support handle. And what −6, −8 and −9 answer is what the sums and the births
-- tell.
use Rattle.std.specs.Prelude.{◌≡◌, List, [], ◌∷◌, ℕ, suc, ◌+◌, eqb, pos, negsuc, if◌then◌else◌, Some}
use Rattle.rules.specs.declared.Mode.TheVariants.{User, Kernel}
use Rattle.rules.specs.declared.Event.{Event}
use Rattle.rules.specs.declared.Event.TheVariants.{Call, Interrupt, Exception}
use Rattle.rules.specs.declared.Answer.{Answer}
use Rattle.rules.specs.Words.{first}
use Rattle.rules.specs.Machine.{Process}
use Rattle.ledger.specs.History.{Birth, Past, holder, chain, customer_by, priority_by, handle_by, running_id, gap_of}

pub record ToldOf (bs : List Birth) (p : Process) : Type 0 where
  pub id : holder p.slot bs ≡ p.id
  pub ancestors : chain p.id bs ≡ p.ancestors
  pub customer : customer_by p.id bs ≡ p.customer
  pub priority : priority_by p.id bs ≡ p.priority
  pub handle : handle_by p.id bs ≡ p.handle

-- "0 for id 1"
abbrev pub parent_by : ℕ → List Birth → ℕ
parent_by n bs = first (chain n bs) 0 (λ a. a)

-- what whoever runs has run for, "this event's gap included"; `ran` is what each id has run for so far
abbrev pub time_by : (ℕ → ℕ) → Past → Event → ℕ
time_by ran h e = ran (running_id h) + gap_of h e

-- −6: "caller's time, this event's gap included"; −8: "support handle or 0"; −9: "a1 = 0 own id, otherwise the
-- parent's". Nothing where the event asks none of these
abbrev pub asked : (ℕ → ℕ) → Past → Event → List ℕ
asked ran h (Call now User a0 a1 a2 a3) = []
asked ran h (Call now Kernel (pos n) a1 a2 a3) = []
asked ran h (Call now Kernel (negsuc k) a1 a2 a3) =
    if eqb (suc k) 6 then time_by ran h (Call now Kernel (negsuc k) a1 a2 a3) ∷ []
    else (if eqb (suc k) 8 then handle_by (running_id h) h.births ∷ []
    else (if eqb (suc k) 9 then (if eqb a1 0 then running_id h else parent_by (running_id h) h.births) ∷ [] else []))
asked ran h (Interrupt now n x y) = []
asked ran h (Exception now code) = []

-- the answer a to an accepted event e after the past h
pub record Tells (ran : ℕ → ℕ) (h : Past) (e : Event) (a : Answer) : Type 0 where
  pub result_told : first (asked ran h e) (Unit {0}) (λ n. a.result ≡ Some (pos n))
