-- Why the target that births and answers tell is the one whom the event ends.
use Rattle.std.specs.Prelude.{if◌then◌else◌}
use mathlib.Core.Path.{◌≡◌, refl, sym, ◌∙◌, ap, ap₂}
use mathlib.Core.Bool.{Bool, true, false, not, ◌&&◌, ◌||◌}
use mathlib.Core.List.{List, [], ◌∷◌}
use Prim.Native.Nat.{ℕ, suc, ◌+◌, ◌≤◌}
use native.Mathlib.Omega.{arith}
use lib.Dec.{eqb, leb}
use lib.IntN.{pos, negsuc}
use lib.ListN.{length}
use borrow.Author.Tests.{eqb-true, leb-true, leb-false, lt-leb}
use Rattle.rules.specs.declared.Mode.TheVariants.{User, Kernel}
use Rattle.rules.specs.declared.Event.{Event}
use Rattle.rules.specs.declared.Event.TheVariants.{Call, Interrupt, Exception}
use Rattle.rules.specs.Words.{first, those, any, among, All}
use Rattle.rules.specs.Machine.{Process, Machine, living, family}
use Rattle.rules.proofs.Living.{all_running}
use Rattle.rules.specs.Rules.{value, may_name}
use Rattle.rules.specs.Tables.{slots_of}
use Rattle.ledger.specs.History.{Birth, Past, holder, chain}
use Rattle.ledger.specs.Places.{has, alive}
use Rattle.ledger.specs.Kills.{bad_call, passed_up, terminates, valid_name, target_by, target}
use Rattle.ledger.specs.Targets.{Standing, traps, goes_up, names, allowed, ends_by, target_told}
use Rattle.ledger.specs.Customers.{Belongs}
use Rattle.ledger.proofs.Births.{Known, Handled, Linked}

-- what is told beside the past is the machine's
pub record Stands (st : Standing) (m : Machine) : Type 0 where
  pub sems : st.sems ≡ length m.sems
  pub value : (i : ℕ) → st.value i ≡ value i m
  pub alive : (n : ℕ) → st.alive n ≡ alive n m

-- issued once, and not ended: alive
pub is_alive : (a b c : ℕ) → a ≡ b + c → a ≤ 1 → (leb 1 a && not (leb 1 b)) ≡ leb 1 c
is_alive a b c e l = go (leb 1 b) refl
  where
    never : (d : Bool) → (d && false) ≡ false
    never true = refl
    never false = refl

    always : (d : Bool) → (d && true) ≡ d
    always true = refl
    always false = refl

    go : (d : Bool) → leb 1 b ≡ d → (leb 1 a && not d) ≡ leb 1 c
    go true f = let z = leb-true 1 b f in never (leb 1 a) ∙ sym (lt-leb 1 c (omega arith))
    go false f = let z = leb-false 1 b f in let q : a ≡ c = omega arith in always (leb 1 a) ∙ ap (leb 1) q

traps_told : (st : Standing) (m : Machine) → Stands st m → (n a1 : ℕ) → traps st n a1 ≡ bad_call n a1 m
traps_told st m s n a1 = rw (s.sems, s.value a1)

up_told : (st : Standing) (m : Machine) → Stands st m → (e : Event) → goes_up st e ≡ passed_up e m
up_told st m s (Call now User a0 a1 a2 a3) = refl
up_told st m s (Call now Kernel (pos n) a1 a2 a3) = refl
up_told st m s (Call now Kernel (negsuc k) a1 a2 a3) = traps_told st m s (suc k) a1
up_told st m s (Interrupt now n x y) = refl
up_told st m s (Exception now code) = refl

names_told : (e : Event) (p : Process) → names e p.id ≡ terminates e p
names_told (Call now User a0 a1 a2 a3) p = refl
names_told (Call now Kernel (pos n) a1 a2 a3) p = refl
names_told (Call now Kernel (negsuc k) a1 a2 a3) p = refl
names_told (Interrupt now n x y) p = refl
names_told (Exception now code) p = refl

-- of those whose births are known, who has the id n may be named exactly where n may be
module _ (bs : List Birth) (p : Process) (b : Belongs bs p) (n : ℕ) where
  may_told : (q : Process) → Known bs q → has n q ≡ true → may_name p q ≡ allowed bs p.id n
  unfolding may_name family
  may_told q k e =
      let i : q.id ≡ n = sym (eqb-true n q.id e) in
      ap₂ {A = ℕ} {B = List ℕ} (λ c ns. eqb c 0 || among p.id ns) (sym b)
      (ap₂ {A = ℕ} {B = List ℕ} (λ k ks. k ∷ ks) i (sym k.1 ∙ ap (λ (k : ℕ). chain k bs) i))

  valid_told : (qs : List Process) → All (Known bs) qs → (any (has n) qs && allowed bs p.id n) ≡ any (λ q. has n q && may_name p q) qs
  valid_told [] h = refl
  valid_told (q ∷ qs) h = go (has n q) refl (valid_told qs h.1)
    where
      same : (a t u : Bool) → (a && t) ≡ u → ((true || a) && t) ≡ ((true && t) || u)
      same a true u e = refl
      same true false u e = e
      same false false u e = e

      go : (c : Bool) → has n q ≡ c → (any (has n) qs && allowed bs p.id n) ≡ any (λ q. has n q && may_name p q) qs
          → ((c || any (has n) qs) && allowed bs p.id n) ≡ ((c && may_name p q) || any (λ q. has n q && may_name p q) qs)
      go true e ih = rw (may_told q h.0 e) (same (any (has n) qs) (allowed bs p.id n) _ ih)
      go false e ih = ih

-- the first one is alike, or nobody
those_one : (t u : ℕ → Bool) (ns : List ℕ) → ((n : ℕ) → t n ≡ u n) → those t ns ≡ those u ns
those_one t u [] h = refl
those_one t u (n ∷ ns) h = rw (h n) (ap (λ (l : List ℕ). if u n then n ∷ l else l) (those_one t u ns h))

pub target_same : (st : Standing) (h : Past) (m : Machine) (e : Event) → Stands st m → Linked h m → target_told st h e ≡ target e m
target_same st h m e s k =
    rw k.runner (go m.running (all_running (Known bs) m k.told.known) (all_running (Belongs bs) m k.belongs) (all_running (Handled bs) m k.handled))
  where
    bs : List Birth
    bs = h.births

    valid : (p : Process) → Belongs bs p → (n : ℕ) → (st.alive n && allowed bs p.id n) ≡ valid_name p m n
    valid p b n = ap (λ (a : Bool). a && allowed bs p.id n) (s.alive n) ∙ valid_told bs p b n (living m) k.told.known

    go : (rs : List Process) → All (Known bs) rs → All (Belongs bs) rs → All (Handled bs) rs → first (slots_of rs) [] (λ s. ends_by st bs e (holder s bs)) ≡ first rs [] (target_by e m)
    go [] a b c = refl
    go (p ∷ ps) a b c =
        ap (λ (n : ℕ). ends_by st bs e n) a.0.0
        ∙ rw (up_told st m s e, c.0, names_told e p)
        (ap (λ (l : List ℕ). if passed_up e m then (if eqb p.handle 0 then p.id ∷ [] else []) else l)
        (those_one (λ n. st.alive n && allowed bs p.id n) (valid_name p m) (terminates e p) (valid p b.0)))
