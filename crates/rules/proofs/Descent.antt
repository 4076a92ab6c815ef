-- Whoever has no parent is id 1, and a child of a customer other than 0 is of its parent's customer.
use Rattle.std.specs.Prelude.{if◌then◌else◌}
use mathlib.Core.Path.{◌≡◌, refl, sym, subst}
use mathlib.Core.Bool.{Bool, true, false, ◌||◌}
use mathlib.Core.List.{List, ◌∷◌, [], map}
use Prim.Native.Nat.{ℕ, ◌/◌, ◌≤◌, ◌<◌}
use native.Mathlib.Omega.{arith}
use lib.Dec.{eqb, ltb}
use borrow.Author.Tests.{eq-eqb, ne_eqb}
use Rattle.rules.specs.declared.Event.{Event}
use Rattle.rules.specs.Words.{first, sum, count, many, Single, All}
use Rattle.rules.specs.Numbers.{customer_unit}
use Rattle.rules.specs.Machine.{Process, Machine, Status, seated_in, ready, living, with_sem, with_status, kill, newborn, birth, charge, child_of, fresh}
use Rattle.rules.specs.Rules
use Rattle.rules.specs.Rules.{step}
use Rattle.rules.specs.Tables.{Sound, Rooted, inherits}
use Rattle.rules.proofs.Cases.{All-append, All-each, All-both}
use Rattle.rules.proofs.Lines.{count_le, many_fail}
use Rattle.rules.proofs.Living.{Same, process, living_sum, all_running, each_killed, each_born, each_charged, fresh_living}
use Rattle.rules.proofs.Walk.{Kept, step_keeps}
use Rattle.rules.proofs.Sound.{sound_set, sound_charged, issued}
use Rattle.rules.proofs.Kin.{Kin, Older, kin_kept, set_kin, charged}

-- everyone in the list is of the customer that a parent among these gives it
abbrev Inherited : List Process → List Process → Type 0
Inherited qs ps = All (λ p. All (λ q. inherits q p ≡ true) qs) ps

pub record Descent (m : Machine) : Type 0 where
  pub rooted : All Rooted (living m)
  pub inherited : Inherited (living m) (living m)

-- whatever holds for each of these holds for each of those: of the parents, and then of the children
both_each : (qs rs : List Process) → ((P : Process → Type 0) → All P qs → All P rs) → Inherited qs qs → Inherited rs rs
both_each qs rs f h = f _ (All-each _ _ (λ p k. f _ k) qs h)

-- ── A birth ──

-- nobody's parent is the one who is born now: ancestors are older
not_yet : (n : ℕ) (b p : Process) → b.id ≡ n → p.id < n → Older p → inherits b p ≡ true
not_yet n b p e l o = go p.ancestors o.1
  where
    go : (as' : List ℕ) → All (λ a. a < p.id) as' → (if first as' false (λ a. eqb a b.id) then eqb b.customer 0 || eqb p.customer b.customer else true) ≡ true
    go [] k = refl
    go (a ∷ as') k = rw (e, ne_eqb a n (omega (arith, k.0, l)))

-- the caller's child is of the caller's customer, or the caller is customer 0
of_caller : (c a2 : ℕ) → (eqb c 0 || eqb (child_of c a2) c) ≡ true
of_caller c a2 = go (eqb c 0)
  where
    go : (b : Bool) → (b || eqb (if b then a2 / customer_unit else c) c) ≡ true
    go true = refl
    go false = eq-eqb c c refl

module _ (a2 a3 : ℕ) (p : Process) (m : Machine) (r : m.running ≡ p ∷ []) (s : Sound m) (k : Kin m) where
  abbrev b : Process
  b = newborn p a2 a3 m

  fits : All (λ q. (q.id < m.next) × Older q) (living m)
  fits = All-both _ _ _ (λ q x y. (x, y)) (living m) (issued m s) k.older

  caller_fits : (p.id < m.next) × Older p
  caller_fits = (subst (All (λ q. (q.id < m.next) × Older q)) r (all_running _ m fits)).0

  -- nobody else has the caller's id
  other : (q : Process) → eqb p.id q.id ≡ false → inherits q b ≡ true
  other q e = rw e

  others : (qs : List Process) → many (λ q. eqb p.id q.id) qs ≤ 0 → All (λ q. inherits q b ≡ true) qs
  others qs z = All-each (λ q. eqb p.id q.id ≡ false) (λ q. inherits q b ≡ true) other qs (many_fail (λ q. eqb p.id q.id) qs z)

  of_all : All (λ q. inherits q b ≡ true) (living m)
  unfolding living
  of_all =
      let f : Process → ℕ = λ q. count (eqb p.id q.id) in
      let one : sum f m.running ≡ 1 = rw (r, eq-eqb p.id p.id refl) in
      let all : sum f (living m) ≤ 1 = omega (arith, s.ids p.id, count_le (ltb p.id m.next)) in
      let parts = living_sum f m in
      let here : inherits p b ≡ true = rw (eq-eqb p.id p.id refl) (of_caller p.customer a2) in
      All-append _ m.running _ (subst (All (λ q. inherits q b ≡ true)) (sym r) (here, tt))
      (All-append _ (seated_in m.elsewhere) _ (others (seated_in m.elsewhere) (omega (arith, parts, one, all)))
      (All-append _ (ready m) _ (others (ready m) (omega (arith, parts, one, all))) (others (map process m.waiting) (omega (arith, parts, one, all)))))

  -- the newborn is no parent of its own
  of_itself : inherits b b ≡ true
  of_itself = rw (ne_eqb p.id m.next (omega (arith, caller_fits.0)))

  born : Descent m → Descent (birth p a2 a3 m)
  born h = record {
    rooted = each_born Rooted p a2 a3 m tt h.rooted;
    inherited = each_born (λ c. All (λ q. inherits q c ≡ true) (living (birth p a2 a3 m))) p a2 a3 m
        (each_born (λ q. inherits q b ≡ true) p a2 a3 m of_itself of_all)
        (All-both _ _ _ (λ c x y. each_born (λ q. inherits q c ≡ true) p a2 a3 m (not_yet m.next b c refl x.0 x.1) y) (living m) fits h.inherited);
  }

-- ── Every event keeps it ──

stopped : (s : Status) (m : Machine) → Descent m → Descent (with_status s m)
unfolding living
stopped s m h = record { rooted = h.rooted; inherited = h.inherited }

set_descent : (i v : ℕ) (m : Machine) → Descent m → Descent (with_sem i v m)
unfolding living
set_descent i v m h = record { rooted = h.rooted; inherited = h.inherited }

killed : (n : ℕ) (m : Machine) → Descent m → Descent (kill n m)
killed n m h = record { rooted = each_killed Rooted n m h.rooted; inherited = both_each (living m) (living (kill n m)) (λ P. each_killed P n m) h.inherited }

charged_descent : (now : ℕ) (m : Machine) → Descent m → Descent (charge now m)
charged_descent now m h = record {
  rooted = each_charged Rooted (λ g p k. k) now m h.rooted;
  inherited = each_charged (λ p. All (λ q. inherits q p ≡ true) (living (charge now m))) (λ g p k. k) now m
      (All-each _ _ (λ p k. each_charged (λ q. inherits q p ≡ true) (λ g q k. k) now m k) (living m) h.inherited);
}

pub moved_descent : (m m' : Machine) → Same (living m) (living m') → Descent m → Descent m'
moved_descent m m' s h = record { rooted = s.each Rooted h.rooted; inherited = both_each (living m) (living m') (λ P. s.each P) h.inherited }

AllThree : Machine → Type 0
AllThree m = Sound m × Kin m × Descent m

descent_kept : Kept AllThree (λ x. AllThree)
unfolding AllThree
descent_kept = record {
  begins = λ m h. h;
  tells = λ a r d w x m h. h;
  moves = λ r hs ls n w x m s h. let k = kin_kept.moves r hs ls n w x m s (h.0, h.1) in (k.0, k.1, moved_descent m _ s h.2);
  stops = λ s x m h. let k = kin_kept.stops s x m (h.0, h.1) in (k.0, k.1, stopped s m h.2);
  kills = λ n m h. let k = kin_kept.kills n m (h.0, h.1) in (k.0, k.1, killed n m h.2);
  births = λ a2 a3 p m e r h. let k = kin_kept.births a2 a3 p m e r (h.0, h.1) in (k.0, k.1, born a2 a3 p m r h.0 h.1 h.2);
}

pub stays_descent : (m : Machine) (e : Event) → Single m.running → Sound m → Kin m → Descent m → Descent (step m e).after
unfolding AllThree
stays_descent m e one s k h =
    (step_keeps AllThree descent_kept (λ i v m h. (sound_set i v m h.0, set_kin i v m h.1, set_descent i v m h.2)) m e one
    (λ _. (sound_charged (Rules.clock e) m s, charged (Rules.clock e) m k, charged_descent (Rules.clock e) m h)) (s, k, h)).2

pub fresh_descent : (slots others now : ℕ) (values ceilings : List ℕ) → Descent (fresh slots others now values ceilings)
fresh_descent slots others now values ceilings = record { rooted = rw (fresh_living slots others now values ceilings) ((refl, refl), tt); inherited = rw (fresh_living slots others now values ceilings) ((refl, tt), tt) }
