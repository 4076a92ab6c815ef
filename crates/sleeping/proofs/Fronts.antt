-- The rows that the code finds by a walk are those that the rule book names.
-- Assumes nothing.
use Rattle.std.specs.Prelude.{cond, if◌then◌else◌}
use mathlib.Core.Path.{◌≡◌, refl, ap}
use mathlib.Core.Bool.{Bool, true, false, not, ◌||◌}
use mathlib.Core.List.{List, [], ◌∷◌}
use Prim.Native.Nat.{ℕ, zero, suc, ◌+◌, ◌≤◌, ◌<◌}
use native.Mathlib.Omega.{arith}
use lib.Dec.{leb, ltb}
use lib.ListN.{length, take, drop}
use borrow.Author.Tests.{leb-true, leb-false, lt-leb, lt-ltb, le-ltb}
use Rattle.rules.specs.Words.{those, any, count, many, All}
use Rattle.rules.proofs.Cases.{All-each}
use Rattle.rules.proofs.Lines.{many_fail}
use Rattle.sleeps.specs.Numbers.{last_proc}
use Rattle.sleeps.specs.Rules.{insert}
use Rattle.sleeps.specs.Sound.{NoLater, Sorted}
use Rattle.sleeps.specs.declared.Sleeper.{Sleeper}
use Rattle.std.proofs.Common.{Some, one-add}
use Rattle.std.specs.Option.{is_some}
use Rattle.std.specs.List.{position_from, prefix_len}
use Rattle.sleeping.specs.Rows.{no_later, with_one, without_some}

-- above a number is not within it
pub past : (n : ℕ) → ltb last_proc n ≡ not (leb n last_proc)
past n = go (leb n last_proc) refl
  where
    go : (b : Bool) → leb n last_proc ≡ b → ltb last_proc n ≡ not b
    go true e = le-ltb last_proc n (leb-true n last_proc e)
    go false e = lt-ltb last_proc n (leb-false n last_proc e)

-- "before the first who wakes later"
pub insert_is : (x : Sleeper) (l : List Sleeper) → insert x l ≡ with_one l (prefix_len (no_later x.wake) l) x
unfolding insert
insert_is x [] = refl
insert_is x (y ∷ l) = go (leb y.wake x.wake) refl (insert_is x l)
  where
    go : (b : Bool) → leb y.wake x.wake ≡ b → insert x l ≡ with_one l (prefix_len (no_later x.wake) l) x
        → (if ltb x.wake y.wake then x ∷ y ∷ l else y ∷ insert x l) ≡ with_one (y ∷ l) (cond b (1 + prefix_len (no_later x.wake) l) 0) x
    go true e ih = rw (le-ltb x.wake y.wake (leb-true y.wake x.wake e), one-add) (ap (λ (r : List Sleeper). y ∷ r) ih)
    go false e ih = rw (lt-ltb x.wake y.wake (leb-false y.wake x.wake e))

-- by wake time, those who are due are the first
none_due : (t : ℕ) (l : List Sleeper) → All (λ (y : Sleeper). t < y.wake) l → (those (no_later t) l ≡ []) × (those (λ x. not (no_later t x)) l ≡ l)
none_due t [] h = (refl, refl)
none_due t (y ∷ l) h =
    let e : leb y.wake t ≡ false = lt-leb y.wake t h.0 in
    let r = none_due t l h.1 in
    (rw e r.0, rw e (ap (λ (s : List Sleeper). y ∷ s) r.1))

pub due_first : (t : ℕ) (l : List Sleeper) → Sorted l → (those (no_later t) l ≡ take (prefix_len (no_later t) l) l) × (those (λ x. not (no_later t x)) l ≡ drop (prefix_len (no_later t) l) l)
due_first t [] h = (refl, refl)
due_first t (y ∷ l) h = go (leb y.wake t) refl (due_first t l h.1)
  where
    go : (b : Bool) → leb y.wake t ≡ b → (those (no_later t) l ≡ take (prefix_len (no_later t) l) l) × (those (λ x. not (no_later t x)) l ≡ drop (prefix_len (no_later t) l) l)
        → ((if b then y ∷ those (no_later t) l else those (no_later t) l) ≡ take (cond b (1 + prefix_len (no_later t) l) 0) (y ∷ l)) × ((if not b then y ∷ those (λ x. not (no_later t x)) l else those (λ x. not (no_later t x)) l) ≡ drop (cond b (1 + prefix_len (no_later t) l) 0) (y ∷ l))
    go true e ih = rw one-add (ap (λ (r : List Sleeper). y ∷ r) ih.0, ih.1)
    go false e ih =
        let late = leb-false y.wake t e in
        let r = none_due t l (All-each (NoLater y) (λ (z : Sleeper). t < z.wake) (λ z k. omega arith) l h.0) in
        (r.0, ap (λ (s : List Sleeper). y ∷ s) r.1)

-- ── A search ──

module _ (p : Sleeper → Bool) where
  pub found_some : (l : List Sleeper) (k i : ℕ) → position_from p k l ≡ Some i → (any p l ≡ true) × ((k ≤ i) × (i < k + length l))
  found_some [] k i e = let z : ◌≡◌ {A = ℕ} 0 1 = cc in absurd (omega arith)
  found_some (x ∷ l) k i e = go (p x) e (found_some l (k + 1) i)
    where
      go : (b : Bool) → (cond b (Some k) (position_from p (k + 1) l)) ≡ Some i → (position_from p (k + 1) l ≡ Some i → (any p l ≡ true) × ((k + 1 ≤ i) × (i < k + 1 + length l)))
          → (b || any p l ≡ true) × ((k ≤ i) × (i < k + length (x ∷ l)))
      go true e ih = let z : k ≡ i = cc in (refl, (omega arith, omega arith))
      go false e ih = let r = ih e in (r.0, (omega arith, omega arith))

  pub found_any : (l : List Sleeper) (k : ℕ) → is_some (position_from p k l) ≡ any p l
  found_any [] k = refl
  found_any (x ∷ l) k = go (p x) (found_any l (k + 1))
    where
      go : (b : Bool) → is_some (position_from p (k + 1) l) ≡ any p l → is_some (cond b (Some k) (position_from p (k + 1) l)) ≡ (b || any p l)
      go true ih = refl
      go false ih = ih

  all_fail : (l : List Sleeper) → All (λ x. p x ≡ false) l → those (λ x. not (p x)) l ≡ l
  all_fail [] h = refl
  all_fail (x ∷ l) h = rw h.0 (ap (λ (r : List Sleeper). x ∷ r) (all_fail l h.1))

  -- the only one who passes is taken out
  pub one_out : (l : List Sleeper) (k j : ℕ) → position_from p k l ≡ Some (k + j) → many p l ≤ 1 → those (λ x. not (p x)) l ≡ without_some l j 1
  one_out [] k j e m = let z : ◌≡◌ {A = ℕ} 0 1 = cc in absurd (omega arith)
  one_out (x ∷ l) k j e m = go (p x) refl e m (one_out l (k + 1))
    where
      past_it : (i : ℕ) → position_from p (k + 1) l ≡ Some (k + i) → many p l ≤ 1
          → ((j : ℕ) → position_from p (k + 1) l ≡ Some (k + 1 + j) → many p l ≤ 1 → those (λ y. not (p y)) l ≡ without_some l j 1) → x ∷ those (λ y. not (p y)) l ≡ without_some (x ∷ l) i 1
      past_it zero e m ih = absurd (omega (arith, (found_some l (k + 1) (k + 0) e).1.0))
      past_it (suc i) e m ih =
          let n : suc i + 1 ≡ suc (i + 1) = omega arith in
          let q : k + suc i ≡ k + 1 + i = omega arith in
          rw n (ap (λ (r : List Sleeper). x ∷ r) (ih i (rw q at e) m))

      go : (b : Bool) → p x ≡ b → (cond b (Some k) (position_from p (k + 1) l)) ≡ Some (k + j) → count b + many p l ≤ 1
          → ((j : ℕ) → position_from p (k + 1) l ≡ Some (k + 1 + j) → many p l ≤ 1 → those (λ y. not (p y)) l ≡ without_some l j 1)
          → (if not b then x ∷ those (λ y. not (p y)) l else those (λ y. not (p y)) l) ≡ without_some (x ∷ l) j 1
      go true q e m ih = let z : k ≡ k + j = cc in let n : j ≡ 0 = omega arith in rw n (all_fail l (many_fail p l (omega arith)))
      go false q e m ih = past_it j e (omega arith) ih
