-- One more sleeper in its place.
-- Assumes nothing.
use Rattle.std.specs.Prelude.{if◌then◌else◌}
use mathlib.Core.Path.{◌≡◌, refl, sym, ap}
use mathlib.Core.Bool.{Bool, true, false}
use mathlib.Core.List.{List, [], ◌∷◌, ◌++◌, append-nil}
use Prim.Native.Nat.{ℕ, ◌+◌, ◌<◌}
use native.Mathlib.Omega.{arith}
use lib.Dec.{eqb, ltb}
use lib.ListN.{length}
use borrow.Author.Tests.{ltb-true, ltb-false, eqb-true, ne_eqb}
use Rattle.rules.specs.Words.{those, sum, All}
use Rattle.rules.proofs.Cases.{All-each, All-those}
use Rattle.sleeps.specs.declared.Sleeper.{Sleeper}
use Rattle.sleeps.specs.Rules.{insert}
use Rattle.sleeps.specs.Sound.{NoLater, Sorted}

pub sum_insert : (f : Sleeper → ℕ) (x : Sleeper) (l : List Sleeper) → sum f (insert x l) ≡ f x + sum f l
unfolding insert
sum_insert f x [] = refl
sum_insert f x (y ∷ l) = go (ltb x.wake y.wake) (sum_insert f x l)
  where
    go : (b : Bool) → sum f (insert x l) ≡ f x + sum f l → sum f (if b then x ∷ y ∷ l else y ∷ insert x l) ≡ f x + (f y + sum f l)
    go true ih = refl
    go false ih = omega arith

pub length_insert : (x : Sleeper) (l : List Sleeper) → length (insert x l) ≡ length l + 1
unfolding insert
length_insert x [] = refl
length_insert x (y ∷ l) = go (ltb x.wake y.wake) (length_insert x l)
  where
    go : (b : Bool) → length (insert x l) ≡ length l + 1 → length (if b then x ∷ y ∷ l else y ∷ insert x l) ≡ length (y ∷ l) + 1
    go true ih = omega arith
    go false ih = omega arith

pub All-insert : (P : Sleeper → Type 0) (x : Sleeper) (l : List Sleeper) → P x → All P l → All P (insert x l)
unfolding insert
All-insert P x [] p h = (p, tt)
All-insert P x (y ∷ l) p h = go (ltb x.wake y.wake) (All-insert P x l p h.1)
  where
    go : (b : Bool) → All P (insert x l) → All P (if b then x ∷ y ∷ l else y ∷ insert x l)
    go true ih = (p, h)
    go false ih = (h.0, ih)

pub sorted_insert : (x : Sleeper) (l : List Sleeper) → Sorted l → Sorted (insert x l)
unfolding insert
sorted_insert x [] h = (tt, tt)
sorted_insert x (y ∷ l) h = go (ltb x.wake y.wake) refl (sorted_insert x l h.1)
  where
    go : (b : Bool) → ltb x.wake y.wake ≡ b → Sorted (insert x l) → Sorted (if b then x ∷ y ∷ l else y ∷ insert x l)
    go true e ih = let g = ltb-true x.wake y.wake e in ((omega arith, All-each (NoLater y) (NoLater x) (λ z k. omega arith) l h.0), h)
    go false e ih = (All-insert (NoLater y) x l (ltb-false x.wake y.wake e) h.0, ih)

pub sorted_part : (t : Sleeper → Bool) (l : List Sleeper) → Sorted l → Sorted (those t l)
sorted_part t [] h = tt
sorted_part t (x ∷ l) h = go (t x) (sorted_part t l h.1)
  where
    go : (b : Bool) → Sorted (those t l) → Sorted (if b then x ∷ those t l else those t l)
    go true ih = (All-those (NoLater x) t l h.0, ih)
    go false ih = ih

-- nobody of another kind is touched
pub those_insert : (t : Sleeper → Bool) (x : Sleeper) (l : List Sleeper) → t x ≡ false → those t (insert x l) ≡ those t l
unfolding insert
those_insert t x [] e = rw e
those_insert t x (y ∷ l) e = go (ltb x.wake y.wake) (those_insert t x l e)
  where
    go : (b : Bool) → those t (insert x l) ≡ those t l → those t (if b then x ∷ y ∷ l else y ∷ insert x l) ≡ those t (y ∷ l)
    go true ih = rw e
    go false ih = rw ih

-- ── Ties ──

-- who wakes at a time
abbrev pub at : ℕ → Sleeper → Bool
at w x = eqb w x.wake

none_at : (w : ℕ) (l : List Sleeper) → All (λ (y : Sleeper). w < y.wake) l → those (at w) l ≡ []
none_at w [] h = refl
none_at w (y ∷ l) h = rw (ne_eqb w y.wake (λ e. omega (arith, h.0)), none_at w l h.1)

-- "ties in order of asking": who is inserted comes last of those who wake at its time
pub ties_insert : (w : ℕ) (x : Sleeper) (l : List Sleeper) → Sorted l → those (at w) (insert x l) ≡ those (at w) l ++ those (at w) (x ∷ [])
unfolding insert
ties_insert w x [] h = refl
ties_insert w x (y ∷ l) h = go (ltb x.wake y.wake) refl (ties_insert w x l h.1)
  where
    later : ltb x.wake y.wake ≡ true → (b : Bool) → at w x ≡ b → those (at w) (x ∷ y ∷ l) ≡ those (at w) (y ∷ l) ++ those (at w) (x ∷ [])
    later e true p =
        let g = ltb-true x.wake y.wake e in
        let q = eqb-true w x.wake p in
        rw (none_at w (y ∷ l) (omega arith, All-each (NoLater y) (λ (z : Sleeper). w < z.wake) (λ z k. omega arith) l h.0))
    later e false p = rw p (sym (append-nil (those (at w) (y ∷ l))))

    go : (b : Bool) → ltb x.wake y.wake ≡ b → those (at w) (insert x l) ≡ those (at w) l ++ those (at w) (x ∷ [])
        → those (at w) (if b then x ∷ y ∷ l else y ∷ insert x l) ≡ those (at w) (y ∷ l) ++ those (at w) (x ∷ [])
    go true e ih = later e (at w x) refl
    go false e ih = more (at w y)
      where
        more : (b : Bool) → (if b then y ∷ those (at w) (insert x l) else those (at w) (insert x l)) ≡ (if b then y ∷ those (at w) l else those (at w) l) ++ those (at w) (x ∷ [])
        more true = ap (λ (r : List Sleeper). y ∷ r) ih
        more false = ih
