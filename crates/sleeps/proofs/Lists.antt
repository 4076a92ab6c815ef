-- Tests over lists: the first that passes, nobody, one.
-- Assumes nothing.
use Rattle.std.specs.Prelude.{cond}
use mathlib.Core.Path.{◌≡◌, refl, sym, ap}
use mathlib.Core.Bool.{Bool, true, false, not, ◌||◌, true≢false}
use mathlib.Core.List.{List, [], ◌∷◌, map}
use Prim.Native.Nat.{ℕ, ◌+◌, ◌≤◌}
use native.Mathlib.Omega.{arith}
use lib.Dec.{eqb}
use lib.ListN.{length}
use Rattle.rules.specs.Words.{those, any, among, count, many}
use Rattle.rules.proofs.Sums.{sum_split}

module _ {ℓ} {A : Type ℓ} where
  -- somebody passes exactly where those who pass are not nobody
  pub nobody_passes : (t : A → Bool) (xs : List A) → those t xs ≡ [] → any t xs ≡ false
  nobody_passes t [] h = refl
  nobody_passes t (x ∷ xs) h = go (t x) h (nobody_passes t xs)
    where
      go : (b : Bool) → cond b (x ∷ those t xs) (those t xs) ≡ [] → (those t xs ≡ [] → any t xs ≡ false) → b || any t xs ≡ false
      go true h ih = let z : ◌≡◌ {A = ℕ} 0 1 = cc in absurd (omega arith)
      go false h ih = ih h

  pub none_passes : (t : A → Bool) (xs : List A) → any t xs ≡ false → those t xs ≡ []
  none_passes t [] h = refl
  none_passes t (x ∷ xs) h = go (t x) h (none_passes t xs)
    where
      go : (b : Bool) → b || any t xs ≡ false → (any t xs ≡ false → those t xs ≡ []) → cond b (x ∷ those t xs) (those t xs) ≡ []
      go true h ih = absurd (true≢false h)
      go false h ih = ih h

  pub one_passes : (t : A → Bool) (xs : List A) (y : A) (ys : List A) → those t xs ≡ y ∷ ys → any t xs ≡ true
  one_passes t [] y ys h = let z : ◌≡◌ {A = ℕ} 0 1 = cc in absurd (omega arith)
  one_passes t (x ∷ xs) y ys h = go (t x) h (one_passes t xs y ys)
    where
      go : (b : Bool) → cond b (x ∷ those t xs) (those t xs) ≡ y ∷ ys → (those t xs ≡ y ∷ ys → any t xs ≡ true) → b || any t xs ≡ true
      go true h ih = refl
      go false h ih = ih h

  -- counting is the length of those who pass
  pub many_is : (t : A → Bool) (xs : List A) → many t xs ≡ length (those t xs)
  many_is t [] = refl
  many_is t (x ∷ xs) = go (t x) (many_is t xs)
    where
      go : (b : Bool) → many t xs ≡ length (those t xs) → count b + many t xs ≡ length (cond b (x ∷ those t xs) (those t xs))
      go true ih = omega arith
      go false ih = omega arith

  pub any_many : (t : A → Bool) (xs : List A) → any t xs ≡ true → 1 ≤ many t xs
  any_many t [] h = absurd (true≢false (sym h))
  any_many t (x ∷ xs) h = go (t x) h (any_many t xs)
    where
      go : (b : Bool) → b || any t xs ≡ true → (any t xs ≡ true → 1 ≤ many t xs) → 1 ≤ count b + many t xs
      go true h ih = omega arith
      go false h ih = omega (arith, ih h)

  -- a part has no more
  pub many_part : (t u : A → Bool) (xs : List A) → many t (those u xs) ≤ many t xs
  many_part t u xs = omega (arith, sum_split (λ x. count (t x)) u xs)

  -- the rest of a part is the rest of all
  pub length_split : (t : A → Bool) (xs : List A) → length (those (λ x. not (t x)) xs) + length (those t xs) ≡ length xs
  length_split t [] = refl
  length_split t (x ∷ xs) = go (t x) (length_split t xs)
    where
      go : (b : Bool) → length (those (λ x. not (t x)) xs) + length (those t xs) ≡ length xs
          → length (cond (not b) (x ∷ those (λ x. not (t x)) xs) (those (λ x. not (t x)) xs)) + length (cond b (x ∷ those t xs) (those t xs)) ≡ length (x ∷ xs)
      go true ih = omega arith
      go false ih = omega arith

  pub length_map {κ} : {B : Type κ} (f : A → B) (xs : List A) → length (map f xs) ≡ length xs
  length_map f [] = refl
  length_map f (x ∷ xs) = omega (arith, length_map f xs)

  -- a number among those of a list
  pub among_map : (n : ℕ) (f : A → ℕ) (xs : List A) → among n (map f xs) ≡ any (λ x. eqb n (f x)) xs
  among_map n f [] = refl
  among_map n f (x ∷ xs) = ap (λ (b : Bool). eqb n (f x) || b) (among_map n f xs)

  -- who passes one test and not the other; who is in a part passes
  pub none_both : (t : A → Bool) (xs : List A) → those t (those (λ x. not (t x)) xs) ≡ []
  none_both t [] = refl
  none_both t (x ∷ xs) = go (t x) refl (none_both t xs)
    where
      go : (b : Bool) → t x ≡ b → those t (those (λ y. not (t y)) xs) ≡ [] → those t (cond (not b) (x ∷ those (λ y. not (t y)) xs) (those (λ y. not (t y)) xs)) ≡ []
      go true e ih = ih
      go false e ih = rw e ih

  pub twice : (t : A → Bool) (xs : List A) → those t (those t xs) ≡ those t xs
  twice t [] = refl
  twice t (x ∷ xs) = go (t x) refl (twice t xs)
    where
      go : (b : Bool) → t x ≡ b → those t (those t xs) ≡ those t xs → those t (cond b (x ∷ those t xs) (those t xs)) ≡ cond b (x ∷ those t xs) (those t xs)
      go true e ih = rw (e, ih)
      go false e ih = ih

  pub passes_first : (t : A → Bool) (xs : List A) (y : A) (ys : List A) → those t xs ≡ y ∷ ys → t y ≡ true
  passes_first t [] y ys h = let z : ◌≡◌ {A = ℕ} 0 1 = cc in absurd (omega arith)
  passes_first t (x ∷ xs) y ys h = go (t x) refl h (passes_first t xs y ys)
    where
      go : (b : Bool) → t x ≡ b → cond b (x ∷ those t xs) (those t xs) ≡ y ∷ ys → (those t xs ≡ y ∷ ys → t y ≡ true) → t y ≡ true
      go true e h ih = let z : x ≡ y = cc in rw (← z) e
      go false e h ih = ih h
