-- A list by its entries: one is read, one is set, all are changed.
use mathlib.Core.Path.{◌≡◌, refl, ap, ap₂}
use mathlib.Core.Logic.{◌≢◌}
use mathlib.Core.List.{List, ◌∷◌, map}
use Prim.Native.Nat.{ℕ, zero, suc, ◌<◌, ◌≤◌}
use native.Mathlib.Omega.{arith}
use lib.ListN.{length, get_or, set}
use Rattle.seats.specs.Seats.{table}

pub table_long : {A : Type 0} (n : ℕ) (g : ℕ → A) → length (table n g) ≡ n
table_long zero g = refl
table_long (suc n) g = ap suc (table_long n (λ k. g (suc k)))

pub table_get : {A : Type 0} (n k : ℕ) (g : ℕ → A) (d : A) → k < n → get_or (table n g) k d ≡ g k
table_get zero k g d l = absurd (omega arith)
table_get (suc n) zero g d l = refl
table_get (suc n) (suc k) g d l = table_get n k (λ j. g (suc j)) d (omega arith)

pub table_past : {A : Type 0} (n k : ℕ) (g : ℕ → A) (d : A) → n ≤ k → get_or (table n g) k d ≡ d
table_past zero k g d h = refl
table_past (suc n) zero g d h = absurd (omega (arith, h))
table_past (suc n) (suc k) g d h = table_past n k (λ j. g (suc j)) d (omega (arith, h))

pub table_same : {A : Type 0} (n : ℕ) (g h : ℕ → A) → ((k : ℕ) → k < n → g k ≡ h k) → table n g ≡ table n h
table_same zero g h e = refl
table_same {A} (suc n) g h e = ap₂ {A = A} {B = List A} (λ x xs. x ∷ xs) (e 0 (omega arith)) (table_same n (λ k. g (suc k)) (λ k. h (suc k)) (λ k l. e (suc k) (omega arith)))

pub table_set : {A : Type 0} (n k : ℕ) (g h : ℕ → A) → k < n → ((j : ℕ) → j ≢ k → h j ≡ g j) → table n h ≡ set (table n g) k (h k)
table_set zero k g h l e = absurd (omega arith)
table_set {A} (suc n) zero g h l e =
    ap (λ (xs : List A). h 0 ∷ xs) (table_same n (λ j. h (suc j)) (λ j. g (suc j)) (λ j _. e (suc j) (λ (z : suc j ≡ 0). omega arith)))
table_set {A} (suc n) (suc k) g h l e =
    ap₂ {A = A} {B = List A} (λ x xs. x ∷ xs) (e 0 (λ (z : 0 ≡ suc k). omega arith))
    (table_set n k (λ j. g (suc j)) (λ j. h (suc j)) (omega arith) (λ j z. e (suc j) (λ (y : suc j ≡ suc k). z (omega arith))))

pub table_map : {A B : Type 0} (c : A → B) (n : ℕ) (g : ℕ → A) → map c (table n g) ≡ table n (λ k. c (g k))
table_map c zero g = refl
table_map {A} {B} c (suc n) g = ap (λ (xs : List B). c (g 0) ∷ xs) (table_map c n (λ k. g (suc k)))
