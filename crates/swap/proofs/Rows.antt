-- Laws of rows and sheets, over plain lists.
use mathlib.Core.Path.{◌≡◌, refl, ap}
use mathlib.Core.Bool.{Bool, true, false}
use mathlib.Core.Logic.{◌⊎◌, inl, inr}
use lib.Dec.{ltb}
use borrow.Author.Tests.{ltb-true, ltb-false, lt-ltb, le-ltb}
use Prim.Native.Nat.{ℕ, zero, suc, ◌+◌, ◌≤◌, ◌<◌}
use native.Mathlib.Nat.{not-suc-le-zero, le_of_suc-le-suc}
use native.Mathlib.Omega.{arith}
use mathlib.Core.List.{List, [], ◌∷◌}
use lib.ListN.{length, take, set, get_or}
use Rattle.pages.specs.declared.Row.{Row}
use Rattle.pages.specs.Numbers.{frames}
use Rattle.pages.specs.Rules.{free}
use Rattle.swap.specs.declared.Sheet.{Sheet}
use Rattle.swap.specs.Sheets.{fill, put, up_to_16, over}

pub add_one : (i : ℕ) → i + 1 ≡ suc i
add_one i = omega arith

pub lt_or_ge : (i n : ℕ) → (i < n) ⊎ (n ≤ i)
lt_or_ge i n = go (ltb i n) refl
  where
    go : (z : Bool) → ltb i n ≡ z → (i < n) ⊎ (n ≤ i)
    go true e = inl (ltb-true i n e)
    go false e = inr (ltb-false i n e)

-- a set behind the end changes nothing
pub set_past {ℓ} : {X : Type ℓ} (l : List X) (i : ℕ) (x : X) → length l ≤ i → set l i x ≡ l
set_past [] i x h = refl
set_past (y ∷ l) zero x h = absurd (not-suc-le-zero h)
set_past (y ∷ l) (suc i) x h = ap (λ (r : List _). y ∷ r) (set_past l i x (le_of_suc-le-suc h))

-- the sheet after the first i rows
abbrev pub sheet_at : List Row → ℕ → Sheet
sheet_at l i = record { rows = fill frames (take i l); count = i }

-- one row more is filled in, for any number of places
pub filled : (n : ℕ) (l : List Row) (i : ℕ) → i < length l → set (fill n (take i l)) i (get_or l i free) ≡ fill n (take (suc i) l)
unfolding fill
filled n [] i h = absurd (not-suc-le-zero h)
filled zero (x ∷ l) i h = refl
filled (suc n) (x ∷ l) zero h = refl
filled (suc n) (x ∷ l) (suc i) h = ap (λ (r : List Row). x ∷ r) (filled n l i (le_of_suc-le-suc h))

pub sheet_more : (l : List Row) (i : ℕ) → i < length l → put (get_or l i free) (sheet_at l i) ≡ sheet_at l (suc i)
sheet_more l i h = rw (filled frames l i h, one i) refl
  where
    one : (k : ℕ) → k + 1 ≡ suc k
    one k = omega arith

-- ---- rows written over others
pub few : (n : ℕ) → n < frames → n ≡ up_to_16 n
few n h = rw (lt-ltb n frames h) refl

pub many : (n : ℕ) → frames ≤ n → frames ≡ up_to_16 n
many n h = rw (le-ltb n frames h) refl

pub up_to_least : (n : ℕ) → (up_to_16 n ≤ n) × (up_to_16 n ≤ frames)
up_to_least n = go (lt_or_ge n frames)
  where
    go : (n < frames) ⊎ (frames ≤ n) → (up_to_16 n ≤ n) × (up_to_16 n ≤ frames)
    go (inl h) = rw (lt-ltb n frames h) (omega arith, omega arith)
    go (inr h) = rw (le-ltb n frames h) (omega arith, omega arith)

-- the first i rows are written
abbrev pub mixed : ℕ → List Row → List Row → List Row
mixed zero ys rs = ys
mixed (suc i) [] rs = []
mixed (suc i) (y ∷ ys) [] = y ∷ ys
mixed (suc i) (y ∷ ys) (r ∷ rs) = r ∷ mixed i ys rs

pub mixed_long : (i : ℕ) (ys rs : List Row) → length (mixed i ys rs) ≡ length ys
mixed_long zero ys rs = refl
mixed_long (suc i) [] rs = refl
mixed_long (suc i) (y ∷ ys) [] = refl
mixed_long (suc i) (y ∷ ys) (r ∷ rs) = ap suc (mixed_long i ys rs)

pub mixed_more : (i : ℕ) (ys rs : List Row) → i < length ys → i < length rs → set (mixed i ys rs) i (get_or rs i free) ≡ mixed (suc i) ys rs
mixed_more i [] rs h k = absurd (not-suc-le-zero h)
mixed_more i (y ∷ ys) [] h k = absurd (not-suc-le-zero k)
mixed_more zero (y ∷ ys) (r ∷ rs) h k = refl
mixed_more (suc i) (y ∷ ys) (r ∷ rs) h k = ap (λ (l : List Row). r ∷ l) (mixed_more i ys rs (le_of_suc-le-suc h) (le_of_suc-le-suc k))

-- one row more is written
pub mixed_next : (i n : ℕ) (ys rs l r : List Row) (x : Row) → n ≡ up_to_16 (length ys) → i < n → length rs ≡ frames → l ≡ mixed i ys rs → x ≡ get_or rs i free → r ≡ set l i x → r ≡ mixed (i + 1) ys rs
mixed_next i n ys rs l r x m h e p k q =
    let z = up_to_least (length ys) in
    rw (q, k, p, add_one i) (mixed_more i ys rs (omega arith) (omega arith))

pub mixed_all : (i : ℕ) (ys rs : List Row) → (length ys ≤ i) ⊎ (length rs ≤ i) → mixed i ys rs ≡ over ys rs
mixed_all zero [] rs h = refl
mixed_all zero (y ∷ ys) [] h = refl
mixed_all zero (y ∷ ys) (r ∷ rs) (inl h) = absurd (not-suc-le-zero h)
mixed_all zero (y ∷ ys) (r ∷ rs) (inr h) = absurd (not-suc-le-zero h)
mixed_all (suc i) [] rs h = refl
mixed_all (suc i) (y ∷ ys) [] h = refl
mixed_all (suc i) (y ∷ ys) (r ∷ rs) (inl h) = ap (λ (l : List Row). r ∷ l) (mixed_all i ys rs (inl (le_of_suc-le-suc h)))
mixed_all (suc i) (y ∷ ys) (r ∷ rs) (inr h) = ap (λ (l : List Row). r ∷ l) (mixed_all i ys rs (inr (le_of_suc-le-suc h)))

pub over_long : (ys rs : List Row) → length (over ys rs) ≡ length ys
over_long [] rs = refl
over_long (y ∷ ys) [] = refl
over_long (y ∷ ys) (r ∷ rs) = ap suc (over_long ys rs)

-- what the loop has written when it ends
pub mixed_end : (i : ℕ) (ys rs : List Row) → length rs ≡ frames → up_to_16 (length ys) ≤ i → mixed i ys rs ≡ over ys rs
mixed_end i ys rs e h = mixed_all i ys rs (go (lt_or_ge (length ys) frames))
  where
    go : (length ys < frames) ⊎ (frames ≤ length ys) → (length ys ≤ i) ⊎ (length rs ≤ i)
    go (inl k) = inl (let z = few (length ys) k in omega arith)
    go (inr k) = inr (let z = many (length ys) k in rw e (omega arith))

-- sixteen rows written over sixteen; and rows that were read, written back
pub over_same : (ys rs : List Row) → length ys ≡ length rs → over ys rs ≡ rs
over_same [] [] e = refl
over_same [] (r ∷ rs) e = absurd (let z : length {A = Row} [] ≡ length (r ∷ rs) = e in omega arith)
over_same (y ∷ ys) [] e = absurd (let z : length (y ∷ ys) ≡ length {A = Row} [] = e in omega arith)
over_same (y ∷ ys) (r ∷ rs) e = ap (λ (l : List Row). r ∷ l) (over_same ys rs (let z : suc (length ys) ≡ suc (length rs) = e in omega arith))

pub over_read : (n : ℕ) (ys : List Row) → over ys (fill n ys) ≡ ys
unfolding fill
over_read n [] = refl
over_read zero (y ∷ ys) = refl
over_read (suc n) (y ∷ ys) = ap (λ (l : List Row). y ∷ l) (over_read n ys)

pub fill_same : (l : List Row) → fill (length l) l ≡ l
unfolding fill
fill_same [] = refl
fill_same (x ∷ l) = ap (λ (r : List Row). x ∷ r) (fill_same l)
