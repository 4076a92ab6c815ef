-- The first frame of the rule book is the first place of the library.
use Rattle.std.specs.Prelude.{Bool, true, false, not, List, [], ◌∷◌, ℕ, suc, ◌+◌, ◌≡◌, nat_lt, length, cond, Option, Some, None}
use Rattle.std.specs.List.{position, position_or_len}
use Rattle.std.proofs.Common.{refl, sym, ◌∙◌}
use native.Mathlib.Omega.{arith}
use Prim.Native.Nat.compare
use borrow.Author.Tests.{lt-ltb}
use Rattle.pages.specs.declared.Row.{Row}
use Rattle.pages.specs.Rules.{first_frame}

-- n places of m behind frame k, where that is one of them
abbrev counted : ℕ → ℕ → ℕ → Option ℕ
counted k n m = cond (nat_lt n m) (Some (k + n)) None

one_on : (k n m : ℕ) → counted (suc k) n m ≡ counted k (1 + n) (suc m)
one_on k n m = let y : suc k + n ≡ k + (1 + n) = omega arith in let z : 1 + n ≡ suc n = omega arith in rw (y, z, compare.suc-suc (suc n) m) refl

first_from : (t : Row → Bool) (k : ℕ) (l : List Row) → counted k (position_or_len t l) (length l) ≡ first_frame t k l
first_from t k [] = refl
first_from t k (x ∷ l) = go (t x) (sym (one_on k (position_or_len t l) (length l)) ∙ first_from t (suc k) l)
  where
    go : (b : Bool) → counted k (1 + position_or_len t l) (suc (length l)) ≡ first_frame t (suc k) l → counted k (cond (not b) (1 + position_or_len t l) 0) (suc (length l)) ≡ cond b (Some k) (first_frame t (suc k) l)
    go true e = let y : k + 0 ≡ k = omega arith in let w : nat_lt 0 (suc (length l)) ≡ true = lt-ltb 0 (suc (length l)) (omega arith) in rw (y, w) refl
    go false e = e

pub first_position : (t : Row → Bool) (l : List Row) → position t l ≡ first_frame t 0 l
first_position t l = let y : 0 + position_or_len t l ≡ position_or_len t l = omega arith in rw y at (first_from t 0 l)
