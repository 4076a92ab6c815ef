-- The mask of a U-proc's frames, made from the first frame on, and rows changed one after the other.
use mathlib.Core.Bool.{Bool, true, false}
use mathlib.Core.Path.{◌≡◌, refl, sym, ◌∙◌, subst}
use mathlib.Core.List.{List, [], ◌∷◌, map}
use Prim.Native.Nat.{ℕ, zero, suc, ◌+◌, ◌*◌, ◌%◌, ◌^◌, ◌≤◌, ◌<◌}
use native.Mathlib.Omega.{arith}
use native.Mathlib.Nat.{not-suc-le-zero, le_of_suc-le-suc}
use native.Mathlib.Decide.{ℕ_discrete}
use lib.ListN.{length, take, get_or, length-map, length-take}
use denote.Param.Members.{Mut}
use Rattle.std.specs.Fn.{Called}
use Rattle.std.specs.Array.{IsFromFnResultFrom, IsFromFnResult, index_steps}
use Rattle.std.specs.Iterator.{CallableAtEachTurn}
use Rattle.std.proofs.lemmas.Fn.{serves_by}
use Rattle.std.proofs.lemmas.List.{ext_get_or, get_or-map}
use Rattle.rules.specs.Words.{count}
use Rattle.pages.specs.declared.Row.{Row}
use Rattle.pages.specs.Numbers.{frames}
use Rattle.pages.specs.Rules.{mask}

count_most : (b : Bool) → count b ≤ 1
count_most true = omega arith
count_most false = omega arith

mask_below : (t : Row → Bool) (n : ℕ) (l : List Row) → length l ≤ n → mask t l < 2 ^ n
mask_below t n [] h = pos n
  where
    pos : (k : ℕ) → 0 < 2 ^ k
    pos zero = omega arith
    pos (suc k) = let z = pos k in omega arith
mask_below t zero (x ∷ l) h = absurd (not-suc-le-zero h)
mask_below t (suc n) (x ∷ l) h = let z = mask_below t n l (le_of_suc-le-suc h) in let k = count_most (t x) in omega arith

-- no mask of sixteen rows is above 16 bits
pub mask_fits : (t : Row → Bool) (l : List Row) → length l ≤ frames → mask t l < 65536
mask_fits t l h = mask_below t frames l h

-- one frame more
pub mask_with : (t : Row → Bool) (l : List Row) (i : ℕ) (d : Row) → i < length l → t (get_or l i d) ≡ true → mask t (take i l) + 2 ^ i ≡ mask t (take (suc i) l)
mask_with t [] i d h e = absurd (not-suc-le-zero h)
mask_with t (x ∷ l) zero d h e = rw e refl
mask_with t (x ∷ l) (suc i) d h e = let z = mask_with t l i d (le_of_suc-le-suc h) e in omega arith

pub mask_without : (t : Row → Bool) (l : List Row) (i : ℕ) (d : Row) → i < length l → t (get_or l i d) ≡ false → mask t (take i l) ≡ mask t (take (suc i) l)
mask_without t [] i d h e = absurd (not-suc-le-zero h)
mask_without t (x ∷ l) zero d h e = rw e refl
mask_without t (x ∷ l) (suc i) d h e = let z = mask_without t l i d (le_of_suc-le-suc h) e in omega arith

-- the mask m of the frames before frame i, and frame i's bit
module _ (t : Row → Bool) (l : List Row) (i m : ℕ) (d : Row) (e : length l ≡ frames) (h : i < frames) (q : m ≡ mask t (take i l)) where
  pub one_more : t (get_or l i d) ≡ true → (m + (1 * 2 ^ i) % 65536 < 65536) × (m + (1 * 2 ^ i) % 65536 ≡ mask t (take (i + 1) l))
  one_more p =
      let z : m + 2 ^ i ≡ mask t (take (suc i) l) = rw q (mask_with t l i d (rw e h) p) in
      let w = mask_fits t (take (suc i) l) (omega (arith, length-take (suc i) l)) in
      let y : i + 1 ≡ suc i = omega arith in
      (omega arith, rw y (omega arith))

  pub none_more : t (get_or l i d) ≡ false → m ≡ mask t (take (i + 1) l)
  none_more p = let y : i + 1 ≡ suc i = omega arith in rw y (q ∙ mask_without t l i d (rw e h) p)

-- ── Rows made one after the other ──

module _ {F : Type 0} (g : Mut F (ℕ × Unit {0}) Row) (f : F) (t : ℕ → Row) (stays : (x : ℕ) (y : Row) (q : F) → Called g f (x, tt) y q → (q ≡ f) × (y ≡ t x)) where
  made_from : (ys : List Row) (n i : ℕ) → IsFromFnResultFrom g f ys i n → (s : ℕ) (d : Row) → i ≤ s → s < i + n → get_or ys s d ≡ t s
  made_from ys zero i m s d a b = absurd (omega arith)
  made_from ys (suc n) i m s d a b =
      let here = stays i m.1 m.0 m.3 in
      elim (ℕ_discrete s i) [
        | yes e ↦ rw e (m.2.1 d ∙ here.1)
        | no e ↦ made_from ys n (i + 1) (subst (λ q. IsFromFnResultFrom g q ys (i + 1) n) here.0 m.4) s d (omega arith) (omega arith)
      ]

  -- each place has what is said of it
  pub made : (xs ys : List Row) (h : Row → Row) (d : Row) → ((x : ℕ) → t x ≡ h (get_or xs x d)) → (n : ℕ) → length xs ≡ n → IsFromFnResult g f ys n → ys ≡ map h xs
  made xs ys h d says n e m =
      ext_get_or d ys (map h xs) (m.long ∙ sym e ∙ sym (length-map xs h))
      (λ s b. let l : s < n = rw m.long at b in made_from ys n 0 m.each s d (omega arith) (omega arith) ∙ says s ∙ sym (get_or-map h xs s d d (rw e l)))

-- ---- it may be called at each place
module _ {P : Type 0} {R : P → ℕ → P → Type 0} {Q : P → ℕ → Type 0} {f : P} (stays : (x : ℕ) (q : P) → R f x q → q ≡ f) where
  pub serves_places : (n : ℕ) → ((x : ℕ) → x < n → Q f x) → CallableAtEachTurn (index_steps n) R Q 0 f
  serves_places n h =
      serves_by R (λ xs q. q ≡ f) (λ xs q x w j r. stays x w (subst (λ k. R k x w) j r)) (index_steps n) Q 0 f refl
      (λ xs t q x u y z j. subst (λ k. Q k x) (sym j) (h x (omega (arith, z))))
