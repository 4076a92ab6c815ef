-- What an array's `map` and `from_fn` give, where the closure stays as it is and its answer is a function of the
-- entry or the place; and that it may be called at each.
-- Assumes nothing.
use mathlib.Core.Path.{◌≡◌, refl, sym, ap, ap₂, ◌∙◌, subst}
use mathlib.Core.List.{List, ◌∷◌, map}
use Prim.Native.Nat.{ℕ, zero, suc, ◌+◌, ◌<◌, ◌≤◌}
use native.Mathlib.Numerals.{add-one}
use native.Mathlib.Omega.{arith}
use native.Mathlib.Decide.{ℕ_discrete}
use lib.ListN.{length, get_or, drop, drop_of_length-le}
use lib.Seq.{drop-cons}
use denote.Param.Members.{Mut}
use Rattle.std.specs.Fn.{Called}
use Rattle.std.specs.Iterator.{CallableAtEachTurn}
use Rattle.std.specs.Array.{MapsFrom, IsMapOf, IsFromFnResultFrom, IsFromFnResult, list_steps, index_steps}
use Rattle.std.proofs.lemmas.Fn.{serves_by}
use Rattle.std.proofs.lemmas.Iterator.Adapters.{serves_from_places}
use Rattle.std.proofs.lemmas.Iterator.Consumers.{YieldsList-from_shown}

module _ {F A B : Type 0} (g : Mut F (A × Unit {0}) B) (f : F) (t : A → B) (stays : (x : A) (y : B) (q : F) → Called g f (x, tt) y q → (q ≡ f) × (y ≡ t x)) where
  mapped_from : (xs : List A) (ys : List B) (n i : ℕ) → length xs ≡ i + n → length ys ≡ i + n → MapsFrom g f xs ys i n → drop i ys ≡ map t (drop i xs)
  mapped_from xs ys zero i a b m =
      let x : length xs ≤ i = omega arith in
      let y : length ys ≤ i = omega arith in
      rw (drop_of_length-le ys y, drop_of_length-le xs x)
  mapped_from xs ys (suc n) i a b m =
      let s = stays m.1 m.2 m.0 m.5 in
      drop-cons ys i m.2 (omega arith)
      ∙ ap₂ (λ (v : B) (r : List B). v ∷ r) (m.4.0 ∙ s.1)
      (ap (λ j. drop j ys) (sym (add-one i))
      ∙ mapped_from xs ys n (i + 1) (omega arith) (omega arith) (subst (λ q. MapsFrom g q xs ys (i + 1) n) s.0 m.6)
      ∙ ap (λ j. map t (drop j xs)) (add-one i))
      ∙ sym (ap (map t) (drop-cons xs i m.1 (omega arith) ∙ ap (λ (v : A). v ∷ drop (suc i) xs) m.3.0))

  pub mapped : (xs : List A) (ys : List B) (n : ℕ) → length xs ≡ n → IsMapOf g f xs ys n → ys ≡ map t xs
  mapped xs ys n a m = mapped_from xs ys n 0 (omega arith) (omega (arith, m.long)) m.each

-- ---- an array by its places
module _ {F B : Type 0} (g : Mut F (ℕ × Unit {0}) B) (f : F) (t : ℕ → B) (stays : (x : ℕ) (y : B) (q : F) → Called g f (x, tt) y q → (q ≡ f) × (y ≡ t x)) where
  made_from : (ys : List B) (n i : ℕ) → IsFromFnResultFrom g f ys i n → (s : ℕ) (d : B) → i ≤ s → s < i + n → get_or ys s d ≡ t s
  made_from ys zero i m s d a b = absurd (omega arith)
  made_from ys (suc n) i m s d a b =
      let here = stays i m.1 m.0 m.3 in
      elim (ℕ_discrete s i) [
        | yes e ↦ rw e (m.2.1 d ∙ here.1)
        | no e ↦ made_from ys n (i + 1) (subst (λ q. IsFromFnResultFrom g q ys (i + 1) n) here.0 m.4) s d (omega arith) (omega arith)
      ]

  pub made : (ys : List B) (n : ℕ) → IsFromFnResult g f ys n → (s : ℕ) (d : B) → s < n → get_or ys s d ≡ t s
  made ys n m s d b = made_from ys n 0 m.each s d (omega arith) (omega arith)

-- ---- it may be called at each place, at each entry
module _ {P A : Type 0} {R : P → A → P → Type 0} {Q : P → A → Type 0} {f : P} (stays : (x : A) (q : P) → R f x q → q ≡ f) where
  pub serves_entries : (xs : List A) → ((x : A) (k : ℕ) → k < length xs → x ≡ get_or xs k x → Q f x) → CallableAtEachTurn list_steps R Q xs f
  serves_entries xs h = serves_from_places (YieldsList-from_shown list_steps (λ x. x) (λ l. l) (λ s t e. ap length e) (λ s x t e. e) xs) stays h

module _ {P : Type 0} {R : P → ℕ → P → Type 0} {Q : P → ℕ → Type 0} {f : P} (stays : (x : ℕ) (q : P) → R f x q → q ≡ f) where
  pub serves_places : (n : ℕ) → ((x : ℕ) → x < n → Q f x) → CallableAtEachTurn (index_steps n) R Q 0 f
  serves_places n h =
      serves_by R (λ xs q. q ≡ f) (λ xs q x w j r. stays x w (subst (λ k. R k x w) j r)) (index_steps n) Q 0 f refl
      (λ xs t q x u y z j. subst (λ k. Q k x) (sym j) (h x (omega (arith, z))))
