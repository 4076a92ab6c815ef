-- Those whose number is told, where no two have the same number: just those who are meant. And the slots of a mask.
use Rattle.std.specs.Prelude.{if◌then◌else◌}
use mathlib.Core.Path.{◌≡◌, refl, sym, ◌∙◌, ap}
use mathlib.Core.Bool.{Bool, true, false, not, true≢false}
use mathlib.Core.List.{List, [], ◌∷◌, map}
use Prim.Native.Nat.{ℕ, ◌+◌, ◌≤◌, ◌^◌}
use native.Mathlib.Omega.{arith}
use lib.Dec.{eqb, leb, ltb}
use borrow.Author.Tests.{eq-eqb, le-leb, lt-leb}
use Rattle.rules.specs.Words.{those, front, without, any, among, sum, count, many, All}
use Rattle.rules.proofs.Cases.{All-both}
use Rattle.rules.proofs.Sums.{sum_over, sum_split, sum_front}
use Rattle.rules.proofs.Sound.{eqb_swap}
use Rattle.rules.specs.Machine.{Process}
use Rattle.rules.specs.Answers.{mask}
use Rattle.rules.specs.Tables.{slots_of}
use Rattle.ledger.specs.History.{mask_bits, slots_in}
use Rattle.ledger.proofs.Lists.{any_many}
use Rattle.ledger.proofs.Masks.{sum_slots}

-- somebody passes, or nobody, told by counting
pub some_pass {ℓ} : {A : Type ℓ} (t : A → Bool) (xs : List A) → 1 ≤ many t xs → any t xs ≡ true
some_pass t xs h = any_many t xs ∙ le-leb 1 (many t xs) h

pub none_pass {ℓ} : {A : Type ℓ} (t : A → Bool) (xs : List A) → many t xs ≤ 0 → any t xs ≡ false
none_pass t xs h = any_many t xs ∙ lt-leb 1 (many t xs) (omega arith)

module _ {A : Type 0} (key : A → ℕ) where
  abbrev pub same_key : A → A → Bool
  same_key x y = eqb (key x) (key y)

  -- no two have the same number
  abbrev pub Once : List A → Type 0
  Once xs = (s : ℕ) → many (λ x. eqb s (key x)) xs ≤ 1

  pub those_keys : (t : ℕ → Bool) (xs : List A) → those t (map key xs) ≡ map key (those (λ x. t (key x)) xs)
  those_keys t [] = refl
  those_keys t (x ∷ xs) = go (t (key x)) (those_keys t xs)
    where
      go : (b : Bool) → those t (map key xs) ≡ map key (those (λ x. t (key x)) xs)
          → (if b then key x ∷ those t (map key xs) else those t (map key xs)) ≡ map key (if b then x ∷ those (λ x. t (key x)) xs else those (λ x. t (key x)) xs)
      go true ih = ap (λ (ns : List ℕ). key x ∷ ns) ih
      go false ih = ih

  -- whoever passes a test is counted among those who pass
  pub counted_in : (t : A → Bool) (xs : List A) → All (λ x. t x ≡ true → 1 ≤ many (same_key x) (those t xs)) xs
  counted_in t [] = tt
  counted_in t (x ∷ xs) = go (t x) (counted_in t xs)
    where
      more : (b : Bool) (ys : List A) → All (λ y. t y ≡ true → 1 ≤ many (same_key y) (those t xs)) ys → All (λ y. t y ≡ true → 1 ≤ many (same_key y) (if b then x ∷ those t xs else those t xs)) ys
      more b [] h = tt
      more true (y ∷ ys) h = (λ e. omega (arith, h.0 e), more true ys h.1)
      more false (y ∷ ys) h = h

      go : (b : Bool) → All (λ y. t y ≡ true → 1 ≤ many (same_key y) (those t xs)) xs
          → (b ≡ true → 1 ≤ many (same_key x) (if b then x ∷ those t xs else those t xs)) × All (λ y. t y ≡ true → 1 ≤ many (same_key y) (if b then x ∷ those t xs else those t xs)) xs
      go true h = (λ _. rw (eq-eqb (key x) (key x) refl) (omega arith), more true xs h)
      go false h = (λ e. absurd (true≢false (sym e)), h)

  -- whoever's number is one of those who pass passes
  pub picked : (t : A → Bool) (xs : List A) → Once xs → All (λ x. any (same_key x) (those t xs) ≡ t x) xs
  picked t xs one = All-both _ _ _ (λ x a b. go x (t x) a b) xs (counted_in t xs) (counted_in (λ x. not (t x)) xs)
    where
      go : (x : A) (b : Bool) → (b ≡ true → 1 ≤ many (same_key x) (those t xs)) → (not b ≡ true → 1 ≤ many (same_key x) (those (λ x. not (t x)) xs)) → any (same_key x) (those t xs) ≡ b
      go x true a b = some_pass (same_key x) (those t xs) (a refl)
      go x false a b = none_pass (same_key x) (those t xs) (omega (arith, b refl, sum_split (λ y. count (same_key x y)) t xs, one (key x)))

  -- nobody has the number: all stay where those who have it leave
  pub nobody_leaves : (s : ℕ) (xs : List A) → many (λ x. eqb s (key x)) xs ≤ 0 → those (λ n. not (eqb s n)) (map key xs) ≡ map key xs
  nobody_leaves s [] h = refl
  nobody_leaves s (x ∷ xs) h = go (eqb s (key x)) h (nobody_leaves s xs)
    where
      go : (b : Bool) → count b + many (λ x. eqb s (key x)) xs ≤ 0 → (many (λ x. eqb s (key x)) xs ≤ 0 → those (λ n. not (eqb s n)) (map key xs) ≡ map key xs)
          → (if not b then key x ∷ those (λ n. not (eqb s n)) (map key xs) else those (λ n. not (eqb s n)) (map key xs)) ≡ key x ∷ map key xs
      go true h ih = absurd (omega arith)
      go false h ih = ap (λ (ns : List ℕ). key x ∷ ns) (ih (omega arith))

  -- the first has it: the rest stay
  pub first_leaves : (x : A) (xs : List A) → Once (x ∷ xs) → those (λ n. not (eqb (key x) n)) (key x ∷ map key xs) ≡ map key xs
  first_leaves x xs one = let e = eq-eqb (key x) (key x) refl in rw e (nobody_leaves (key x) xs (omega (arith, rw e at (one (key x)))))

  -- x has a number that nobody else has
  alone : (x : A) (ys : List A) → many (same_key x) ys ≤ 0 → (those (λ y. any (same_key y) (x ∷ [])) ys ≡ []) × (those (λ y. not (any (same_key y) (x ∷ []))) ys ≡ ys)
  alone x [] h = (refl, refl)
  alone x (y ∷ ys) h =
      let other : same_key y x ≡ false = another (same_key y x) (omega (arith, h, eqb_swap (key y) (key x))) in
      let ih = alone x ys (omega (arith, h)) in
      rw other (ih.0, ap (λ (zs : List A). y ∷ zs) ih.1)
    where
      another : (b : Bool) → count b ≤ 0 → b ≡ false
      another true h = absurd (omega arith)
      another false h = refl

  -- the first who passes, by the number alone: it goes, and the others stay
  module _ (t : A → Bool) where
    -- whose number is that of one of these
    abbrev pub told : List A → A → Bool
    told fs x = any (same_key x) fs

    pub first_goes : (xs : List A) → Once xs → (those (told (front (those t xs))) xs ≡ front (those t xs)) × (those (λ x. not (told (front (those t xs)) x)) xs ≡ without t xs)
    first_goes [] one = (refl, refl)
    first_goes (x ∷ xs) one = go (t x) (first_goes xs (λ s. omega (arith, one s)))
      where
        own : eqb (key x) (key x) ≡ true
        own = eq-eqb (key x) (key x) refl

        only : many (same_key x) xs ≤ 0
        only = omega (arith, rw own at (one (key x)))

        not_told : told (front (those t xs)) x ≡ false
        not_told = none_pass (same_key x) (front (those t xs)) (omega (
          arith,
          only,
          sum_front (λ y. count (same_key x y)) (those t xs),
          sum_split (λ y. count (same_key x y)) t xs,
        ))

        go : (b : Bool) → (those (told (front (those t xs))) xs ≡ front (those t xs)) × (those (λ y. not (told (front (those t xs)) y)) xs ≡ without t xs)
            → (those (told (front (if b then x ∷ those t xs else those t xs))) (x ∷ xs) ≡ front (if b then x ∷ those t xs else those t xs))
            × (those (λ y. not (told (front (if b then x ∷ those t xs else those t xs)) y)) (x ∷ xs) ≡ (if b then xs else x ∷ without t xs))
        go true ih = let k = alone x xs only in rw own (ap (λ (ys : List A). x ∷ ys) k.0, k.1)
        go false ih = rw not_told (ih.0, ap (λ (ys : List A). x ∷ ys) ih.1)

-- ── The slots of a mask ──

pub mask_tells : (ps : List Process) → ((s : ℕ) → many (λ p. eqb s p.slot) ps ≤ count (ltb s mask_bits)) → (s : ℕ) → among s (slots_in mask_bits (mask ps)) ≡ any (λ p. eqb s p.slot) ps
unfolding mask
mask_tells ps few s =
    let ss : List ℕ = slots_of ps in
    let f : ℕ → ℕ = λ n. count (eqb s n) in
    any_many (eqb s) (slots_in mask_bits (mask ps))
    ∙ ap (λ (x : ℕ). leb 1 (sum f (slots_in mask_bits x))) (sym (sum_over (λ (n : ℕ). 2 ^ n) (λ p. p.slot) ps))
    ∙ ap (leb 1) (sum_slots mask_bits f ss (λ n. omega (arith, few n, sum_over (λ (k : ℕ). count (eqb n k)) (λ p. p.slot) ps)) ∙ sum_over f (λ p. p.slot) ps)
    ∙ sym (any_many (λ p. eqb s p.slot) ps)
