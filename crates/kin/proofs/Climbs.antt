-- Climbing the parents: steps beyond the id change nothing, and a step up is one parent.
-- Assumes nothing.
use mathlib.Core.Path.{◌≡◌, refl, sym, ap, ap₂, ◌∙◌}
use mathlib.Core.Bool.{Bool, true, false, ◌||◌}
use mathlib.Core.List.{List, [], ◌∷◌}
use Prim.Native.Nat.{ℕ, zero, suc, ◌+◌, ◌<◌, ◌≤◌}
use native.Mathlib.Omega.{arith}
use lib.Dec.{eqb}
use lib.ListN.{length, get_or, set}
use lib.Seq.{get_or-set_same, get_or-set_other}
use native.Mathlib.Decide.{ℕ_discrete}
use borrow.Author.Tests.{eq-eqb, ne_eqb}
use Rattle.rules.specs.Numbers.{base_slots}
use Rattle.std.specs.Prelude.{Option, Some, None, if◌then◌else◌}
use Rattle.lines.specs.Lines.{struck, blanked}
use Rattle.lines.proofs.Marks.{get_or_struck, get_or_blanked}
use Rattle.kin.specs.Families.{above, climb, elders, kin, Kin, Marks}

pub spared_at : (ds : List Bool) (l : List ℕ) (s : ℕ) → get_or ds s false ≡ false → get_or (struck ds l) s 0 ≡ get_or l s 0
spared_at ds l s e = get_or_struck ds l s ∙ rw e

-- parents, none in each marked place
abbrev pub orphaned : List Bool → List (Option ℕ) → List (Option ℕ)
orphaned ds ps = blanked None ds ps

pub spared_parent : (ds : List Bool) (ps : List (Option ℕ)) (s : ℕ) → get_or ds s false ≡ false → get_or (orphaned ds ps) s None ≡ get_or ps s None
spared_parent ds ps s e = get_or_blanked None ds ps s ∙ ap (λ (b : Bool). if b then None else get_or ps s None) e

pub no_parent_left : (ds : List Bool) (ps : List (Option ℕ)) (s : ℕ) → get_or ds s false ≡ true → get_or (orphaned ds ps) s None ≡ None
no_parent_left ds ps s e = get_or_blanked None ds ps s ∙ ap (λ (b : Bool). if b then None else get_or ps s None) e

module _ (ps : List (Option ℕ)) (ids : List ℕ) (k : Kin ps ids) where
  orphan : (n s : ℕ) → s < base_slots → get_or ids s 0 ≤ 0 → climb ps ids n s ≡ []
  unfolding climb
  orphan zero s b h = refl
  orphan (suc n) s b h = go (get_or ps s None) refl
    where
      go : (u : Option ℕ) → get_or ps s None ≡ u → above u (λ p. get_or ids p 0 ∷ climb ps ids n p) ≡ []
      go None e = refl
      go (Some p) e = absurd (omega (arith, (k s p b e).older))

  -- steps beyond the id change nothing
  pub climb_enough : (n j s : ℕ) → s < base_slots → get_or ids s 0 ≤ n → get_or ids s 0 ≤ j → climb ps ids n s ≡ climb ps ids j s
  unfolding climb
  climb_enough zero j s b hn hj = sym (orphan j s b hn)
  climb_enough (suc n) zero s b hn hj = orphan (suc n) s b hj
  climb_enough (suc n) (suc j) s b hn hj = go (get_or ps s None) refl (λ p h x y. climb_enough n j p h x y)
    where
      go : (u : Option ℕ) → get_or ps s None ≡ u → ((p : ℕ) → p < base_slots → get_or ids p 0 ≤ n → get_or ids p 0 ≤ j → climb ps ids n p ≡ climb ps ids j p)
          → above u (λ p. get_or ids p 0 ∷ climb ps ids n p) ≡ above u (λ p. get_or ids p 0 ∷ climb ps ids j p)
      go None e ih = refl
      go (Some p) e ih =
          let q = k s p b e in
          ap (λ r. get_or ids p 0 ∷ r) (ih p q.slot (omega (arith, q.older)) (omega (arith, q.older)))

  pub elders_top : (s : ℕ) → s < base_slots → get_or ps s None ≡ None → elders ps ids s ≡ []
  unfolding climb
  elders_top s b e = go (get_or ids s 0)
    where
      go : (n : ℕ) → climb ps ids n s ≡ []
      go zero = refl
      go (suc n) = rw e

  pub elders_up : (s p : ℕ) → s < base_slots → get_or ps s None ≡ Some p → elders ps ids s ≡ get_or ids p 0 ∷ elders ps ids p
  unfolding climb
  elders_up s p b e =
      let q = k s p b e in
      climb_enough (get_or ids s 0) (suc (get_or ids s 0)) s b (omega arith) (omega arith)
      ∙ rw e (ap (λ r. get_or ids p 0 ∷ r) (climb_enough (get_or ids s 0) (get_or ids p 0) p q.slot (omega (arith, q.older)) (omega arith)))

  -- a walk up
  pub kin_here : (n s : ℕ) → get_or ids s 0 ≡ n → kin ps ids n s ≡ true
  kin_here n s e = rw (eq-eqb n (get_or ids s 0) (sym e))

  pub kin_top : (n s : ℕ) → s < base_slots → (get_or ids s 0 ≡ n → ⊥) → get_or ps s None ≡ None → kin ps ids n s ≡ false
  kin_top n s b h e = rw (ne_eqb n (get_or ids s 0) (λ q. h (sym q)), elders_top s b e)

  pub kin_up : (n s p : ℕ) → s < base_slots → (get_or ids s 0 ≡ n → ⊥) → get_or ps s None ≡ Some p → kin ps ids n s ≡ kin ps ids n p
  kin_up n s p b h e = rw (ne_eqb n (get_or ids s 0) (λ q. h (sym q)), elders_up s p b e)

  -- a child of the doomed is doomed
  pub kin_child : (n s p : ℕ) → s < base_slots → get_or ps s None ≡ Some p → kin ps ids n s ≡ false → kin ps ids n p ≡ false
  kin_child n s p b e h =
      go (eqb n (get_or ids s 0)) (kin ps ids n p) (rw (elders_up s p b e) at h)
    where
      go : (a c : Bool) → (a || c) ≡ false → c ≡ false
      go true true h = h
      go true false h = refl
      go false c h = h

  -- the spared keep their ancestors
  pub climb_struck : (ds : List Bool) (i : ℕ) → Marks ps ids i ds → (n s : ℕ) → s < base_slots → get_or ds s false ≡ false → climb (orphaned ds ps) (struck ds ids) n s ≡ climb ps ids n s
  unfolding climb
  climb_struck ds i w zero s b h = refl
  climb_struck ds i w (suc n) s b h =
      ap (λ u. above u (λ p. get_or (struck ds ids) p 0 ∷ climb (orphaned ds ps) (struck ds ids) n p)) (spared_parent ds ps s h)
      ∙ go (get_or ps s None) refl (λ p c e. climb_struck ds i w n p c e)
    where
      go : (u : Option ℕ) → get_or ps s None ≡ u → ((p : ℕ) → p < base_slots → get_or ds p false ≡ false → climb (orphaned ds ps) (struck ds ids) n p ≡ climb ps ids n p)
          → above u (λ p. get_or (struck ds ids) p 0 ∷ climb (orphaned ds ps) (struck ds ids) n p) ≡ above u (λ p. get_or ids p 0 ∷ climb ps ids n p)
      go None e ih = refl
      go (Some p) e ih =
          let q = k s p b e in
          let f : get_or ds p false ≡ false = w.each p q.slot ∙ kin_child i s p b e (sym (w.each s b) ∙ h) in
          ap₂ (λ x (xs : List ℕ). x ∷ xs) (spared_at ds ids p f) (ih p q.slot f)

-- one mark more
pub mark_more : (f : ℕ → Bool) (ds : List Bool) (s : ℕ) (v : Bool) → s < length ds → v ≡ f s → ((x : ℕ) → x < s → get_or ds x false ≡ f x) → (x : ℕ) → x < s + 1 → get_or (set ds s v) x false ≡ f x
mark_more f ds s v b e h x c = go (ℕ_discrete x s)
  where
    go : Dec (x ≡ s) → get_or (set ds s v) x false ≡ f x
    go (yes q) = rw (q, get_or-set_same ds s v false b) e
    go (no n) = get_or-set_other ds s x v false n ∙ h x (omega arith)
