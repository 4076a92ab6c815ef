-- Page tables and rows that match: what a mark, a set row and an end make of that.
use Rattle.std.specs.Prelude.{if◌then◌else◌}
use mathlib.Core.Bool.{Bool, true, false}
use mathlib.Core.Path.{◌≡◌, refl, sym, ◌∙◌, ap, subst}
use mathlib.Core.Logic.{◌≢◌, ◌⊎◌, inl, inr}
use mathlib.Core.List.{List, map}
use Prim.Native.Nat.{ℕ, suc, ◌-◌, ◌≤◌, ◌<◌}
use native.Mathlib.Omega.{arith}
use lib.Dec.{T, eqb, eqb→eq}
use lib.ListN.{length, get_or, set, length-set, length-map, get_or-replicate, get_or-map}
use lib.Seq.{get_or-set_same, get_or-set_other}
use borrow.Author.Tests.{eq-eqb, ne_eqb}
use Rattle.pages.specs.declared.Row.{Row}
use Rattle.pages.specs.declared.Table.{Table}
use Rattle.pages.specs.Numbers.{u_procs, width, frames}
use Rattle.pages.specs.Rules.{free, blank, no_table, table, entry, mark, row, held, freed}
use Rattle.pages.specs.Ruled.{Page, Seated, Matches}

-- ---- tests on numbers
pub decide : (a b : ℕ) → (a ≡ b) ⊎ (a ≢ b)
decide a b = go (eqb a b) refl
  where
    clash : eqb a b ≡ true → eqb a b ≡ false → ⊥
    clash p q = subst T (sym p ∙ q) tt

    go : (t : Bool) → eqb a b ≡ t → (a ≡ b) ⊎ (a ≢ b)
    go true q = inl (eqb→eq a b (subst T (sym q) tt))
    go false q = inr (λ e. clash (eq-eqb a b e) q)

-- ---- a mark
module _ (ts : List Table) (long : length ts ≡ u_procs) (u e v : ℕ) (h : Page u e) (wide : length (table ts u).entries ≡ width) where
  marked_table : table (mark ts u e v) u ≡ record { entries = set (table ts u).entries e v }
  marked_table = get_or-set_same ts (u - 1) _ no_table (let a = h.from in let b = h.upto in omega arith)

  other_table : (u' : ℕ) → 1 ≤ u' → u' ≢ u → table (mark ts u e v) u' ≡ table ts u'
  other_table u' one ne = get_or-set_other ts (u - 1) (u' - 1) _ no_table (λ z. ne (let a = h.from in omega arith))

  pub mark_same : entry (mark ts u e v) u e ≡ v
  mark_same = ap (λ (t : Table). get_or t.entries e 0) marked_table ∙ get_or-set_same (table ts u).entries e v 0 (rw wide h.entries)

  pub mark_at : (u' e' : ℕ) → 1 ≤ u' → ((u' ≡ u) × (e' ≡ e)) ⊎ (((u' ≡ u) → (e' ≡ e) → ⊥) × (entry (mark ts u e v) u' e' ≡ entry ts u' e'))
  mark_at u' e' one = go (decide u' u) (decide e' e)
    where
      go : (u' ≡ u) ⊎ (u' ≢ u) → (e' ≡ e) ⊎ (e' ≢ e) → ((u' ≡ u) × (e' ≡ e)) ⊎ (((u' ≡ u) → (e' ≡ e) → ⊥) × (entry (mark ts u e v) u' e' ≡ entry ts u' e'))
      go (inl a) (inl b) = inl (a, b)
      go (inr a) b = inr ((λ x y. a x), ap (λ (t : Table). get_or t.entries e' 0) (other_table u' one a))
      go (inl a) (inr b) = inr ((λ x y. b y), subst (λ (w : ℕ). entry (mark ts u e v) w e' ≡ entry ts w e') (sym a) (ap (λ (t : Table). get_or t.entries e' 0) marked_table ∙ get_or-set_other (table ts u).entries e e' v 0 b))

  pub mark_wide : (u' : ℕ) → 1 ≤ u' → length (table ts u').entries ≡ width → length (table (mark ts u e v) u').entries ≡ width
  mark_wide u' one w = go (decide u' u)
    where
      go : (u' ≡ u) ⊎ (u' ≢ u) → length (table (mark ts u e v) u').entries ≡ width
      go (inl a) = subst (λ (x : ℕ). length (table (mark ts u e v) x).entries ≡ width) (sym a) (ap (λ (t : Table). length t.entries) marked_table ∙ length-set (table ts u).entries e v ∙ wide)
      go (inr a) = ap (λ (t : Table). length t.entries) (other_table u' one a) ∙ w

-- ---- a row that is set
pub row_at : (rs : List Row) → length rs ≡ frames → (f : ℕ) (r : Row) → f < frames → (g : ℕ) → ((g ≡ f) × (row (set rs f r) g ≡ r)) ⊎ ((g ≢ f) × (row (set rs f r) g ≡ row rs g))
row_at rs long f r h g = go (decide g f)
  where
    go : (g ≡ f) ⊎ (g ≢ f) → ((g ≡ f) × (row (set rs f r) g ≡ r)) ⊎ ((g ≢ f) × (row (set rs f r) g ≡ row rs g))
    go (inl a) = inl (a, subst (λ (x : ℕ). row (set rs f r) x ≡ r) (sym a) (get_or-set_same rs f r free (rw long h)))
    go (inr a) = inr (a, get_or-set_other rs f g r free a)

pub zero_suc : {n : ℕ} → 0 ≡ suc n → ⊥
zero_suc h = omega arith

pub zero_one : 1 ≤ 0 → ⊥
zero_one h = omega arith

-- ---- a page is seated in a frame whose row is free
module _ {ts : List Table} {rs : List Row} (m : Matches ts rs) (f u e : ℕ) (h : f < frames) (page : Page u e) where
  abbrev wide_u : length (table ts u).entries ≡ width
  wide_u = m.wide u page.from page.upto

  pub seat : (row rs f).owner ≡ 0 → entry ts u e ≡ 0 → Matches (mark ts u e (suc f)) (set rs f (held u e))
  seat empty absent = record {
    eight = length-set ts (u - 1) _ ∙ m.eight;
    wide = λ u' a b. mark_wide ts m.eight u e (suc f) page wide_u u' a (m.wide u' a b);
    sixteen = length-set rs f _ ∙ m.sixteen;
    named = λ g k own. name g k own (row_at rs m.sixteen f (held u e) h g);
    present = λ u' e' g p' q. lie u' e' g p' q (mark_at ts m.eight u e (suc f) page wide_u u' e' p'.from);
  }
    where
      ts' : List Table
      ts' = mark ts u e (suc f)

      same : entry ts' u e ≡ suc f
      same = mark_same ts m.eight u e (suc f) page wide_u

      moved : (g : ℕ) (r : Row) → Seated ts g r → Seated ts' g r
      moved g r s = go (mark_at ts m.eight u e (suc f) page wide_u r.owner r.page s.page.from)
        where
          go : ((r.owner ≡ u) × (r.page ≡ e)) ⊎ (((r.owner ≡ u) → (r.page ≡ e) → ⊥) × (entry ts' r.owner r.page ≡ entry ts r.owner r.page)) → Seated ts' g r
          go (inl z) = absurd (zero_suc (sym absent ∙ sym (rw (z.0, z.1) refl) ∙ s.lies))
          go (inr z) = record { page = s.page; lies = z.1 ∙ s.lies }

      name : (g : ℕ) → g < frames → 1 ≤ (row (set rs f (held u e)) g).owner → ((g ≡ f) × (row (set rs f (held u e)) g ≡ held u e)) ⊎ ((g ≢ f) × (row (set rs f (held u e)) g ≡ row rs g)) → Seated ts' g (row (set rs f (held u e)) g)
      name g k own (inl z) = subst (Seated ts' g) (sym z.1) (record { page = page; lies = same ∙ ap suc (sym z.0) })
      name g k own (inr z) = subst (Seated ts' g) (sym z.1) (moved g (row rs g) (m.named g k (subst (λ (r : Row). 1 ≤ r.owner) z.1 own)))

      lie : (u' e' g : ℕ) → Page u' e' → entry ts' u' e' ≡ suc g → ((u' ≡ u) × (e' ≡ e)) ⊎ (((u' ≡ u) → (e' ≡ e) → ⊥) × (entry ts' u' e' ≡ entry ts u' e')) → (g < frames) × (row (set rs f (held u e)) g ≡ held u' e')
      lie u' e' g p' q (inl z) =
          let w : entry ts' u' e' ≡ suc f = rw (z.0, z.1) same in
          let k : g ≡ f = let y = sym w ∙ q in omega arith in
          (rw k h, rw (k, z.0, z.1) (get_or-set_same rs f (held u e) free (rw m.sixteen h)))
      lie u' e' g p' q (inr z) = go (row_at rs m.sixteen f (held u e) h g) (m.present u' e' g p' (sym z.1 ∙ q))
        where
          go : ((g ≡ f) × (row (set rs f (held u e)) g ≡ held u e)) ⊎ ((g ≢ f) × (row (set rs f (held u e)) g ≡ row rs g)) → (g < frames) × (row rs g ≡ held u' e') → (g < frames) × (row (set rs f (held u e)) g ≡ held u' e')
          go (inl y) old = let own : u' ≡ 0 = sym (ap (λ (r : Row). r.owner) old.1) ∙ rw y.0 empty in absurd (let a = p'.from in zero_one (rw own at a))
          go (inr y) old = (old.0, y.1 ∙ old.1)

  -- ---- and taken from a frame: the row that named it is free
  pub unseat : row rs f ≡ held u e → Matches (mark ts u e 0) (set rs f free)
  unseat was = record {
    eight = length-set ts (u - 1) _ ∙ m.eight;
    wide = λ u' a b. mark_wide ts m.eight u e 0 page wide_u u' a (m.wide u' a b);
    sixteen = length-set rs f _ ∙ m.sixteen;
    named = λ g k own. name g k own (row_at rs m.sixteen f free h g);
    present = λ u' e' g p' q. lie u' e' g p' q (mark_at ts m.eight u e 0 page wide_u u' e' p'.from);
  }
    where
      ts' : List Table
      ts' = mark ts u e 0

      same : entry ts' u e ≡ 0
      same = mark_same ts m.eight u e 0 page wide_u

      lay : entry ts u e ≡ suc f
      lay = subst (λ (r : Row). entry ts r.owner r.page ≡ suc f) was (m.named f h (rw was page.from)).lies

      moved : (g : ℕ) (r : Row) → g ≢ f → Seated ts g r → Seated ts' g r
      moved g r ne s = go (mark_at ts m.eight u e 0 page wide_u r.owner r.page s.page.from)
        where
          go : ((r.owner ≡ u) × (r.page ≡ e)) ⊎ (((r.owner ≡ u) → (r.page ≡ e) → ⊥) × (entry ts' r.owner r.page ≡ entry ts r.owner r.page)) → Seated ts' g r
          go (inl z) = absurd (ne (let w : entry ts r.owner r.page ≡ suc f = rw (z.0, z.1) lay in let y = sym s.lies ∙ w in omega arith))
          go (inr z) = record { page = s.page; lies = z.1 ∙ s.lies }

      name : (g : ℕ) → g < frames → 1 ≤ (row (set rs f free) g).owner → ((g ≡ f) × (row (set rs f free) g ≡ free)) ⊎ ((g ≢ f) × (row (set rs f free) g ≡ row rs g)) → Seated ts' g (row (set rs f free) g)
      name g k own (inl z) = absurd (zero_one (subst (λ (r : Row). 1 ≤ r.owner) z.1 own))
      name g k own (inr z) = subst (Seated ts' g) (sym z.1) (moved g (row rs g) z.0 (m.named g k (subst (λ (r : Row). 1 ≤ r.owner) z.1 own)))

      lie : (u' e' g : ℕ) → Page u' e' → entry ts' u' e' ≡ suc g → ((u' ≡ u) × (e' ≡ e)) ⊎ (((u' ≡ u) → (e' ≡ e) → ⊥) × (entry ts' u' e' ≡ entry ts u' e')) → (g < frames) × (row (set rs f free) g ≡ held u' e')
      lie u' e' g p' q (inl z) = absurd (zero_suc (sym same ∙ sym (rw (z.0, z.1) refl) ∙ q))
      lie u' e' g p' q (inr z) = go (row_at rs m.sixteen f free h g) (m.present u' e' g p' (sym z.1 ∙ q))
        where
          go : ((g ≡ f) × (row (set rs f free) g ≡ free)) ⊎ ((g ≢ f) × (row (set rs f free) g ≡ row rs g)) → (g < frames) × (row rs g ≡ held u' e') → (g < frames) × (row (set rs f free) g ≡ held u' e')
          go (inl y) old = let x : held u' e' ≡ held u e = sym old.1 ∙ ap (row rs) y.0 ∙ was in absurd (z.0 (ap (λ (r : Row). r.owner) x) (ap (λ (r : Row). r.page) x))
          go (inr y) old = (old.0, y.1 ∙ old.1)

-- ---- a U-proc ends
freed_free : (u : ℕ) → freed u free ≡ free
freed_free u = go (eqb 0 u)
  where
    go : (b : Bool) → (if b then free else free) ≡ free
    go true = refl
    go false = refl

pub freed_row : (u : ℕ) (rs : List Row) (f : ℕ) → row (map (freed u) rs) f ≡ freed u (row rs f)
freed_row u rs f = ap (λ (d : Row). get_or (map (freed u) rs) f d) (sym (freed_free u)) ∙ get_or-map (freed u) rs f free

module _ {ts : List Table} {rs : List Row} (m : Matches ts rs) (u : ℕ) (from : 1 ≤ u) (upto : u ≤ u_procs) where
  abbrev ts₀ : List Table
  ts₀ = set ts (u - 1) blank

  pub ended_table : table ts₀ u ≡ blank
  ended_table = get_or-set_same ts (u - 1) blank no_table (let l = m.eight in omega arith)

  pub kept_table : (u' : ℕ) → 1 ≤ u' → u' ≢ u → table ts₀ u' ≡ table ts u'
  kept_table u' one ne = get_or-set_other ts (u - 1) (u' - 1) blank no_table (λ z. ne (omega arith))

  pub ended : Matches ts₀ (map (freed u) rs)
  ended = record {
    eight = length-set ts (u - 1) blank ∙ m.eight;
    wide = λ u' a b. still_wide u' a b (decide u' u);
    sixteen = length-map rs (freed u) ∙ m.sixteen;
    named = λ f k own. name f k (eqb (row rs f).owner u) refl (subst (λ (r : Row). 1 ≤ r.owner) (freed_row u rs f) own);
    present = λ u' e' f p' q. lie u' e' f p' q (decide u' u);
  }
    where
      still_wide : (u' : ℕ) → 1 ≤ u' → u' ≤ u_procs → (u' ≡ u) ⊎ (u' ≢ u) → length (table ts₀ u').entries ≡ width
      still_wide u' a b (inl z) = rw z (ap (λ (t : Table). length t.entries) ended_table)
      still_wide u' a b (inr z) = ap (λ (t : Table). length t.entries) (kept_table u' a z) ∙ m.wide u' a b

      apart : (f : ℕ) → eqb (row rs f).owner u ≡ false → (row rs f).owner ≢ u
      apart f q e = clash (eq-eqb _ _ e) q
        where
          clash : eqb (row rs f).owner u ≡ true → eqb (row rs f).owner u ≡ false → ⊥
          clash p q = subst T (sym p ∙ q) tt

      name : (f : ℕ) → f < frames → (b : Bool) → eqb (row rs f).owner u ≡ b → 1 ≤ (freed u (row rs f)).owner → Seated ts₀ f (row (map (freed u) rs) f)
      name f k true q own = absurd (zero_one (rw q at own))
      name f k false q own =
          let keeps : freed u (row rs f) ≡ row rs f = rw q refl in
          let s = m.named f k (subst (λ (r : Row). 1 ≤ r.owner) keeps own) in
          subst (Seated ts₀ f) (sym (freed_row u rs f ∙ keeps))
          (record { page = s.page; lies = ap (λ (t : Table). get_or t.entries (row rs f).page 0) (kept_table (row rs f).owner s.page.from (apart f q)) ∙ s.lies })

      lie : (u' e' f : ℕ) → Page u' e' → entry ts₀ u' e' ≡ suc f → (u' ≡ u) ⊎ (u' ≢ u) → (f < frames) × (row (map (freed u) rs) f ≡ held u' e')
      lie u' e' f p' q (inl z) =
          let w : entry ts₀ u' e' ≡ 0 = rw z (ap (λ (t : Table). get_or t.entries e' 0) ended_table ∙ get_or-replicate width e' 0 0 p'.entries) in
          absurd (zero_suc (sym w ∙ q))
      lie u' e' f p' q (inr z) =
          let old = m.present u' e' f p' (sym (ap (λ (t : Table). get_or t.entries e' 0) (kept_table u' p'.from z)) ∙ q) in
          (old.0, freed_row u rs f ∙ ap (freed u) old.1 ∙ rw (ne_eqb u' u z) refl)
