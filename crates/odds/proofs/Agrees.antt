-- Rows agree with page tables and transfer exactly where the rule says that they do.
use mathlib.Core.Bool.{Bool, true, false, ◌&&◌, ◌||◌, false≢true}
use mathlib.Core.Path.{◌≡◌, refl, sym, ◌∙◌, ap, subst}
use mathlib.Core.Logic.{◌≢◌, ◌⊎◌, inl, inr}
use mathlib.Core.List.{List, [], ◌∷◌}
use Prim.Native.Nat.{ℕ, zero, suc, ◌+◌, ◌-◌, ◌≤◌, ◌<◌}
use native.Mathlib.Omega.{arith}
use native.Mathlib.Nat.{not-suc-le-zero, le_of_suc-le-suc}
use lib.Dec.{eqb, leb, ltb}
use lib.ListN.{length, get_or, get_or-eq_default}
use borrow.Author.Tests.{eq-eqb, ne_eqb, eqb-true, leb-true, ltb-true, le-leb, lt-ltb}
use Rattle.rules.proofs.Cases.{and_intro, and_left, and_right}
use Rattle.pages.specs.declared.Row.{Row}
use Rattle.pages.specs.declared.Table.{Table}
use Rattle.pages.specs.declared.Transfer.{Transfer}
use Rattle.pages.specs.Numbers.{u_procs, width, frames}
use Rattle.pages.specs.Rules.{free, no_table, table, entry, row, held, is_free, is_uproc}
use Rattle.pages.specs.Ruled.{Page, Seated, Matches}
use Rattle.pages.proofs.Matches.{decide}
use Rattle.odds.specs.Odds.{every, row_agrees, entry_agrees, table_agrees, transfer_agrees, agrees}

-- ── Each in a list ──

module _ {A : Type 0} (t : ℕ → A → Bool) where
  every_at : (k : ℕ) (l : List A) → every t k l ≡ true → (i : ℕ) (d : A) → i < length l → t (k + i) (get_or l i d) ≡ true
  every_at k [] e i d h = absurd (not-suc-le-zero h)
  every_at k (x ∷ l) e zero d h = let y : k + 0 ≡ k = omega arith in rw y (and_left (t k x) (every t (suc k) l) e)
  every_at k (x ∷ l) e (suc i) d h = let y : k + suc i ≡ suc k + i = omega arith in rw y (every_at (suc k) l (and_right (t k x) (every t (suc k) l) e) i d (le_of_suc-le-suc h))

  every_of : (k : ℕ) (l : List A) (d : A) → ((i : ℕ) → i < length l → t (k + i) (get_or l i d) ≡ true) → every t k l ≡ true
  every_of k [] d h = refl
  every_of k (x ∷ l) d h = and_intro (t k x) (every t (suc k) l)
      (let y : k + 0 ≡ k = omega arith in rw y at (h 0 (omega arith)))
      (every_of (suc k) l d (λ i b. let y : k + suc i ≡ suc k + i = omega arith in rw y at (h (suc i) (omega arith))))

-- ── A row ──

or_right : (a b : Bool) → (a || b) ≡ true → a ≡ false → b ≡ true
or_right true b e f = absurd (false≢true (sym f))
or_right false b e f = e

module _ (ts : List Table) (f : ℕ) (r : Row) where
  seated : row_agrees ts f r ≡ true → 1 ≤ r.owner → Seated ts f r
  seated e own = record {
    page = record {
      from = own;
      upto = leb-true r.owner u_procs (and_right (leb 1 r.owner) (leb r.owner u_procs) (and_left (is_uproc r.owner) (ltb r.page width && eqb (entry ts r.owner r.page) (suc f)) rest));
      entries = ltb-true r.page width (and_left (ltb r.page width) (eqb (entry ts r.owner r.page) (suc f)) tail);
    };
    lies = eqb-true (entry ts r.owner r.page) (suc f) (and_right (ltb r.page width) (eqb (entry ts r.owner r.page) (suc f)) tail);
  }
    where
      rest : (is_uproc r.owner && (ltb r.page width && eqb (entry ts r.owner r.page) (suc f))) ≡ true
      rest = or_right (is_free r) (is_uproc r.owner && (ltb r.page width && eqb (entry ts r.owner r.page) (suc f))) e (ne_eqb r.owner 0 (λ z. omega arith))

      tail : (ltb r.page width && eqb (entry ts r.owner r.page) (suc f)) ≡ true
      tail = and_right (is_uproc r.owner) (ltb r.page width && eqb (entry ts r.owner r.page) (suc f)) rest

  row_is : (1 ≤ r.owner → Seated ts f r) → row_agrees ts f r ≡ true
  row_is h = go (decide r.owner 0)
    where
      go : (r.owner ≡ 0) ⊎ (r.owner ≢ 0) → row_agrees ts f r ≡ true
      go (inl z) = rw (eq-eqb r.owner 0 z) refl
      go (inr z) =
          let s = h (omega arith) in
          rw (ne_eqb r.owner 0 z, le-leb 1 r.owner s.page.from, le-leb r.owner u_procs s.page.upto, lt-ltb r.page width s.page.entries, eq-eqb (entry ts r.owner r.page) (suc f) s.lies) refl

-- ── An entry ──

module _ (rs : List Row) (u e : ℕ) where
  -- a present entry's frame is in the pool, and its row that of the page
  there : length rs ≡ frames → 1 ≤ u → (f : ℕ) → entry_agrees rs u e (suc f) ≡ true → (f < frames) × (row rs f ≡ held u e)
  there long from f q = (inside, same)
    where
      y : suc f - 1 ≡ f
      y = omega arith

      both : (eqb (row rs f).owner u && eqb (row rs f).page e) ≡ true
      both = rw y at (or_right (eqb (suc f) 0) (eqb (row rs (suc f - 1)).owner u && eqb (row rs (suc f - 1)).page e) q (ne_eqb (suc f) 0 (λ z. omega arith)))

      own : (row rs f).owner ≡ u
      own = eqb-true (row rs f).owner u (and_left (eqb (row rs f).owner u) (eqb (row rs f).page e) both)

      pag : (row rs f).page ≡ e
      pag = eqb-true (row rs f).page e (and_right (eqb (row rs f).owner u) (eqb (row rs f).page e) both)

      same : row rs f ≡ held u e
      same = λ i. record { owner = own i; page = pag i }

      out : frames ≤ f → ⊥
      out h = let z : row rs f ≡ free = get_or-eq_default rs free (rw long h) in let w = sym own ∙ ap (λ (r : Row). r.owner) z in omega arith

      inside : f < frames
      inside = omega (arith, out)

  entry_is : (v : ℕ) → ((f : ℕ) → v ≡ suc f → row rs f ≡ held u e) → entry_agrees rs u e v ≡ true
  entry_is zero h = refl
  entry_is (suc f) h =
      let y : suc f - 1 ≡ f = omega arith in
      let z = h f refl in
      let a : (row rs (suc f - 1)).owner ≡ u = rw y (ap (λ (r : Row). r.owner) z) in
      let b : (row rs (suc f - 1)).page ≡ e = rw y (ap (λ (r : Row). r.page) z) in
      rw (ne_eqb (suc f) 0 (λ w. omega arith), eq-eqb (row rs (suc f - 1)).owner u a, eq-eqb (row rs (suc f - 1)).page e b) refl

-- ── The rows and the tables ──

module _ (ts : List Table) (rs : List Row) (t : Transfer) where
  rows_pass : agrees ts rs t ≡ true → every (row_agrees ts) 0 rs ≡ true
  unfolding agrees
  rows_pass e = and_left (every (row_agrees ts) 0 rs) (every (table_agrees rs) 0 ts && transfer_agrees rs t) e

  tables_pass : agrees ts rs t ≡ true → every (table_agrees rs) 0 ts ≡ true
  unfolding agrees
  tables_pass e = and_left (every (table_agrees rs) 0 ts) (transfer_agrees rs t) (and_right (every (row_agrees ts) 0 rs) (every (table_agrees rs) 0 ts && transfer_agrees rs t) e)

  pub transfer_passes : agrees ts rs t ≡ true → transfer_agrees rs t ≡ true
  unfolding agrees
  transfer_passes e = and_right (every (table_agrees rs) 0 ts) (transfer_agrees rs t) (and_right (every (row_agrees ts) 0 rs) (every (table_agrees rs) 0 ts && transfer_agrees rs t) e)

  module _ (eight : length ts ≡ u_procs) (wide : (u : ℕ) → 1 ≤ u → u ≤ u_procs → length (table ts u).entries ≡ width) (sixteen : length rs ≡ frames) where
    pub matched : agrees ts rs t ≡ true → Matches ts rs
    matched e = record {
      eight = eight;
      wide = wide;
      sixteen = sixteen;
      named = λ f h own. seated ts f (row rs f) (let y : 0 + f ≡ f = omega arith in rw y at (every_at (row_agrees ts) 0 rs (rows_pass e) f free (rw sixteen h))) own;
      present = λ u g f page q. there rs u g sixteen page.from f (subst (λ (v : ℕ). entry_agrees rs u g v ≡ true) q (at u g page));
    }
      where
        at : (u g : ℕ) → Page u g → entry_agrees rs u g (entry ts u g) ≡ true
        at u g page =
            let a = page.from in
            let b = page.upto in
            let y : suc (0 + (u - 1)) ≡ u = omega arith in
            let z : 0 + g ≡ g = omega arith in
            rw z at (every_at (entry_agrees rs u) 0 (table ts u).entries
            (rw y at (every_at (table_agrees rs) 0 ts (tables_pass e) (u - 1) no_table (omega arith))) g 0 (rw (wide u a b) page.entries))

  pub agreed : Matches ts rs → transfer_agrees rs t ≡ true → agrees ts rs t ≡ true
  unfolding agrees
  agreed m moves = and_intro (every (row_agrees ts) 0 rs) (every (table_agrees rs) 0 ts && transfer_agrees rs t)
      (every_of (row_agrees ts) 0 rs free (λ f h. row_is ts (0 + f) (row rs f) (λ own. let y : 0 + f ≡ f = omega arith in rw y (m.named f (rw m.sixteen at h) own))))
      (and_intro (every (table_agrees rs) 0 ts) (transfer_agrees rs t)
      (every_of (table_agrees rs) 0 ts no_table (λ i h. every_of (entry_agrees rs (suc (0 + i))) 0 (get_or ts i no_table).entries 0 (λ g k. entry_is rs (suc (0 + i)) (0 + g) (get_or (get_or ts i no_table).entries g 0) (λ f q. lies i h g k f q))))
      moves)
    where
      lies : (i : ℕ) → i < length ts → (g : ℕ) → g < length (get_or ts i no_table).entries → (f : ℕ) → get_or (get_or ts i no_table).entries g 0 ≡ suc f → row rs f ≡ held (suc (0 + i)) (0 + g)
      lies i h g k f q =
          let a = m.eight in
          let y : suc (0 + i) ≡ suc i = omega arith in
          let z : 0 + g ≡ g = omega arith in
          let w : suc i - 1 ≡ i = omega arith in
          let n : length (get_or ts i no_table).entries ≡ width = rw w at (m.wide (suc i) (omega arith) (omega arith)) in
          rw (y, z) (m.present (suc i) g f (record { from = omega arith; upto = omega arith; entries = rw n at k }) (rw w q)).1

-- ── The open transfer: its row is free ──

and_yes : (b : Bool) → (b && true) ≡ b
and_yes true = refl
and_yes false = refl

pub moving_free : (rs : List Row) (f : ℕ) → (is_free (row rs f) && true) ≡ true → (row rs f).owner ≡ 0
moving_free rs f e = eqb-true (row rs f).owner 0 (sym (and_yes (is_free (row rs f))) ∙ e)

pub free_moving : (rs : List Row) (f : ℕ) → (row rs f).owner ≡ 0 → (is_free (row rs f) && true) ≡ true
free_moving rs f e = and_yes (is_free (row rs f)) ∙ eq-eqb (row rs f).owner 0 e
