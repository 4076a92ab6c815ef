-- The entry of a page number, as code finds it, and what refills and faults make of it.
use Rattle.std.specs.Prelude.{Option, Some, None}
use mathlib.Core.Path.{◌≡◌, refl, ap}
use mathlib.Core.Logic.{◌≢◌}
use mathlib.Core.List.{List, [], ◌∷◌}
use Prim.Native.Nat.{ℕ, ◌-◌, ◌≤◌, ◌<◌}
use native.Mathlib.Omega.{arith}
use borrow.Author.Tests.{eq-eqb, ne_eqb, le-leb, lt-leb}
use Rattle.rules.specs.Words.{first}
use Rattle.pages.specs.declared.Cause.{Cause}
use Rattle.pages.specs.declared.Cause.TheVariants.{Load, Store, Modification}
use Rattle.pages.specs.declared.Word.TheVariants as word
use Rattle.pages.specs.declared.Pager.{Pager}
use Rattle.pages.specs.Numbers.{width, first_page, last_page, stack_page, stack_entry}
use Rattle.pages.specs.Rules.{entry, entry_of, saying, trap, refill, wants, fault}
use Rattle.pages.proofs.Happens.{page_cases}

-- the entry of a page number, or none
abbrev pub number : ℕ → Option ℕ
number n = first (entry_of n) None (λ e. Some e)

module _ (n : ℕ) where
  pub stack : n ≡ stack_page → Some stack_entry ≡ number n
  unfolding entry_of
  stack e = rw (le-leb first_page n (omega arith), lt-leb n last_page (omega arith), eq-eqb n stack_page e) refl

  pub below : n ≢ stack_page → n < first_page → None ≡ number n
  unfolding entry_of
  below ne h = rw (lt-leb first_page n h, ne_eqb n stack_page ne) refl

  pub above : n ≢ stack_page → first_page ≤ n → last_page < n → None ≡ number n
  unfolding entry_of
  above ne h k = rw (le-leb first_page n h, lt-leb n last_page k, ne_eqb n stack_page ne) refl

  pub inside : first_page ≤ n → n ≤ last_page → Some (n - first_page) ≡ number n
  unfolding entry_of
  inside h k = rw (le-leb first_page n h, le-leb n last_page k) refl

-- what the rules make of an entry, or of none
module _ (n : ℕ) where
  without_entry : {A : Type 0} (none : A) (some : ℕ → A) → None ≡ number n → none ≡ first (entry_of n) none some
  without_entry {A} none some = go (entry_of n)
    where
      go : (es : List ℕ) → None ≡ first es None (λ e. Some e) → none ≡ first es none some
      go [] q = refl
      go (x ∷ xs) q = absurd (let z : ◌≡◌ {A = ℕ} 0 1 = cc in omega arith)

  with_entry : {A : Type 0} (none : A) (some : ℕ → A) (e : ℕ) → Some e ≡ number n → some e ≡ first (entry_of n) none some
  with_entry {A} none some e = go (entry_of n)
    where
      go : (es : List ℕ) → Some e ≡ first es None (λ x. Some x) → some e ≡ first es none some
      go [] q = absurd (let z : ◌≡◌ {A = ℕ} 0 1 = cc in omega arith)
      go (x ∷ xs) q = let y : e ≡ x = cc in ap some y

  pub entry_within : (e : ℕ) → Some e ≡ number n → e < width
  entry_within e = page_cases (λ (o : Option ℕ). Some e ≡ o → e < width) n (λ q. absurd (let z : ◌≡◌ {A = ℕ} 0 1 = cc in omega arith)) (λ x h q. let y : e ≡ x = cc in rw y h)

module _ (p : Pager) (u n : ℕ) where
  pub no_entry : None ≡ number n → trap u p ≡ refill u n p
  unfolding refill
  no_entry h = without_entry n (trap u p) (λ e. saying (word.Entry u e (entry p.tables u e)) p) h

  pub some_entry : (e : ℕ) → Some e ≡ number n → saying (word.Entry u e (entry p.tables u e)) p ≡ refill u n p
  unfolding refill
  some_entry e q = with_entry n (trap u p) (λ e. saying (word.Entry u e (entry p.tables u e)) p) e q

  pub miss_none : None ≡ number n → trap u p ≡ fault u n Load p
  unfolding fault
  miss_none h = without_entry n (trap u p) (λ e. wants (entry p.tables u e) u e p) h

  pub miss_some : (e : ℕ) → Some e ≡ number n → wants (entry p.tables u e) u e p ≡ fault u n Load p
  unfolding fault
  miss_some e q = with_entry n (trap u p) (λ e. wants (entry p.tables u e) u e p) e q

-- ---- a fault, by its cause
module _ (p : Pager) (u n : ℕ) where
  pub by_store : (c : Cause) → c ≡ Store → fault u n Load p ≡ fault u n c p
  unfolding fault
  by_store c e = rw e refl

  pub by_modification : (c : Cause) → c ≡ Modification → trap u p ≡ fault u n c p
  unfolding fault
  by_modification c e = rw e refl
