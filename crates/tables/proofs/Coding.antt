-- A code stands for one line: what the tests of the rule book are on codes.
-- Assumes nothing.
use Rattle.std.proofs.Common.{◌≡◌, ℕ, ◌+◌, ◌-◌, ◌<◌, ◌≤◌, Bool, true, false, ◌&&◌, eqb, ltb, leb, sym, refl, ap, ◌∙◌, true≢false, arith, ltb-false, lt-ltb, eq-eqb, ne_eqb, eqb-true, le-leb, leb-false, leb-true, if◌then◌else◌}
use native.Mathlib.Decide.{ℕ_discrete}
use borrow.Author.Tests.{lt-leb}
use Rattle.rules.specs.declared.Line.{Line}
use Rattle.rules.specs.declared.Line.TheVariants.{Semaphore, Device, PseudoClock}
use Rattle.rules.specs.Numbers.{base_sems, sub_devices}
use Rattle.rules.specs.Machine.{same_line, nucleus}
use Rattle.tables.specs.Codes.{encode, decode, last_code}

by_tests : ℕ → Bool → Bool → Line
by_tests c a b = if a then Semaphore (c - 1) else (if b then Device (c - (base_sems + 1)) else PseudoClock)

pub encode_decode : (c : ℕ) → 1 ≤ c → c ≤ last_code → encode (decode c) ≡ c
unfolding decode by_tests
encode_decode c lo hi = go (leb c base_sems) refl (ltb c last_code) refl
  where
    go : (a : Bool) → leb c base_sems ≡ a → (b : Bool) → ltb c last_code ≡ b → encode (by_tests c a b) ≡ c
    go true p b q = omega arith
    go false p true q = omega (arith, leb-false c base_sems p)
    go false p false q = omega (arith, ltb-false c last_code q)

pub decode_semaphore : (i : ℕ) → i < base_sems → decode (i + 1) ≡ Semaphore i
unfolding decode
decode_semaphore i h = rw (le-leb (i + 1) base_sems (omega arith)) (ap Semaphore (let z : i + 1 - 1 ≡ i = omega arith in z))

pub decode_device : (d : ℕ) → d < sub_devices → decode (d + (base_sems + 1)) ≡ Device d
unfolding decode
decode_device d h =
    rw (lt-leb (d + (base_sems + 1)) base_sems (omega arith), lt-ltb (d + (base_sems + 1)) last_code (omega arith))
    (ap Device (let z : d + (base_sems + 1) - (base_sems + 1) ≡ d = omega arith in z))

pub decode_clock : decode last_code ≡ PseudoClock
unfolding decode
decode_clock = refl

pub same_line_self : (l : Line) → same_line l l ≡ true
same_line_self (Semaphore i) = eq-eqb i i refl
same_line_self (Device d) = eq-eqb d d refl
same_line_self PseudoClock = refl

pub same_line_true : (k l : Line) → same_line k l ≡ true → k ≡ l
same_line_true (Semaphore i) (Semaphore j) e = ap Semaphore (eqb-true i j e)
same_line_true (Semaphore i) (Device d) e = absurd (true≢false (sym e))
same_line_true (Semaphore i) PseudoClock e = absurd (true≢false (sym e))
same_line_true (Device d) (Semaphore i) e = absurd (true≢false (sym e))
same_line_true (Device d) (Device c) e = ap Device (eqb-true d c e)
same_line_true (Device d) PseudoClock e = absurd (true≢false (sym e))
same_line_true PseudoClock (Semaphore i) e = absurd (true≢false (sym e))
same_line_true PseudoClock (Device d) e = absurd (true≢false (sym e))
same_line_true PseudoClock PseudoClock e = refl

-- two codes stand for one line exactly where they are one
pub same_code : (v c : ℕ) → 1 ≤ v → v ≤ last_code → 1 ≤ c → c ≤ last_code → same_line (decode v) (decode c) ≡ eqb c v
same_code v c v1 v2 c1 c2 = go (ℕ_discrete c v)
  where
    apart : (b : Bool) → same_line (decode v) (decode c) ≡ b → (c ≡ v → ⊥) → b ≡ false
    apart true e n = absurd (n (sym (encode_decode c c1 c2) ∙ ap encode (sym (same_line_true (decode v) (decode c) e)) ∙ encode_decode v v1 v2))
    apart false e n = refl

    go : Dec (c ≡ v) → same_line (decode v) (decode c) ≡ eqb c v
    go (yes e) = rw (e, eq-eqb v v refl) (same_line_self (decode v))
    go (no n) = apart (same_line (decode v) (decode c)) refl n ∙ sym (ne_eqb c v n)

-- a code from v to v is v
pub one_code : (v c : ℕ) → (leb v c && leb c v) ≡ eqb c v
one_code v c = go (leb v c) refl (leb c v) refl
  where
    go : (a : Bool) → leb v c ≡ a → (b : Bool) → leb c v ≡ b → (a && b) ≡ eqb c v
    go true p true q = sym (eq-eqb c v (omega (arith, leb-true v c p, leb-true c v q)))
    go true p false q = sym (ne_eqb c v (λ e. let z : ⊥ = omega (arith, leb-false c v q) in z))
    go false p b q = sym (ne_eqb c v (λ e. let z : ⊥ = omega (arith, leb-false v c p) in z))

-- the nucleus lines have the codes above the semaphores'
pub nucleus_code : (c : ℕ) → c ≤ last_code → nucleus (decode c) ≡ (leb (base_sems + 1) c && leb c last_code)
unfolding decode by_tests
nucleus_code c hi = go (leb c base_sems) refl (ltb c last_code)
  where
    go : (a : Bool) → leb c base_sems ≡ a → (b : Bool) → nucleus (by_tests c a b) ≡ (leb (base_sems + 1) c && leb c last_code)
    go true p b = rw (lt-leb (base_sems + 1) c (omega (arith, leb-true c base_sems p)))
    go false p true = rw (le-leb (base_sems + 1) c (leb-false c base_sems p), le-leb c last_code hi)
    go false p false = rw (le-leb (base_sems + 1) c (leb-false c base_sems p), le-leb c last_code hi)
