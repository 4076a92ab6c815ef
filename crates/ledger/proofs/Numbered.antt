-- Why the plain tables of numbers are the rule book's: each number below a bound is looked up, and past it there is
-- none.
use Rattle.std.specs.Prelude.{if◌then◌else◌}
use mathlib.Core.Path.{◌≡◌, refl, ◌∙◌, ap, ap₂}
use mathlib.Core.Bool.{Bool, true, false, not, ◌&&◌, ◌||◌}
use mathlib.Core.List.{List, [], ◌∷◌, ◌++◌, map}
use Prim.Native.Nat.{ℕ, zero, suc, ◌+◌, ◌-◌, ◌*◌, ◌/◌, ◌%◌, ◌≤◌, ◌<◌}
use native.Mathlib.Omega.{arith}
use lib.Dec.{eqb, leb, ltb}
use lib.ListN.{get_or}
use borrow.Author.Tests.{eqb-true, eqb-false, ne_eqb, ltb-true, ltb-false, lt-ltb, leb-true, leb-false}
use Rattle.rules.specs.declared.Event.{Event}
use Rattle.rules.specs.declared.Event.TheVariants.{Call, Interrupt, Exception}
use Rattle.rules.specs.declared.Line.{Line}
use Rattle.rules.specs.declared.Line.TheVariants.{Semaphore, Device, PseudoClock}
use Rattle.rules.specs.Words.{first, rest, any, among, All}
use Rattle.rules.specs.Numbers.{sub_devices}
use Rattle.rules.specs.Machine.{Waiter, Machine, nucleus, nucleus_waits}
use Rattle.rules.specs.Rules.{bad_line, bad_code, lowest_bit, sub_device}
use Rattle.rules.specs.Tables.{open_line}
use Rattle.rules.proofs.Sound.{or_left, or_right}
use Rattle.ledger.specs.History.{slots_in}
use Rattle.ledger.specs.Ids.{counting}
use Rattle.ledger.specs.Ranges.{byte}
use Rattle.ledger.specs.Numbered.{trap_codes, tlb_codes, code_refused, lines_taken, line_refused, disk_numbers, transmission_numbers, receipt_numbers, all_sub_devices, serves, nucleus_line}
use Rattle.ledger.specs.Scheduling.{nucleus_told}
use Rattle.ledger.proofs.Ranges.{bit_most, bytes, seven, first_byte}

-- ── Looking up ──

-- two that agree on k numbers from a on agree on each of them
by_table : {A : Type 0} (d : A) (f g : ℕ → A) (a k : ℕ) → map f (counting a k) ≡ map g (counting a k) → (n : ℕ) → a ≤ n → n < a + k → f n ≡ g n
by_table d f g a zero e n l h = absurd (omega arith)
by_table d f g a (suc k) e n l h = go (eqb n a) refl (by_table d f g (suc a) k (ap rest e) n)
  where
    go : (b : Bool) → eqb n a ≡ b → (suc a ≤ n → n < suc a + k → f n ≡ g n) → f n ≡ g n
    go true q ih = rw (eqb-true n a q) (ap (λ xs. first xs d (λ x. x)) e)
    go false q ih = let z : n ≡ a → ⊥ = eqb-false n a q in ih (omega arith) (omega arith)

-- a list of numbers below k has none that is k or more
absent : (k n : ℕ) (xs : List ℕ) → any (leb k) xs ≡ false → k ≤ n → among n xs ≡ false
absent k n [] e l = refl
absent k n (x ∷ xs) e l =
    let low = leb-false k x (or_left (leb k x) (any (leb k) xs) e) in
    rw (ne_eqb n x (omega (arith, low, l))) (absent k n xs (or_right (leb k x) (any (leb k) xs) e) l)

or_true : (a : Bool) → a || true ≡ true
or_true true = refl
or_true false = refl

-- ── Codes ──

code_told : (now code : ℕ) → bad_code (Exception now code) ≡ not (among code (trap_codes ++ tlb_codes))
unfolding bad_code
code_told now code = go (ltb code 29) refl
  where
    go : (b : Bool) → ltb code 29 ≡ b → (eqb code 8 || eqb code 11 || ltb 28 code) ≡ not (among code (trap_codes ++ tlb_codes))
    go true e = by_table true (λ c. eqb c 8 || eqb c 11 || ltb 28 c) (λ c. not (among c (trap_codes ++ tlb_codes))) 0 29 refl code (omega arith) (ltb-true code 29 e)
    go false e =
        let high = ltb-false code 29 e in
        rw (lt-ltb 28 code (omega arith), absent 29 code (trap_codes ++ tlb_codes) refl high) (or_true (eqb code 8 || eqb code 11))

pub codes_same : (e : Event) → bad_code e ≡ code_refused e
unfolding bad_code
codes_same (Call now mode a0 a1 a2 a3) = refl
codes_same (Interrupt now n x y) = refl
codes_same (Exception now code) = code_told now code

-- ── Lines ──

line_told : (b c : Bool) (n : ℕ) → (ltb n 1 || ltb 7 n || (leb 3 n && b && (ltb n 7 || c))) ≡ not (among n (lines_taken b c))
line_told b c n = go (ltb n 8) refl b c
  where
    go : (l : Bool) → ltb n 8 ≡ l → (b c : Bool) → (ltb n 1 || ltb 7 n || (leb 3 n && b && (ltb n 7 || c))) ≡ not (among n (lines_taken b c))
    go true e true true = by_table true (λ n. ltb n 1 || ltb 7 n || (leb 3 n && true && (ltb n 7 || true))) (λ n. not (among n (lines_taken true true))) 0 8 refl n (omega arith) (ltb-true n 8 e)
    go true e true false = by_table true (λ n. ltb n 1 || ltb 7 n || (leb 3 n && true && (ltb n 7 || false))) (λ n. not (among n (lines_taken true false))) 0 8 refl n (omega arith) (ltb-true n 8 e)
    go true e false c = by_table true (λ n. ltb n 1 || ltb 7 n || (leb 3 n && false && (ltb n 7 || c))) (λ n. not (among n (lines_taken false c))) 0 8 refl n (omega arith) (ltb-true n 8 e)
    go false e b c =
        let high = ltb-false n 8 e in
        rw (lt-ltb 7 n (omega arith), or_true (ltb n 1), absent 8 n (lines_taken b c) (few b c) high)
      where
        few : (b c : Bool) → any (leb 8) (lines_taken b c) ≡ false
        few true true = refl
        few true false = refl
        few false c = refl

pub lines_same : (e : Event) → bad_line e ≡ line_refused e
unfolding bad_line
lines_same (Call now mode a0 a1 a2 a3) = refl
lines_same (Interrupt now n x y) = line_told (eqb x 0) (eqb y 0) n
lines_same (Exception now code) = refl

-- ── Sub-devices ──

later : (k : ℕ) (xs : List ℕ) → first (map suc xs) (suc k) (λ d. d) ≡ suc (first xs k (λ d. d))
later k [] = refl
later k (x ∷ xs) = refl

lowest_pending : (w b : ℕ) → first (slots_in w b) w (λ d. d) ≡ lowest_bit w b
unfolding slots_in
lowest_pending zero b = refl
lowest_pending (suc w) b = go (eqb (b % 2) 1) (lowest_pending w (b / 2))
  where
    go : (c : Bool) → first (slots_in w (b / 2)) w (λ d. d) ≡ lowest_bit w (b / 2)
        → first ((if c then 0 ∷ [] else []) ++ map suc (slots_in w (b / 2))) (suc w) (λ d. d) ≡ (if c then 0 else suc (lowest_bit w (b / 2)))
    go true ih = refl
    go false ih = later w (slots_in w (b / 2)) ∙ ap suc ih

-- a taken interrupt of lines 3 to 7 serves the sub-device of the tables
module _ (now n x y : ℕ) (ok : bad_line (Interrupt now n x y) ≡ false) (three : 3 ≤ n) (fx : x < byte) (fy : y < byte) where
  terminal : (i j : ℕ) → j ≤ 8 → (8 ≤ i → j < 8)
      → (if leb i j then 32 + i else 40 + j) ≡ (if leb i j then get_or transmission_numbers i 0 else get_or receipt_numbers j 0)
  terminal i j a h = go (leb i j) refl
    where
      low : leb i j ≡ true → (b : Bool) → ltb i 8 ≡ b → i < 8
      low e true f = ltb-true i 8 f
      low e false f = let z = h (ltb-false i 8 f) in let q = leb-true i j e in absurd (omega (arith, ltb-false i 8 f))

      go : (b : Bool) → leb i j ≡ b → (if b then 32 + i else 40 + j) ≡ (if b then get_or transmission_numbers i 0 else get_or receipt_numbers j 0)
      go true e = by_table 0 (λ i. 32 + i) (λ i. get_or transmission_numbers i 0) 0 8 refl i (omega arith) (low e (ltb i 8) refl)
      go false e = let z = leb-false i j e in by_table 0 (λ j. 40 + j) (λ j. get_or receipt_numbers j 0) 0 8 refl j (omega arith) (small (ltb j 8) refl z)
        where
          small : (b : Bool) → ltb j 8 ≡ b → j < i → j < 8
          small true f z = ltb-true j 8 f
          small false f z = h (omega (arith, z, ltb-false j 8 f))

  disk : (i : ℕ) → n < 7 → i < 8 → (n - 3) * 8 + i ≡ get_or (get_or disk_numbers (n - 3) []) i 0
  disk i l h =
      by_table 0 (λ i. (n - 3) * 8 + i) (λ i. get_or (get_or disk_numbers (n - 3) []) i 0) 0 8
      (by_table [] (λ k. map (λ i. k * 8 + i) (counting 0 8)) (λ k. map (λ i. get_or (get_or disk_numbers k []) i 0) (counting 0 8)) 0 4 refl (n - 3) (omega arith) (omega arith))
      i (omega arith) h

  pub sub_device_told : sub_device n x y ≡ serves n x y
  unfolding sub_device
  sub_device_told =
      rw (lowest_pending 8 x, lowest_pending 8 y) (go (eqb n 7) refl)
    where
      i : ℕ
      i = lowest_bit 8 x

      j : ℕ
      j = lowest_bit 8 y

      upper : 8 ≤ i → (7 ≤ n) × (j < 8)
      upper = first_byte now n x y ok three fx fy (eqb x 0) refl (bytes now n x y ok three fx fy)

      lower : (b : Bool) → ltb i 8 ≡ b → n < 7 → i < 8
      lower true e l = ltb-true i 8 e
      lower false e l = absurd (omega (arith, (upper (ltb-false i 8 e)).0))

      go : (b : Bool) → eqb n 7 ≡ b
          → (if b then (if leb i j then 32 + i else 40 + j) else (n - 3) * 8 + i) ≡ (if b then (if leb i j then get_or transmission_numbers i 0 else get_or receipt_numbers j 0) else get_or (get_or disk_numbers (n - 3) []) i 0)
      go true e = terminal i j (bit_most 8 y) (λ l. (upper l).1)
      go false e =
          let z : n ≡ 7 → ⊥ = eqb-false n 7 e in
          let few : n < 7 = omega (arith, seven now n x y ok three fx fy) in
          disk i few (lower (ltb i 8) refl few)

-- ── Nucleus lines ──

line_same : (vs : List ℕ) (l : Line) → open_line vs l ≡ true → nucleus l ≡ nucleus_line l
line_same vs (Semaphore i) e = refl
line_same vs (Device d) e = by_table true (λ d. true) (λ d. among d all_sub_devices) 0 48 refl d (omega arith) (ltb-true d sub_devices e)
line_same vs PseudoClock e = refl

same_waits : (vs : List ℕ) (ws : List Waiter) → All (λ w. open_line vs w.line ≡ true) ws → any (λ w. nucleus w.line) ws ≡ any (λ w. nucleus_line w.line) ws
same_waits vs [] h = refl
same_waits vs (w ∷ ws) h = ap₂ (λ (a b : Bool). a || b) (line_same vs w.line h.0) (same_waits vs ws h.1)

pub nucleus_same : (m : Machine) → All (λ w. open_line m.sems w.line ≡ true) m.waiting → nucleus_waits m ≡ nucleus_told m
unfolding nucleus_waits
nucleus_same m h = same_waits m.sems m.waiting h
