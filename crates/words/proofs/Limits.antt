-- What callers use of a number: it is not above the limit.
-- Assumes nothing.
use Rattle.std.specs.Prelude.{if◌then◌else◌}
use mathlib.Core.Path.{◌≡◌, refl, sym, ap, ◌∙◌}
use mathlib.Core.Bool.{Bool, true, false, ◌&&◌}
use mathlib.Core.List.{List}
use Prim.Native.Nat.{ℕ, ◌-◌, ◌^◌, ◌%◌, ◌≤◌, ◌<◌}
use native.Mathlib.Omega.{arith}
use lib.Dec.{eqb, leb, ltb}
use lib.ListN.{length, take, drop, get_or}
use borrow.Author.Tests.{leb-true, lt-ltb, eq-eqb}
use Rattle.rules.proofs.Cases.{and_right}
use Rattle.report.specs.Text.{minus}
use Rattle.std.specs.declared.option.Option.{Option}
use Rattle.std.specs.declared.option.Option.TheVariants.{Some, None}
use Rattle.words.specs.Figures.{all_digits, value, more_of, number_of, decimal_of, below_zero, signed_word_of}
use Rattle.words.proofs.Runs.{to_the_end}

-- a choice that gave a number gave the one that there was
chosen : (t : Bool) (x : Option ℕ) (n : ℕ) → if t then x else None ≡ Some n → (t ≡ true) × (x ≡ Some n)
chosen true x n e = (refl, e)
chosen false x n e = let z : ◌≡◌ {A = ℕ} 0 1 = cc in absurd (omega arith)

more_within : (base limit v : ℕ) (bs : List ℕ) (n : ℕ) → more_of base limit v bs ≡ Some n → n ≤ limit
unfolding more_of
more_within base limit v bs n e =
    let h = chosen (all_digits base bs && leb (value base v bs) limit) (Some (value base v bs)) n e in
    let z : value base v bs ≡ n = go h.1 in
    omega (arith, leb-true (value base v bs) limit (and_right (all_digits base bs) (leb (value base v bs) limit) h.0))
  where
    go : Some (value base v bs) ≡ Some n → value base v bs ≡ n
    go p = cc

pub number_within : (base limit : ℕ) (bs : List ℕ) (n : ℕ) → number_of base limit bs ≡ Some n → n ≤ limit
unfolding number_of
number_within base limit bs n e = go (eqb (length bs) 0) e
  where
    go : (t : Bool) → if t then None else more_of base limit 0 bs ≡ Some n → n ≤ limit
    go true p = let z : ◌≡◌ {A = ℕ} 0 1 = cc in absurd (omega arith)
    go false p = more_within base limit 0 bs n p

pub decimal_within : (limit : ℕ) (bs : List ℕ) (n : ℕ) → decimal_of limit bs ≡ Some n → n ≤ limit
unfolding decimal_of
decimal_within limit bs n e = number_within 10 limit bs n e

-- ── A signed number, by its first byte ──

module _ (w : List ℕ) (h : 0 < length w) (e : get_or w 0 0 ≡ minus) where
  signed_below : signed_word_of w ≡ below_zero (decimal_of (2 ^ 31) (drop 1 w))
  unfolding signed_word_of
  signed_below = rw (lt-ltb 0 (length w) h, eq-eqb (get_or w 0 0) minus e)

  module _ (r : Option ℕ) (d : r ≡ decimal_of (2 ^ 31) (take (length w - 1) (drop 1 w))) where
    told : decimal_of (2 ^ 31) (drop 1 w) ≡ r
    told = ap (decimal_of (2 ^ 31)) (sym (to_the_end 1 w)) ∙ sym d

    pub signed_not : r ≡ None → None ≡ signed_word_of w
    signed_not z = sym (signed_below ∙ ap below_zero (told ∙ z))

    pub signed_size : (n : ℕ) → r ≡ Some n → n ≤ 2 ^ 31
    signed_size n z = decimal_within (2 ^ 31) (drop 1 w) n (told ∙ z)

    pub signed_number : (n : ℕ) → r ≡ Some n → Some ((2 ^ 32 - n) % 2 ^ 32) ≡ signed_word_of w
    signed_number n z = sym (signed_below ∙ ap below_zero (told ∙ z))

-- it is a word of 32 bits
pub signed_within : (w : List ℕ) (n : ℕ) → signed_word_of w ≡ Some n → n < 2 ^ 32
unfolding signed_word_of
signed_within w n e = go (ltb 0 (length w) && eqb (get_or w 0 0) minus) e
  where
    below : (r : Option ℕ) → below_zero r ≡ Some n → n < 2 ^ 32
    below (Some m) p = let z : (2 ^ 32 - m) % 2 ^ 32 ≡ n = cc in omega arith
    below None p = let z : ◌≡◌ {A = ℕ} 0 1 = cc in absurd (omega arith)

    go : (t : Bool) → if t then below_zero (decimal_of (2 ^ 31) (drop 1 w)) else decimal_of (2 ^ 31 - 1) w ≡ Some n → n < 2 ^ 32
    go true p = below (decimal_of (2 ^ 31) (drop 1 w)) p
    go false p = omega (arith, decimal_within (2 ^ 31 - 1) w n p)
