-- Digits one after the other: a turn of the loop that reads a number, over plain lists.
-- Assumes nothing.
use Rattle.std.specs.Prelude.{if◌then◌else◌}
use mathlib.Core.Path.{◌≡◌, refl}
use mathlib.Core.Bool.{Bool, true, false, ◌&&◌}
use mathlib.Core.List.{List, [], ◌∷◌}
use Prim.Native.Nat.{ℕ, suc, ◌+◌, ◌-◌, ◌*◌, ◌<◌, ◌≤◌}
use native.Mathlib.Nat.{mul-one, mul-le-mul_left}
use native.Mathlib.Numerals.{add-one}
use native.Mathlib.Omega.{arith}
use lib.Dec.{ltb}
use lib.ListN.{length, drop, get_or, drop_of_length-le}
use lib.Seq.{drop-cons}
use borrow.Author.Tests.{lt-ltb, le-ltb, le-leb, lt-leb, ltb-false}
use Rattle.words.specs.declared.Base.{Base}
use Rattle.words.specs.declared.Base.TheVariants.{Ten, Sixteen}
use Rattle.std.specs.declared.option.Option.{Option}
use Rattle.std.specs.declared.option.Option.TheVariants.{Some, None}
use Rattle.words.specs.Figures.{base_number, no_digit, digit_value, digit_of, all_digits, value, more_of}

-- ── A digit ──

module _ (b : ℕ) where
  pub below_digits : b < 48 → 16 ≡ digit_value b
  unfolding digit_value
  below_digits h = rw (lt-leb 48 b (omega arith), lt-leb 65 b (omega arith), lt-leb 97 b (omega arith))

  pub ten_digits : 48 ≤ b → b ≤ 57 → b - 48 ≡ digit_value b
  unfolding digit_value
  ten_digits h g = rw (le-leb 48 b h, le-leb b 57 g)

  pub below_large : 57 < b → b < 65 → 16 ≡ digit_value b
  unfolding digit_value
  below_large h g = rw (le-leb 48 b (omega arith), lt-leb b 57 h, lt-leb 65 b g, lt-leb 97 b (omega arith))

  pub large_digits : 65 ≤ b → b ≤ 70 → b - 65 + 10 ≡ digit_value b
  unfolding digit_value
  large_digits h g = rw (le-leb 48 b (omega arith), lt-leb b 57 (omega arith), le-leb 65 b h, le-leb b 70 g)

  pub below_small : 70 < b → b < 97 → 16 ≡ digit_value b
  unfolding digit_value
  below_small h g = rw (le-leb 48 b (omega arith), lt-leb b 57 (omega arith), le-leb 65 b (omega arith), lt-leb b 70 h, lt-leb 97 b g)

  pub small_digits : 97 ≤ b → b ≤ 102 → b - 97 + 10 ≡ digit_value b
  unfolding digit_value
  small_digits h g = rw (le-leb 48 b (omega arith), lt-leb b 57 (omega arith), le-leb 65 b (omega arith), lt-leb b 70 (omega arith), le-leb 97 b h, le-leb b 102 g)

  pub above_digits : 102 < b → 16 ≡ digit_value b
  unfolding digit_value
  above_digits h = rw (le-leb 48 b (omega arith), lt-leb b 57 (omega arith), le-leb 65 b (omega arith), lt-leb b 70 (omega arith), le-leb 97 b (omega arith), lt-leb b 102 h)

module _ (b v : ℕ) (e : v ≡ digit_value b) where
  -- a digit, and none
  pub digit_told : v < no_digit → Some v ≡ digit_of b
  unfolding digit_of
  digit_told h = rw (← e, lt-ltb v no_digit h)

  pub none_told : no_digit ≤ v → None ≡ digit_of b
  unfolding digit_of
  none_told h = rw (← e, le-ltb v no_digit h)

-- what is told of a digit, and of none
pub told_digit : (b d : ℕ) → Some d ≡ digit_of b → d ≡ digit_value b
unfolding digit_of
told_digit b d e = go (ltb (digit_value b) no_digit) e
  where
    go : (t : Bool) → Some d ≡ if t then Some (digit_value b) else None → d ≡ digit_value b
    go true p = cc
    go false p = cc

pub told_none : (b : ℕ) → None ≡ digit_of b → no_digit ≤ digit_value b
unfolding digit_of
told_none b e = go (ltb (digit_value b) no_digit) refl e
  where
    go : (t : Bool) → ltb (digit_value b) no_digit ≡ t → None ≡ if t then Some (digit_value b) else None → no_digit ≤ digit_value b
    go true h p = absurd cc
    go false h p = ltb-false (digit_value b) no_digit h

-- ── The bases ──

pub base_some : (k : Base) → 0 < base_number k
base_some Ten = omega arith
base_some Sixteen = omega arith

pub base_most : (k : Base) → base_number k ≤ no_digit
base_most Ten = omega arith
base_most Sixteen = omega arith

-- ── More digits ──

times : (base v : ℕ) → 0 < base → v ≤ v * base
times base v h = rw mul-one at (mul-le-mul_left v h)

-- digits never say less than those before them
pub value_grows : (base v : ℕ) (bs : List ℕ) → 0 < base → v ≤ value base v bs
unfolding value
value_grows base v [] h = omega arith
value_grows base v (b ∷ bs) h = past (v * base) (digit_value b) (times base v h) (value_grows base (v * base + digit_value b) bs h)
  where
    past : (x d : ℕ) → v ≤ x → x + d ≤ value base (v * base + digit_value b) bs → v ≤ value base (v * base + digit_value b) bs
    past x d p q = omega arith

none_of : (t : Bool) (n : Option ℕ) → if t && false then n else None ≡ None
none_of true n = refl
none_of false n = refl

module _ (base limit v : ℕ) (s : List ℕ) (i : ℕ) where
  abbrev here : ℕ
  here = digit_value (get_or s i 0)

  pub more_bad : i < length s → base ≤ here → more_of base limit v (drop i s) ≡ None
  unfolding more_of all_digits
  more_bad h g = rw (drop-cons s i 0, le-ltb here base g)

  pub more_big : 0 < base → i < length s → limit < v * base + here → more_of base limit v (drop i s) ≡ None
  unfolding more_of value
  more_big z h g = rw (drop-cons s i 0, lt-leb (value base (v * base + here) (drop (suc i) s)) limit (omega (arith, value_grows base (v * base + here) (drop (suc i) s) z))) (none_of (all_digits base (get_or s i 0 ∷ drop (suc i) s)) (Some (value base (v * base + here) (drop (suc i) s))))

  pub more_on : i < length s → here < base → more_of base limit v (drop i s) ≡ more_of base limit (v * base + here) (drop (i + 1) s)
  unfolding more_of all_digits value
  more_on h g = rw (drop-cons s i 0, lt-ltb here base g, add-one)

  pub more_end : length s ≤ i → v ≤ limit → more_of base limit v (drop i s) ≡ Some v
  unfolding more_of all_digits value
  more_end h g = rw (drop_of_length-le s h, le-leb v limit g)
