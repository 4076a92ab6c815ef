-- Words that say a number.
use Rattle.std.specs.Prelude.{Bool, true, ◌&&◌, List, [], ◌∷◌, ℕ, ◌+◌, ◌-◌, ◌*◌, ◌^◌, ◌%◌, eqb, leb, ltb, length, get_or, drop, if◌then◌else◌}
use Rattle.report.specs.Text.{minus}
use Rattle.words.specs.declared.Base.{Base}
use Rattle.words.specs.declared.Base.TheVariants.{Ten, Sixteen}
use Rattle.std.specs.declared.option.Option.{Option}
use Rattle.std.specs.declared.option.Option.TheVariants.{Some, None}

-- ── Digits ──

-- what a digit stands for: "0" to "9" are bytes 48 to 57, "A" to "F" 65 to 70, "a" to "f" 97 to 102; any other byte
-- is none, for which 16 stands
abbrev pub no_digit : ℕ
no_digit = 16

unfoldable pub digit_value : ℕ → ℕ
digit_value b =
    if leb 48 b && leb b 57 then b - 48
    else (if leb 65 b && leb b 70 then b - 65 + 10 else (if leb 97 b && leb b 102 then b - 97 + 10 else no_digit))

-- the same, where it is one
unfoldable pub digit_of : ℕ → Option ℕ
digit_of b = if ltb (digit_value b) no_digit then Some (digit_value b) else None

-- all of a word is digits of a base
unfoldable pub all_digits : ℕ → List ℕ → Bool
all_digits base [] = true
all_digits base (b ∷ bs) = ltb (digit_value b) base && all_digits base bs

-- what digits of a base say, behind others that say v
unfoldable pub value : ℕ → ℕ → List ℕ → ℕ
value base v [] = v
value base v (b ∷ bs) = value base (v * base + digit_value b) bs

-- ── Numbers ──

abbrev pub base_number : Base → ℕ
base_number Ten = 10
base_number Sixteen = 16

-- digits behind others that say v, not above a limit
unfoldable pub more_of : ℕ → ℕ → ℕ → List ℕ → Option ℕ
more_of base limit v bs = if all_digits base bs && leb (value base v bs) limit then Some (value base v bs) else None

-- at least one digit, nothing but digits, not above a limit
unfoldable pub number_of : ℕ → ℕ → List ℕ → Option ℕ
number_of base limit bs = if eqb (length bs) 0 then None else more_of base limit 0 bs

unfoldable pub decimal_of : ℕ → List ℕ → Option ℕ
decimal_of limit bs = number_of 10 limit bs

-- `0x` and digits of base sixteen
unfoldable pub hexadecimal_of : ℕ → List ℕ → Option ℕ
hexadecimal_of limit bs = if leb 2 (length bs) && eqb (get_or bs 0 0) 48 && eqb (get_or bs 1 0) 120 then number_of 16 limit (drop 2 bs) else None

-- the word of 32 bits that stands for a number below zero, by its size
abbrev pub below_zero : Option ℕ → Option ℕ
below_zero (Some n) = Some ((2 ^ 32 - n) % 2 ^ 32)
below_zero None = None

-- a signed number of 32 bits, as the word that stands for it
unfoldable pub signed_word_of : List ℕ → Option ℕ
signed_word_of bs =
    if ltb 0 (length bs) && eqb (get_or bs 0 0) minus
    then below_zero (decimal_of (2 ^ 31) (drop 1 bs))
    else decimal_of (2 ^ 31 - 1) bs
