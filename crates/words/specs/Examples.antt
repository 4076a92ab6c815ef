-- Some lines and words, proved by computing.
use Rattle.std.specs.Prelude.{◌≡◌, refl, List, [], ◌∷◌, map, ℕ, zero, suc, ◌+◌, ◌-◌, ◌^◌}
use Prim.Native.Char.{code}
use Prim.Native.String.{String, len, char_at}
use Rattle.report.specs.Text.{digits, decimal}
use Rattle.words.specs.declared.Line.{Line}
use Rattle.words.specs.declared.Word.{Word}
use Rattle.std.specs.declared.option.Option.TheVariants.{Some, None}
use Rattle.words.specs.Texts.{run, line_at, next_word, word_at}
use Rattle.words.specs.Figures.{digit_value, all_digits, value, more_of, number_of, decimal_of, hexadecimal_of, signed_word_of}
use Rattle.words.specs.Complaints.{complaint}

-- the bytes of a text, of which each character is one
codes : String → ℕ → ℕ → List ℕ
codes s i zero = []
codes s i (suc k) = code (char_at s i) ∷ codes s (i + 1) k

bytes : String → List ℕ
bytes s = codes s 0 (len s)

abbrev place : ℕ → ℕ → Line
place e n = record { end = e; next = n }

abbrev from_to : ℕ → ℕ → Word
from_to a b = record { from = a; to = b }

abbrev text : List ℕ
text = bytes "gap 5 # a remark\n\tfault 3\t0x80001"

lines : line_at text 0 ∷ line_at text 17 ∷ line_at text 33 ∷ [] ≡ place 6 17 ∷ place 33 33 ∷ place 33 33 ∷ []
unfolding bytes codes line_at run
lines = refl

words : map (word_at (bytes " \tfault 3\t0x8 ")) (0 ∷ 1 ∷ 2 ∷ 3 ∷ []) ≡ from_to 2 7 ∷ from_to 8 9 ∷ from_to 10 13 ∷ from_to 14 14 ∷ []
unfolding bytes codes word_at next_word run
words = refl

decimals : map (λ s. decimal_of 255 (bytes s)) ("0" ∷ "007" ∷ "255" ∷ "256" ∷ "" ∷ "1a" ∷ "-1" ∷ "99999999999999999999" ∷ []) ≡ Some 0 ∷ Some 7 ∷ Some 255 ∷ None ∷ None ∷ None ∷ None ∷ None ∷ []
unfolding bytes codes decimal_of number_of more_of all_digits value digit_value
decimals = refl

hexadecimals : map (λ s. hexadecimal_of (2 ^ 32 - 1) (bytes s)) ("0x80001" ∷ "0xBFfff" ∷ "0x" ∷ "x1" ∷ "0xg" ∷ "0x100000000" ∷ []) ≡ Some 524289 ∷ Some 786431 ∷ None ∷ None ∷ None ∷ None ∷ []
unfolding bytes codes hexadecimal_of number_of more_of all_digits value digit_value
hexadecimals = refl

signs : map (λ s. signed_word_of (bytes s)) ("5" ∷ "-1" ∷ "-2147483648" ∷ "-0" ∷ "2147483648" ∷ "-2147483649" ∷ "-" ∷ "--1" ∷ []) ≡ Some 5 ∷ Some 4294967295 ∷ Some 2147483648 ∷ Some 0 ∷ None ∷ None ∷ None ∷ None ∷ []
unfolding bytes codes signed_word_of decimal_of number_of more_of all_digits value digit_value
signs = refl

complained : complaint 12 (bytes "gop") (bytes "gap, ask, tick or end") ≡ bytes "line 12: found 'gop', expected gap, ask, tick or end\n"
unfolding bytes codes complaint decimal digits
complained = refl
