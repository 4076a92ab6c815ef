-- What a line of the text says: "gap N", "ask U A1", "tick", "end U", numbers decimal, A1 also negative.
use Rattle.std.specs.Prelude.{List, [], ◌∷◌, ℕ, zero, suc, ◌+◌, ◌-◌, ◌^◌, Option, Some, None, Ok, Err, eqb, leb, length, take, drop, if◌then◌else◌}
use Rattle.std.specs.declared.result.Result.{Result}
use Rattle.words.specs.Texts.{line_at, nth, same}
use Rattle.words.specs.Figures.{decimal_of, signed_word_of}
use Rattle.sleeps.specs.declared.Operation.{Operation}
use Rattle.sleeps.specs.declared.Operation.TheVariants.{Gap, Ask, Tick, End}
use Rattle.sleep_text.specs.declared.Wanted.{Wanted}
use Rattle.sleep_text.specs.declared.Wanted.TheVariants.{Verb, Microseconds, Proc, Seconds, NoMore}
use Rattle.sleep_text.specs.declared.Bad.{Bad}
use Rattle.sleep_text.specs.declared.Wrong.{Wrong}

-- "gap", "ask", "tick", "end", in bytes
abbrev pub gap : List ℕ
gap = 103 ∷ 97 ∷ 112 ∷ []

abbrev pub ask : List ℕ
ask = 97 ∷ 115 ∷ 107 ∷ []

abbrev pub tick : List ℕ
tick = 116 ∷ 105 ∷ 99 ∷ 107 ∷ []

abbrev pub end : List ℕ
end = 101 ∷ 110 ∷ 100 ∷ []

-- ── One line ──

-- an operation, or nothing, or what is wrong
abbrev pub Parsed : Type 0
Parsed = Result (Option Operation) Bad

-- the word with k before it is not what was expected
abbrev pub bad_word : ℕ → Wanted → Parsed
bad_word k w = Err (record { word = k; wanted = w })

-- what is said where a word is a number, or else
abbrev pub with_number : Option ℕ → Parsed → (ℕ → Parsed) → Parsed
with_number None other f = other
with_number (Some n) other f = f n

-- the line has no word with k before it
abbrev pub ended : List ℕ → ℕ → Operation → Parsed
ended line k o = if eqb (length (nth line k)) 0 then Ok (Some o) else bad_word k NoMore

unfoldable pub gap_line : List ℕ → Parsed
gap_line line = with_number (decimal_of (2 ^ 64 - 1) (nth line 1)) (bad_word 1 Microseconds) (λ n. ended line 2 (Gap n))

unfoldable pub ask_line : List ℕ → Parsed
ask_line line =
    with_number (decimal_of (2 ^ 32 - 1) (nth line 1)) (bad_word 1 Proc) (λ u. with_number (signed_word_of (nth line 2)) (bad_word 2 Seconds) (λ a1. ended line 3 (Ask u a1)))

unfoldable pub end_line : List ℕ → Parsed
end_line line = with_number (decimal_of (2 ^ 32 - 1) (nth line 1)) (bad_word 1 Proc) (λ u. ended line 2 (End u))

unfoldable pub parsed : List ℕ → Parsed
parsed line =
    if eqb (length (nth line 0)) 0 then Ok None
    else (if same (nth line 0) gap then gap_line line
    else (if same (nth line 0) ask then ask_line line
    else (if same (nth line 0) tick then ended line 1 Tick
    else (if same (nth line 0) end then end_line line else bad_word 0 Verb))))

-- ── A whole text ──

-- the bytes of the line at a place
abbrev pub line_of : List ℕ → ℕ → List ℕ
line_of text at = take ((line_at text at).end - at) (drop at text)

-- all is as expected, or what is wrong with the first line that isn't
abbrev pub Verdict : Type 0
Verdict = Result (Unit {0}) Wrong

-- what is found at the line of that number at a place, or else behind it
abbrev pub found : ℕ → ℕ → ℕ → Parsed → Verdict → Verdict
found number from to (Ok o) v = v
found number from to (Err b) v = Err (record { number = number; from = from; to = to; bad = b })

-- the first bad line from a place on, which has that number (f, the most lines that there can be, only shows that
-- this ends)
unfoldable pub bad_from : ℕ → List ℕ → ℕ → ℕ → Verdict
bad_from zero text at number = Ok tt
bad_from (suc f) text at number = let v = bad_from f text (line_at text at).next (number + 1) in
    if leb (length text) at then Ok tt else found number at (line_at text at).end (parsed (line_of text at)) v

-- ── What was expected, in bytes ──

-- "gap, ask, tick or end"; "microseconds from 0 to 18446744073709551615"; "a U-proc number from 0 to 4294967295";
-- "seconds from -2147483648 to 2147483647"; "the end of the line"
abbrev pub wanted_text : Wanted → List ℕ
wanted_text Verb = 103 ∷ 97 ∷ 112 ∷ 44 ∷ 32 ∷ 97 ∷ 115 ∷ 107 ∷ 44 ∷ 32 ∷ 116 ∷ 105 ∷ 99 ∷ 107 ∷ 32 ∷ 111 ∷ 114 ∷ 32 ∷ 101 ∷ 110 ∷ 100 ∷ []
wanted_text Microseconds = 109 ∷ 105 ∷ 99 ∷ 114 ∷ 111 ∷ 115 ∷ 101 ∷ 99 ∷ 111 ∷ 110 ∷ 100 ∷ 115 ∷ 32 ∷ 102 ∷ 114 ∷ 111 ∷ 109 ∷ 32 ∷ 48 ∷ 32 ∷ 116 ∷ 111 ∷ 32 ∷ 49 ∷ 56 ∷ 52 ∷ 52 ∷ 54 ∷ 55 ∷ 52 ∷ 52 ∷ 48 ∷ 55 ∷ 51 ∷ 55 ∷ 48 ∷ 57 ∷ 53 ∷ 53 ∷ 49 ∷ 54 ∷ 49 ∷ 53 ∷ []
wanted_text Proc = 97 ∷ 32 ∷ 85 ∷ 45 ∷ 112 ∷ 114 ∷ 111 ∷ 99 ∷ 32 ∷ 110 ∷ 117 ∷ 109 ∷ 98 ∷ 101 ∷ 114 ∷ 32 ∷ 102 ∷ 114 ∷ 111 ∷ 109 ∷ 32 ∷ 48 ∷ 32 ∷ 116 ∷ 111 ∷ 32 ∷ 52 ∷ 50 ∷ 57 ∷ 52 ∷ 57 ∷ 54 ∷ 55 ∷ 50 ∷ 57 ∷ 53 ∷ []
wanted_text Seconds = 115 ∷ 101 ∷ 99 ∷ 111 ∷ 110 ∷ 100 ∷ 115 ∷ 32 ∷ 102 ∷ 114 ∷ 111 ∷ 109 ∷ 32 ∷ 45 ∷ 50 ∷ 49 ∷ 52 ∷ 55 ∷ 52 ∷ 56 ∷ 51 ∷ 54 ∷ 52 ∷ 56 ∷ 32 ∷ 116 ∷ 111 ∷ 32 ∷ 50 ∷ 49 ∷ 52 ∷ 55 ∷ 52 ∷ 56 ∷ 51 ∷ 54 ∷ 52 ∷ 55 ∷ []
wanted_text NoMore = 116 ∷ 104 ∷ 101 ∷ 32 ∷ 101 ∷ 110 ∷ 100 ∷ 32 ∷ 111 ∷ 102 ∷ 32 ∷ 116 ∷ 104 ∷ 101 ∷ 32 ∷ 108 ∷ 105 ∷ 110 ∷ 101 ∷ []
