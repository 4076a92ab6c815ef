-- A text as lines and words.
use Rattle.std.specs.Prelude.{Bool, true, false, not, ◌&&◌, ◌||◌, List, [], ◌∷◌, ℕ, zero, suc, ◌+◌, ◌-◌, eqb, ltb, length, take, drop, if◌then◌else◌}
use Rattle.report.specs.Text.{newline, space}
use Rattle.words.specs.declared.Line.{Line}
use Rattle.words.specs.declared.Word.{Word}

abbrev pub tab : ℕ
tab = 9

-- `#` begins a remark
abbrev pub remark : ℕ
remark = 35

-- ── Runs of bytes ──

-- blanks and tabs stand between words; a line ends at a newline, and what it says also before a remark
abbrev pub blank : ℕ → Bool
blank b = eqb b space || eqb b tab

abbrev pub content : ℕ → Bool
content b = not (eqb b newline || eqb b remark)

abbrev pub solid : ℕ → Bool
solid b = not (blank b)

abbrev pub row : ℕ → Bool
row b = not (eqb b newline)

-- how many bytes, from the first on, pass the test
unfoldable pub run : (ℕ → Bool) → List ℕ → ℕ
run p [] = 0
run p (b ∷ bs) = if p b then suc (run p bs) else 0

-- the place behind the run that begins at a place
abbrev pub behind : (ℕ → Bool) → List ℕ → ℕ → ℕ
behind p text at = at + run p (drop at text)

-- ── The line and the words at a place ──

-- where a line ends, before its newline or at the end of the text
abbrev pub stop_of : List ℕ → ℕ → ℕ
stop_of text at = behind row text (behind content text at)

unfoldable pub line_at : List ℕ → ℕ → Line
line_at text at = record { end = behind content text at; next = if ltb (stop_of text at) (length text) then stop_of text at + 1 else stop_of text at }

unfoldable pub next_word : List ℕ → ℕ → Word
next_word line at = record { from = behind blank line at; to = behind solid line (behind blank line at) }

-- the word with k before it
unfoldable pub word_at : List ℕ → ℕ → Word
word_at line zero = next_word line 0
word_at line (suc k) = next_word line (word_at line k).to

-- its bytes: none where the line has no such word
unfoldable pub nth : List ℕ → ℕ → List ℕ
nth line k = take ((word_at line k).to - (word_at line k).from) (drop (word_at line k).from line)

-- two words are the same
unfoldable pub same : List ℕ → List ℕ → Bool
same [] [] = true
same [] (y ∷ ys) = false
same (x ∷ xs) [] = false
same (x ∷ xs) (y ∷ ys) = eqb x y && same xs ys
