-- An answer as the line that is written: "N REFUSAL WORD [U ..]", and a newline.
use Rattle.std.specs.Prelude.{◌≡◌, List, [], ◌∷◌, ◌++◌, ℕ, ◌≤◌, eqb, length, take, if◌then◌else◌}
use Rattle.rules.specs.Words.{All}
use Rattle.report.specs.Text.{newline, space, decimal}
use Rattle.sleeps.specs.Numbers.{places, last_proc, told_number}
use Rattle.sleeps.specs.declared.Follows.{Follows}
use Rattle.sleeps.specs.declared.Follows.TheVariants.{Nothing, Sleeps, Ends, Wakes, Ended}
use Rattle.sleeps.specs.declared.Answer.{Answer}
use Rattle.sleep_text.specs.declared.Told.{Told}

-- "the word is one of none, sleep, end, wake, ended, quiet", in bytes
abbrev pub follows_word : Follows → List ℕ
follows_word Nothing = 113 ∷ 117 ∷ 105 ∷ 101 ∷ 116 ∷ []
follows_word Sleeps = 115 ∷ 108 ∷ 101 ∷ 101 ∷ 112 ∷ []
follows_word Ends = 101 ∷ 110 ∷ 100 ∷ []
follows_word Wakes = 119 ∷ 97 ∷ 107 ∷ 101 ∷ []
follows_word Ended = 101 ∷ 110 ∷ 100 ∷ 101 ∷ 100 ∷ []

abbrev pub none : List ℕ
none = 110 ∷ 111 ∷ 110 ∷ 101 ∷ []

-- a refusal is "none"
abbrev pub word_of : ℕ → Follows → List ℕ
word_of r f = if eqb r 0 then follows_word f else none

-- "after wake come the U-procs woken, in order", each behind a space
unfoldable pub spelt : List ℕ → List ℕ
spelt [] = []
spelt (n ∷ ns) = (space ∷ decimal n) ++ spelt ns

-- what is told of an answer: "refusal or 0", and all else as it is
abbrev pub told_of : Answer → Told
told_of a = record { refusal = told_number a.refusal; follows = a.follows; count = a.count; woken = a.woken }

-- as many are woken as are counted, each one of 1 to 8
pub record Tellable (t : Told) : Type 0 where
  pub long : length t.woken ≡ places
  pub room : t.count ≤ places
  pub procs : All (λ (n : ℕ). n ≤ last_proc) (take t.count t.woken)

unfoldable pub told_line : ℕ → Told → List ℕ
told_line n t = decimal n ++ ((space ∷ decimal t.refusal) ++ ((space ∷ []) ++ (word_of t.refusal t.follows ++ (spelt (take t.count t.woken) ++ (newline ∷ [])))))

abbrev pub answer_line : ℕ → Answer → List ℕ
answer_line n a = told_line n (told_of a)

-- as many bytes as such a line has at most
abbrev pub longest : ℕ
longest = 47
