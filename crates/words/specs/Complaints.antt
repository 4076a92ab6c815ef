-- What a program says of a bad line: "line N: found 'WORD', expected TEXT", and a newline.
use Rattle.std.specs.Prelude.{◌≡◌, List, [], ◌∷◌, ◌++◌, ℕ, leb, length, take, drop, if◌then◌else◌}
use Rattle.report.specs.Text.{newline, decimal}
use Rattle.std.specs.declared.option.Option.{Option}
use Rattle.std.specs.declared.option.Option.TheVariants.{Some, None}

-- "line ", ": found '" and "', expected ", in bytes
abbrev pub in_line : List ℕ
in_line = 108 ∷ 105 ∷ 110 ∷ 101 ∷ 32 ∷ []

abbrev pub was_found : List ℕ
was_found = 58 ∷ 32 ∷ 102 ∷ 111 ∷ 117 ∷ 110 ∷ 100 ∷ 32 ∷ 39 ∷ []

abbrev pub was_expected : List ℕ
was_expected = 39 ∷ 44 ∷ 32 ∷ 101 ∷ 120 ∷ 112 ∷ 101 ∷ 99 ∷ 116 ∷ 101 ∷ 100 ∷ 32 ∷ []

-- as many bytes of a word as a complaint shows
abbrev pub most_shown : ℕ
most_shown = 40

abbrev pub shown : List ℕ → List ℕ
shown word = take most_shown word

-- as many bytes as a complaint has at most beside what was expected
abbrev pub around : ℕ
around = 87

unfoldable pub complaint : ℕ → List ℕ → List ℕ → List ℕ
complaint n word expected = in_line ++ (decimal n ++ (was_found ++ (shown word ++ (was_expected ++ (expected ++ (newline ∷ []))))))

-- where a buffer has this much room the text stands at its front and all behind it is as it was; else all is as it
-- was, and that is told
pub record Complains (text : List ℕ) (room : ℕ) (before after : List ℕ) (r : Option ℕ) : Type 0 where
  pub bytes : after ≡ if leb room (length before) then text ++ drop (length text) before else before
  pub said : r ≡ if leb room (length before) then Some (length text) else None
