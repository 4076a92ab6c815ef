-- What a line of the pager's text asks: `refill U PAGE`, `fault U PAGE load|store|mod`, `report ok|failed`, `end U`
-- (numbers decimal or 0x), and for the lent table `rows N` and `row FRAME OWNER ENTRY`. An empty line asks nothing. A
-- bad line tells its first bad word.
use Rattle.std.specs.Prelude.{Bool, true, false, List, [], ◌∷◌, ℕ, ◌-◌, ◌^◌, ◌≤◌, eqb, length, Option, Some, None, if◌then◌else◌}
use Rattle.std.specs.declared.result.Result.{Result}
use Rattle.std.specs.declared.result.Result.TheVariants.{Ok, Err}
use Rattle.pages.specs.declared.Cause.TheVariants.{Load, Store, Modification}
use Rattle.pages.specs.declared.Event.TheVariants.{Refill, Fault, Report, End}
use Rattle.pages.specs.Rules.{held}
use Rattle.words.specs.Texts.{nth, same}
use Rattle.words.specs.Figures.{decimal_of, hexadecimal_of}
use Rattle.pager_asks.specs.declared.Expected.{Expected}
use Rattle.pager_asks.specs.declared.Expected.TheVariants as want
use Rattle.pager_asks.specs.declared.Bad.{Bad}
use Rattle.pager_asks.specs.declared.Ask.{Ask}
use Rattle.pager_asks.specs.declared.Ask.TheVariants.{Empty, Asked, Length, Set}

-- ── Words ──

-- the k-th word of a line, which `nth` gives, is none where it has no byte
abbrev pub no_word : List ℕ → ℕ → Bool
no_word line k = eqb (length (nth line k)) 0

-- "numbers decimal or 0x"
abbrev pub or_else : Option ℕ → Option ℕ → Option ℕ
or_else (Some n) y = Some n
or_else None y = y

unfoldable pub number_at : ℕ → List ℕ → ℕ → Option ℕ
number_at limit line k = or_else (decimal_of limit (nth line k)) (hexadecimal_of limit (nth line k))

-- U-procs and pages are words of 32 bits; owner and entry of a row are bytes; the table that is lent has 64 rows at
-- most
abbrev pub any_word : ℕ
any_word = 2 ^ 32 - 1

abbrev pub any_byte : ℕ
any_byte = 2 ^ 8 - 1

abbrev pub most_rows : ℕ
most_rows = 64

-- a length that is asked for is one that the table may have
abbrev pub Sized : Ask → Type 0
Sized Empty = Unit {0}
Sized (Asked v) = Unit {0}
Sized (Length n) = n ≤ most_rows
Sized (Set f row) = Unit {0}

-- ── Lines ──

-- a bad word, and what was expected there
abbrev pub bad : ℕ → Expected → Bad
bad k e = record { word = k; expected = e }

-- what `f` makes of a number; where it is none, it is bad
abbrev pub with_number : Option ℕ → Bad → (ℕ → Result Ask Bad) → Result Ask Bad
with_number (Some n) b f = f n
with_number None b f = Err b

-- nothing stands behind
abbrev pub ended : List ℕ → ℕ → Ask → Result Ask Bad
ended line k a = if no_word line k then Ok a else Err (bad k want.Nothing)

unfoldable pub refill_ask : List ℕ → Result Ask Bad
refill_ask line =
    with_number (number_at any_word line 1) (bad 1 want.Number) λ u.
    with_number (number_at any_word line 2) (bad 2 want.Number) λ n.
    ended line 3 (Asked (Refill u n))

-- "load", "store" and "mod", in bytes
abbrev pub load : List ℕ
load = 108 ∷ 111 ∷ 97 ∷ 100 ∷ []

abbrev pub store : List ℕ
store = 115 ∷ 116 ∷ 111 ∷ 114 ∷ 101 ∷ []

abbrev pub modification : List ℕ
modification = 109 ∷ 111 ∷ 100 ∷ []

unfoldable pub by_cause : List ℕ → ℕ → ℕ → Result Ask Bad
by_cause line u n =
    if same (nth line 3) load then ended line 4 (Asked (Fault u n Load)) else
    (if same (nth line 3) store then ended line 4 (Asked (Fault u n Store)) else
    (if same (nth line 3) modification then ended line 4 (Asked (Fault u n Modification)) else Err (bad 3 want.Cause)))

unfoldable pub fault_ask : List ℕ → Result Ask Bad
fault_ask line =
    with_number (number_at any_word line 1) (bad 1 want.Number) λ u.
    with_number (number_at any_word line 2) (bad 2 want.Number) λ n.
    by_cause line u n

-- "ok" and "failed", in bytes
abbrev pub ok : List ℕ
ok = 111 ∷ 107 ∷ []

abbrev pub failed : List ℕ
failed = 102 ∷ 97 ∷ 105 ∷ 108 ∷ 101 ∷ 100 ∷ []

unfoldable pub report_ask : List ℕ → Result Ask Bad
report_ask line =
    if same (nth line 1) ok then ended line 2 (Asked (Report true)) else
    (if same (nth line 1) failed then ended line 2 (Asked (Report false)) else Err (bad 1 want.Outcome))

unfoldable pub end_ask : List ℕ → Result Ask Bad
end_ask line = with_number (number_at any_word line 1) (bad 1 want.Number) λ u. ended line 2 (Asked (End u))

unfoldable pub rows_ask : List ℕ → Result Ask Bad
rows_ask line = with_number (number_at most_rows line 1) (bad 1 want.Count) λ n. ended line 2 (Length n)

unfoldable pub row_ask : List ℕ → Result Ask Bad
row_ask line =
    with_number (number_at (most_rows - 1) line 1) (bad 1 want.Frame) λ f.
    with_number (number_at any_byte line 2) (bad 2 want.Byte) λ o.
    with_number (number_at any_byte line 3) (bad 3 want.Byte) λ e.
    ended line 4 (Set f (held o e))

-- "refill", "fault", "report", "end", "rows" and "row", in bytes
abbrev pub refill : List ℕ
refill = 114 ∷ 101 ∷ 102 ∷ 105 ∷ 108 ∷ 108 ∷ []

abbrev pub fault : List ℕ
fault = 102 ∷ 97 ∷ 117 ∷ 108 ∷ 116 ∷ []

abbrev pub report : List ℕ
report = 114 ∷ 101 ∷ 112 ∷ 111 ∷ 114 ∷ 116 ∷ []

abbrev pub end : List ℕ
end = 101 ∷ 110 ∷ 100 ∷ []

abbrev pub rows : List ℕ
rows = 114 ∷ 111 ∷ 119 ∷ 115 ∷ []

abbrev pub row : List ℕ
row = 114 ∷ 111 ∷ 119 ∷ []

unfoldable pub other_ask : List ℕ → Result Ask Bad
other_ask line =
    if same (nth line 0) end then end_ask line else
    (if same (nth line 0) rows then rows_ask line else
    (if same (nth line 0) row then row_ask line else Err (bad 0 want.Command)))

unfoldable pub ask_of : List ℕ → Result Ask Bad
ask_of line =
    if no_word line 0 then Ok Empty else
    (if same (nth line 0) refill then refill_ask line else
    (if same (nth line 0) fault then fault_ask line else
    (if same (nth line 0) report then report_ask line else other_ask line)))
