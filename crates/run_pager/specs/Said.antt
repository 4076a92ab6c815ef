-- THE TEXT of the program: all that it writes of a text of events, and how it ends.
use Rattle.std.specs.Prelude.{◌≡◌, Bool, true, false, ◌&&◌, List, [], ◌++◌, ℕ, zero, suc, ◌+◌, ◌-◌, nat_le, length, take, drop, if◌then◌else◌}
use Rattle.std.specs.Io.KnownBytes.{Keeps, Appends}
use Rattle.std.specs.declared.option.Option.{Option}
use Rattle.std.specs.declared.option.Option.TheVariants.{Some, None}
use Rattle.std.specs.declared.result.Result.{Result}
use Rattle.std.specs.declared.result.Result.TheVariants.{Ok, Err}
use Rattle.words.specs.Texts.{line_at, nth}
use Rattle.words.specs.Complaints.{complaint}
use Rattle.pages.specs.declared.Answer.{Answer}
use Rattle.lent.specs.declared.Keeper.{Keeper}
use Rattle.lent.specs.Lent as lents
use Rattle.lender.specs.declared.SwapTable.{SwapTable}
use Rattle.lender.specs.Lender as lenders
use Rattle.pager_asks.specs.declared.Ask.{Ask}
use Rattle.pager_asks.specs.declared.Bad.{Bad}
use Rattle.pager_asks.specs.Asks.{ask_of}
use Rattle.pager_text.specs.Answers.{line}
use Rattle.run_pager.specs.declared.Acted.{Acted}
use Rattle.run_pager.specs.declared.Ending.{Ending}
use Rattle.run_pager.specs.declared.Ending.TheVariants as ending
use Rattle.run_pager.specs.Acts.{asks, more, acted}
use Rattle.run_pager.specs.Told.{expected_text}

-- the bytes of the line at a place
abbrev pub line_of : List ℕ → ℕ → List ℕ
line_of text at = take ((line_at text at).end - at) (drop at text)

-- ── The answers ──

-- the line of an answer, where there is one
abbrev pub answer_text : ℕ → Option Answer → List ℕ
answer_text n None = []
answer_text n (Some a) = line n a

abbrev pub answer_line : ℕ → Acted → List ℕ
answer_line n d = answer_text n d.answer

-- line after line from a place of the text on, n answers having been written (f, the most lines that there can be, only
-- shows that this ends)
unfoldable pub said_from : ℕ → List ℕ → ℕ → SwapTable → Keeper → ℕ → List ℕ
said_from zero text at t k n = []
said_from (suc f) text at t k n =
    let d = acted (asks (ask_of (line_of text at))) t k in
    let further = said_from f text (line_at text at).next d.table d.keeper (n + more d.answer) in
    if nat_le (length text) at then [] else answer_line (n + more d.answer) d ++ further

abbrev pub said : List ℕ → List ℕ
said text = said_from (length text) text 0 lenders.fresh lents.fresh 0

-- ── A bad line ──

abbrev pub is_good : Result Ask Bad → Bool
is_good (Ok a) = true
is_good (Err b) = false

unfoldable pub good_from : ℕ → List ℕ → ℕ → Bool
good_from zero text at = true
good_from (suc f) text at = let more = good_from f text (line_at text at).next in
    if nat_le (length text) at then true else is_good (ask_of (line_of text at)) && more

abbrev pub good : List ℕ → Bool
good text = good_from (length text) text 0

-- what is told of a line with that number; of a good one what is told further on
abbrev pub line_complaint : Result Ask Bad → ℕ → List ℕ → List ℕ → List ℕ
line_complaint (Ok a) number line further = further
line_complaint (Err b) number line further = complaint number (nth line b.word) (expected_text b.expected)

-- of the first bad line, after so many lines; nothing where there is none
unfoldable pub complaint_from : ℕ → List ℕ → ℕ → ℕ → List ℕ
complaint_from zero text at n = []
complaint_from (suc f) text at n = let more = complaint_from f text (line_at text at).next (n + 1) in
    if nat_le (length text) at then [] else line_complaint (ask_of (line_of text at)) (n + 1) (line_of text at) more

abbrev pub complaint_of : List ℕ → List ℕ
complaint_of text = complaint_from (length text) text 0 0

-- ── The whole ──

-- how it ends, and what was written meanwhile on standard output and standard error: all answers; or of the first bad
-- line the complaint and nothing else; or, where a write failed, nothing on standard error
abbrev pub Ends : Ending → List ℕ → Option (List ℕ) → Option (List ℕ) → Option (List ℕ) → Option (List ℕ) → Type 0
Ends ending.Answered text out out' err err' = (good text ≡ true) × Appends out out' (said text) × Keeps err err'
Ends ending.Told text out out' err err' = (good text ≡ false) × Keeps out out' × Appends err err' (complaint_of text)
Ends ending.Unwritten text out out' err err' = (good text ≡ true) × Keeps err err'
Ends ending.ReaderGone text out out' err err' = (good text ≡ true) × Keeps err err'
