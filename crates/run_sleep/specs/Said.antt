-- THE TEXT of the program: all that it writes of a text of lines, and how it ends.
use Rattle.std.specs.Prelude.{◌≡◌, Bool, true, false, List, [], ◌∷◌, ◌++◌, ℕ, zero, suc, ◌+◌, ◌-◌, leb, length, take, drop, Some, None, Ok, Err, if◌then◌else◌}
use Rattle.std.specs.Io.KnownBytes.{Keeps, Appends}
use Rattle.std.specs.declared.option.Option.{Option}
use Rattle.report.specs.Text.{newline, space, decimal}
use Rattle.words.specs.Texts.{line_at, nth}
use Rattle.words.specs.Complaints.{complaint}
use Rattle.sleeps.specs.declared.Operation.{Operation}
use Rattle.sleeps.specs.declared.Operation.TheVariants.{Gap, Ask, Tick, End}
use Rattle.sleeps.specs.Numbers.{told_number}
use Rattle.sleeps.specs.Rules.{State, Reply, nobody, step}
use Rattle.sleep_text.specs.declared.Bad.{Bad}
use Rattle.sleep_text.specs.Lines.{Parsed, Verdict, parsed, line_of, bad_from, wanted_text}
use Rattle.sleep_text.specs.Answers.{word_of, spelt}
use Rattle.run_sleep.specs.declared.Ending.{Ending}
use Rattle.run_sleep.specs.declared.Ending.TheVariants.{Answered, Told, Unwritten, ReaderGone}

-- ── The answers ──

-- "N REFUSAL WORD [U ..]", and a newline: the rule book's reply as a line
unfoldable pub reply_line : ℕ → Reply → List ℕ
reply_line n r = decimal n ++ ((space ∷ decimal (told_number r.refusal)) ++ ((space ∷ []) ++ (word_of (told_number r.refusal) r.follows ++ (spelt r.woken ++ (newline ∷ [])))))

-- after a line: the sleepers, how many answers were written, and what the line wrote
pub record Said : Type 0 where
  pub after : State
  pub number : ℕ
  pub bytes : List ℕ

abbrev pub silent : State → ℕ → Said
silent s n = record { after = s; number = n; bytes = [] }

abbrev pub is_gap : Operation → Bool
is_gap (Gap g) = true
is_gap (Ask u a1) = false
is_gap Tick = false
is_gap (End u) = false

-- a gap "writes nothing"; each other operation writes its reply, numbered from 1 on
abbrev pub operation_said : Operation → State → ℕ → Said
operation_said o s n =
    if is_gap o then silent (step o s).after n
    else record { after = (step o s).after; number = n + 1; bytes = reply_line (n + 1) (step o s).reply }

abbrev pub line_said : Parsed → State → ℕ → Said
line_said (Ok None) s n = silent s n
line_said (Ok (Some o)) s n = operation_said o s n
line_said (Err b) s n = silent s n

-- line after line from a place of the text on (f, the most lines that there can be, only shows that this ends)
unfoldable pub said_from : ℕ → List ℕ → ℕ → State → ℕ → List ℕ
said_from zero text at s n = []
said_from (suc f) text at s n =
    let l = line_said (parsed (line_of text at)) s n in
    let more = said_from f text (line_at text at).next l.after l.number in
    if leb (length text) at then [] else l.bytes ++ more

abbrev pub said : List ℕ → List ℕ
said text = said_from (length text) text 0 nobody 0

-- ── A bad line ──

abbrev pub verdict : List ℕ → Verdict
verdict text = bad_from (length text) text 0 1

abbrev pub is_wrong : Verdict → Bool
is_wrong (Ok u) = false
is_wrong (Err w) = true

abbrev pub line_complaint : ℕ → List ℕ → Bad → List ℕ
line_complaint number line b = complaint number (nth line b.word) (wanted_text b.wanted)

abbrev pub complaint_of : List ℕ → Verdict → List ℕ
complaint_of text (Ok u) = []
complaint_of text (Err w) = line_complaint w.number (take (w.to - w.from) (drop w.from text)) w.bad

-- ── The whole ──

-- how it ends, and what was written meanwhile on standard output and standard error: all answers; or of the first bad
-- line the complaint and nothing else; or, where a write failed, nothing on standard error
abbrev pub Ends : Ending → List ℕ → Option (List ℕ) → Option (List ℕ) → Option (List ℕ) → Option (List ℕ) → Type 0
Ends Answered text out out' err err' = (is_wrong (verdict text) ≡ false) × Appends out out' (said text) × Keeps err err'
Ends Told text out out' err err' = (is_wrong (verdict text) ≡ true) × Keeps out out' × Appends err err' (complaint_of text (verdict text))
Ends Unwritten text out out' err err' = (is_wrong (verdict text) ≡ false) × Keeps err err'
Ends ReaderGone text out out' err err' = (is_wrong (verdict text) ≡ false) × Keeps err err'
