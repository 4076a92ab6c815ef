-- The line of an answer, in bytes: N REFUSAL WORD U ENTRY FRAME FRAMES.
use Rattle.std.specs.Prelude.{List, [], ◌∷◌, ◌++◌, ℕ, zero, suc, Option, Some, None}
use Rattle.report.specs.Text.{decimal, absent, joined}
use Rattle.pages.specs.declared.Word.{Word}
use Rattle.pages.specs.declared.Word.TheVariants as word
use Rattle.pages.specs.declared.Answer.{Answer}
use Rattle.pages.specs.Numbers.{told_number}
use Rattle.pager_text.specs.declared.Seen.{Seen}
use Rattle.pager_text.specs.declared.Told.{Told}

-- "none, entry, refresh, write, read, resume, trap, freed", in bytes
abbrev pub name : Word → List ℕ
name word.None = 110 ∷ 111 ∷ 110 ∷ 101 ∷ []
name (word.Entry u e v) = 101 ∷ 110 ∷ 116 ∷ 114 ∷ 121 ∷ []
name (word.Refresh u e f) = 114 ∷ 101 ∷ 102 ∷ 114 ∷ 101 ∷ 115 ∷ 104 ∷ []
name (word.Write f o g) = 119 ∷ 114 ∷ 105 ∷ 116 ∷ 101 ∷ []
name (word.Read f u e) = 114 ∷ 101 ∷ 97 ∷ 100 ∷ []
name (word.Resume u e f) = 114 ∷ 101 ∷ 115 ∷ 117 ∷ 109 ∷ 101 ∷ []
name (word.Trap u) = 116 ∷ 114 ∷ 97 ∷ 112 ∷ []
name (word.Freed u m) = 102 ∷ 114 ∷ 101 ∷ 101 ∷ 100 ∷ []

-- an entry as it stands: absent is 0, and f + 1 is frame f
abbrev pub frame_in : ℕ → Option ℕ
frame_in zero = None
frame_in (suc f) = Some f

-- "U, ENTRY and FRAME are those of the page in question (for write the evicted one's owner and entry; for entry the
-- frame is absent where the page is)"; "FRAMES is the mask of the frames freed, .. 0 where none"
abbrev pub seen_of : Word → Seen
seen_of word.None = record { u = None; entry = None; frame = None; frames = 0 }
seen_of (word.Entry u e v) = record { u = Some u; entry = Some e; frame = frame_in v; frames = 0 }
seen_of (word.Refresh u e f) = record { u = Some u; entry = Some e; frame = Some f; frames = 0 }
seen_of (word.Write f o g) = record { u = Some o; entry = Some g; frame = Some f; frames = 0 }
seen_of (word.Read f u e) = record { u = Some u; entry = Some e; frame = Some f; frames = 0 }
seen_of (word.Resume u e f) = record { u = Some u; entry = Some e; frame = Some f; frames = 0 }
seen_of (word.Trap u) = record { u = Some u; entry = None; frame = None; frames = 0 }
seen_of (word.Freed u m) = record { u = Some u; entry = None; frame = None; frames = m }

-- ""-" where absent"
abbrev pub shown : Option ℕ → List ℕ
shown None = absent
shown (Some n) = decimal n

abbrev pub parts : ℕ → Word → Seen → List (List ℕ)
parts r w s = decimal r ∷ name w ∷ shown s.u ∷ shown s.entry ∷ shown s.frame ∷ decimal s.frames ∷ []

unfoldable pub line_of : ℕ → ℕ → Word → Seen → List ℕ
line_of n r w s = decimal n ++ joined (parts r w s)

-- what is told of an answer: "refusal or 0", and its word
abbrev pub told_of : Answer → Told
told_of a = record { refusal = told_number a.refusal; word = a.word }

abbrev pub told_line : ℕ → Told → List ℕ
told_line n t = line_of n t.refusal t.word (seen_of t.word)

abbrev pub line : ℕ → Answer → List ℕ
line n a = told_line n (told_of a)
