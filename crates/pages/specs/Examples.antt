-- Worked rows, by computing.
use Rattle.std.specs.Prelude.{Some, None, true, false, ◌≡◌, refl, List, [], ◌∷◌, map, ℕ, zero, suc, ◌+◌}
use Rattle.pages.specs.Numbers.{told_number}
use Rattle.pages.specs.declared.Refusal.{Refusal}
use Rattle.pages.specs.declared.Refusal.TheVariants.{NoSuchUproc, OutOfTurn}
use Rattle.pages.specs.declared.Cause.TheVariants.{Load, Store, Modification}
use Rattle.pages.specs.declared.Event.{Event}
use Rattle.pages.specs.declared.Event.TheVariants.{Refill, Fault, Report, End}
use Rattle.pages.specs.declared.Word.{Word}
use Rattle.pages.specs.declared.Word.TheVariants as word
use Rattle.pages.specs.declared.Answer.{Answer}
use Rattle.pages.specs.Rules.{entry_of, refill, fault, ends, step, run, answers, fresh}

-- an answer, and beside it the number of its refusal, or 0
abbrev told : Answer → Answer × ℕ
told a = (a, told_number a.refusal)

abbrev says : Word → Answer × ℕ
says w = (record { refusal = None; word = w }, 0)

abbrev refuses : Refusal → ℕ → Answer × ℕ
refuses r n = (record { refusal = Some r; word = word.None }, n)

-- n pages of U-proc 1 from entry k on, each read
abbrev loads : ℕ → ℕ → List Event
loads zero k = []
loads (suc n) k = Fault 1 (524288 + k) Load ∷ Report true ∷ loads n (suc k)

-- one U-proc, one page: read, present, refreshed, ended
one : map told (answers (Refill 1 524288 ∷ Fault 1 524288 Load ∷ Report true ∷ Refill 1 524288 ∷ Fault 1 524288 Store ∷ End 1 ∷ Refill 1 524288 ∷ []) fresh)
    ≡ says (word.Entry 1 0 0) ∷ says (word.Read 0 1 0) ∷ says (word.Resume 1 0 0) ∷ says (word.Entry 1 0 1) ∷ says (word.Refresh 1 0 0) ∷ says (word.Freed 1 1) ∷ says (word.Entry 1 0 0) ∷ []
unfolding answers step refill fault ends entry_of
one = refl

-- 9, then 11, then a program trap; a modification; the pages at the ends
order : map told (answers (Refill 9 524288 ∷ Report true ∷ Fault 2 524288 Modification ∷ Refill 2 524318 ∷ Refill 2 524319 ∷ Refill 2 786431 ∷ Fault 2 524287 Load ∷ Fault 2 786431 Load ∷ Refill 0 524288 ∷ Fault 2 524288 Modification ∷ Refill 2 524288 ∷ End 3 ∷ Report false ∷ Refill 2 786431 ∷ []) fresh)
    ≡ refuses NoSuchUproc 9 ∷ refuses OutOfTurn 11 ∷ says (word.Trap 2) ∷ says (word.Entry 2 30 0) ∷ says (word.Trap 2) ∷ says (word.Entry 2 31 0) ∷ says (word.Trap 2) ∷ says (word.Read 0 2 31) ∷ refuses NoSuchUproc 9 ∷ refuses OutOfTurn 11 ∷ refuses OutOfTurn 11 ∷ refuses OutOfTurn 11 ∷ says (word.Trap 2) ∷ says (word.Entry 2 31 0) ∷ []
unfolding answers step refill fault ends entry_of
order = refl

-- sixteen pages of U-proc 1, each read
abbrev full : List Event
full = loads 16 0

abbrev after_full : List Event → List Answer
after_full es = answers es (run full fresh)

-- the hand moves only when it chose; a failed write leaves the old page in its frame; a failed read leaves the frame
-- free, and it is taken next with the hand where it is; the freed frames' mask
turned : map told (after_full (Fault 2 524288 Load ∷ Report true ∷ Report true ∷ Fault 2 524289 Store ∷ Report false ∷ Refill 1 524289 ∷ Fault 2 524289 Store ∷ Report true ∷ Report false ∷ Refill 1 524290 ∷ Fault 3 524288 Load ∷ Report true ∷ Fault 3 524289 Load ∷ Report true ∷ Report true ∷ End 1 ∷ End 2 ∷ Fault 4 786431 Load ∷ []))
    ≡ says (word.Write 0 1 0) ∷ says (word.Read 0 2 0) ∷ says (word.Resume 2 0 0) ∷ says (word.Write 1 1 1) ∷ says (word.Trap 2) ∷ says (word.Entry 1 1 2) ∷ says (word.Write 2 1 2) ∷ says (word.Read 2 2 1) ∷ says (word.Trap 2) ∷ says (word.Entry 1 2 0)
    ∷ says (word.Read 2 3 0) ∷ says (word.Resume 3 0 2) ∷ says (word.Write 3 1 3) ∷ says (word.Read 3 3 1) ∷ says (word.Resume 3 1 3) ∷ says (word.Freed 1 65522) ∷ says (word.Freed 2 1) ∷ says (word.Read 0 4 31) ∷ []
unfolding answers step refill fault ends entry_of
turned = refl
