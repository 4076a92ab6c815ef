-- What is promised of any pager that obeys the rule, and so of any events from a fresh one. proofs/Promises has the
-- theorem.
use Rattle.std.specs.Prelude.{None, Bool, true, false, not, ◌&&◌, ◌≡◌, ◌≢◌, ◌⊎◌, List, [], ◌∷◌, ℕ, suc, ◌+◌, ◌%◌, ◌≤◌, ◌<◌, length, if◌then◌else◌}
use Rattle.rules.specs.Words.{among, count}
use Rattle.pages.specs.declared.Refusal.TheVariants.{NoSuchUproc, OutOfTurn}
use Rattle.pages.specs.declared.Row.{Row}
use Rattle.pages.specs.declared.Event.{Event}
use Rattle.pages.specs.declared.Event.TheVariants.{Refill, Fault, Report, End}
use Rattle.pages.specs.declared.Transfer.{Transfer}
use Rattle.pages.specs.declared.Transfer.TheVariants.{Closed, Writing, Reading}
use Rattle.pages.specs.declared.Word.{Word}
use Rattle.pages.specs.declared.Word.TheVariants as word
use Rattle.pages.specs.declared.Pager.{Pager}
use Rattle.pages.specs.declared.Turn.{Turn}
use Rattle.pages.specs.Numbers.{width, frames}
use Rattle.pages.specs.Rules.{entry, row, held, is_free, refusing, step}
use Rattle.pages.specs.Ruled.{Page, Ruled}

-- ── The pool ──

-- the frames that pass a test on their number and their row, counted from frame k
abbrev pub how_many : (ℕ → Row → Bool) → ℕ → List Row → ℕ
how_many t k [] = 0
how_many t k (r ∷ rs) = count (t k r) + how_many t (suc k) rs

-- the frame in transfer, if there is one
abbrev pub in_transfer : Transfer → List ℕ
in_transfer Closed = []
in_transfer (Writing f u e old) = f ∷ []
in_transfer (Reading f u e) = f ∷ []

abbrev pub is_idle : Transfer → ℕ → Row → Bool
is_idle t f r = is_free r && not (among f (in_transfer t))

abbrev pub is_owned : ℕ → Row → Bool
is_owned f r = not (is_free r)

-- frames free + owned + in transfer = 16
abbrev pub Conserved : Pager → Type 0
Conserved p = how_many (is_idle p.transfer) 0 p.rows + how_many is_owned 0 p.rows + length (in_transfer p.transfer) ≡ frames

-- "no frame has two owners"
abbrev pub OneOwner : Pager → Type 0
OneOwner p = (u e u' e' f : ℕ) → Page u e → Page u' e' → entry p.tables u e ≡ suc f → entry p.tables u' e' ≡ suc f → (u ≡ u') × (e ≡ e')

-- ── One event v of a pager p, and what it comes to, t ──

abbrev pub is_report : Event → Bool
is_report (Refill u n) = false
is_report (Fault u n c) = false
is_report (Report ok) = true
is_report (End u) = false

-- "While a transfer is open all but its report is refused with 11 and changes nothing" (or with 9, which comes before)
abbrev pub Untouched : Pager → Event → Turn → Type 0
Untouched p v t = p.transfer ≢ Closed → is_report v ≡ false → (t ≡ refusing NoSuchUproc p) ⊎ (t ≡ refusing OutOfTurn p)

-- "a report with none open likewise"
abbrev pub Unasked : Pager → Event → Turn → Type 0
Unasked p v t = p.transfer ≡ Closed → is_report v ≡ true → t ≡ refusing OutOfTurn p

-- "An evicted page is marked absent before its block is written"
abbrev pub AbsentFirst : Turn → Type 0
AbsentFirst t = (f o g : ℕ) → t.answer.word ≡ word.Write f o g → entry t.pager.tables o g ≡ 0

-- "a new page is marked present after its block is read"; "If the write fails, the old page is present again". Nothing
-- else makes a page present
abbrev pub PresentLast : Pager → Event → Turn → Type 0
PresentLast p v t =
    (u e f : ℕ) → Page u e → entry p.tables u e ≡ 0 → entry t.pager.tables u e ≡ suc f
    → ((p.transfer ≡ Reading f u e) × (v ≡ Report true)) ⊎ ((for : ℕ) × (page : ℕ) × (p.transfer ≡ Writing f for page (held u e)) × (v ≡ Report false))

-- "take the lowest free frame, and if there is none, the frame at the hand": so a frame freed is used again, lowest
-- first
pub record LowestFirst (p : Pager) (v : Event) (t : Turn) : Type 0 where
  pub taken : (f u e : ℕ) → is_report v ≡ false → t.answer.word ≡ word.Read f u e → ((row p.rows f).owner ≡ 0) × ((g : ℕ) → g < f → 1 ≤ (row p.rows g).owner)
  pub evicted : (f o g : ℕ) → t.answer.word ≡ word.Write f o g → (f ≡ p.hand) × ((h : ℕ) → h < frames → 1 ≤ (row p.rows h).owner)

abbrev pub is_write : Word → Bool
is_write word.None = false
is_write (word.Entry u e v) = false
is_write (word.Refresh u e f) = false
is_write (word.Write f o g) = true
is_write (word.Read f u e) = false
is_write (word.Resume u e f) = false
is_write (word.Trap u) = false
is_write (word.Freed u m) = false

-- "the frame at the hand, which then moves on one, around the pool (house rule: a free frame doesn't move the hand)";
-- "the hand keeps its move"
abbrev pub HandMoves : Pager → Turn → Type 0
HandMoves p t = t.pager.hand ≡ (if is_write t.answer.word then (p.hand + 1) % frames else p.hand)

-- "Ending a U-proc frees its frames": no row and no entry of it is left
abbrev pub LeavesNothing : Event → Turn → Type 0
LeavesNothing (Refill u n) t = Unit {0}
LeavesNothing (Fault u n c) t = Unit {0}
LeavesNothing (Report ok) t = Unit {0}
LeavesNothing (End u) t = t.answer.refusal ≡ None → ((f : ℕ) → (row t.pager.rows f).owner ≢ u) × ((e : ℕ) → e < width → entry t.pager.tables u e ≡ 0)

pub record Laws (p : Pager) (v : Event) : Type 0 where
  pub untouched : Untouched p v (step v p)
  pub unasked : Unasked p v (step v p)
  pub absent_first : AbsentFirst (step v p)
  pub present_last : PresentLast p v (step v p)
  pub lowest_first : LowestFirst p v (step v p)
  pub hand_moves : HandMoves p (step v p)
  pub leaves_nothing : LeavesNothing v (step v p)

-- ── All of it ──

pub record Promises (p : Pager) : Type 0 where
  pub rule : Ruled p
  pub one_owner : OneOwner p
  pub conserved : Conserved p
  pub each_event : (v : Event) → Laws p v
