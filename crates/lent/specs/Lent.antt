-- "In its last form, after the plain one, the desk lends the swap table, one row a frame, to be read and changed where
-- it lies; a lent table not sixteen rows long or at odds with the page tables is refused with 12, untouched, after 9
-- and before 11."
use Rattle.std.specs.Prelude.{Bool, false, not, ◌&&◌, ◌≡◌, List, [], ◌∷◌, ℕ, ◌≤◌, ◌<◌, eqb, length, Option, Some, None, if◌then◌else◌}
use Rattle.rules.specs.Words.{maybe}
use Rattle.pages.specs.declared.Refusal.{Refusal}
use Rattle.pages.specs.declared.Refusal.TheVariants.{NoSuchUproc, AtOdds}
use Rattle.pages.specs.declared.Row.{Row}
use Rattle.pages.specs.declared.Event.{Event}
use Rattle.pages.specs.declared.Event.TheVariants.{Refill, Fault, Report, End}
use Rattle.pages.specs.declared.Table.{Table}
use Rattle.pages.specs.declared.Transfer.{Transfer}
use Rattle.pages.specs.declared.Transfer.TheVariants.{Closed, Writing, Reading}
use Rattle.pages.specs.declared.Word.TheVariants as word
use Rattle.pages.specs.declared.Answer.{Answer}
use Rattle.pages.specs.declared.Pager.{Pager}
use Rattle.pages.specs.declared.Turn.{Turn}
use Rattle.pages.specs.Numbers.{u_procs, width, frames}
use Rattle.pages.specs.Rules as rules
use Rattle.pages.specs.Rules.{table, entry, is_uproc, step}
use Rattle.pages.specs.Ruled.{Page, Left}
use Rattle.swap.specs.declared.Sheet.{Sheet}
use Rattle.odds.specs.Odds.{agrees}
use Rattle.lent.specs.declared.Keeper.{Keeper}
use Rattle.lent.specs.declared.Kept.{Kept}
use Rattle.lent.specs.declared.Decided.{Decided}

-- ── What the pager keeps, and the lent rows: together the plain pager ──

abbrev pub joined : Keeper → List Row → Pager
joined k rs = record { tables = k.tables; rows = rs; hand = k.hand; transfer = k.transfer }

abbrev pub without_rows : Pager → Keeper
without_rows p = record { tables = p.tables; hand = p.hand; transfer = p.transfer }

abbrev pub fresh : Keeper
fresh = without_rows rules.fresh

-- ── Answers ──

abbrev pub refusing : Refusal → Keeper → Kept
refusing r k = record { answer = record { refusal = Some r; word = word.None }; keeper = k }

-- the plain pager's answer
abbrev pub after : Turn → Kept
after t = record { answer = t.answer; keeper = without_rows t.pager }

-- ── One event ──

-- "any other number refused with 9": the event names a U-proc that is none of the eight
abbrev pub no_uproc : Event → Bool
no_uproc (Refill u n) = not (is_uproc u)
no_uproc (Fault u n c) = not (is_uproc u)
no_uproc (Report ok) = false
no_uproc (End u) = not (is_uproc u)

-- n rows, rs: "not sixteen rows long or at odds with the page tables is refused with 12 .. after 9 and before 11". None
-- where neither applies
abbrev pub verdict_of : Event → Keeper → ℕ → List Row → Option Refusal
verdict_of v k n rs =
    if no_uproc v then Some NoSuchUproc else
    (if eqb n frames && agrees k.tables rs k.transfer then None else Some AtOdds)

-- what an event makes of what is kept, and of the lent rows
pub record Lent : Type 0 where
  pub turn : Kept
  pub rows : List Row

unfoldable pub lent : Event → Keeper → List Row → Lent
lent v k rs =
    let n = verdict_of v k (length rs) rs in
    let t = step v (joined k rs) in
    maybe n (record { turn = after t; rows = t.pager.rows }) λ r. record { turn = refusing r k; rows = rs }

-- the same of a sheet
unfoldable pub decided : Event → Keeper → Sheet → Decided
decided v k s =
    let n = verdict_of v k s.count s.rows in
    let t = step v (joined k s.rows) in
    maybe n (record { turn = after t; sheet = record { rows = t.pager.rows; count = s.count } }) λ r. record { turn = refusing r k; sheet = s }

-- ── The rule of what is kept: that of the pager, but for what it says of the rows ──

pub record Awaited (ts : List Table) (f u e : ℕ) : Type 0 where
  pub frame : f < frames
  pub page : Page u e
  pub absent : entry ts u e ≡ 0

abbrev pub Waiting : List Table → Transfer → Type 0
Waiting ts Closed = Unit {0}
Waiting ts (Writing f u e old) = Awaited ts f u e × Left ts old
Waiting ts (Reading f u e) = Awaited ts f u e

pub record Keeping (k : Keeper) : Type 0 where
  pub eight : length k.tables ≡ u_procs
  pub wide : (u : ℕ) → 1 ≤ u → u ≤ u_procs → length (table k.tables u).entries ≡ width
  pub hand : k.hand < frames
  pub waiting : Waiting k.tables k.transfer

-- ── Events one after the other, the rows lent to each as the last one left them ──

unfoldable pub lent_answers : List Event → Keeper → List Row → List Answer
lent_answers [] k rs = []
lent_answers (v ∷ vs) k rs = (lent v k rs).turn.answer ∷ lent_answers vs (lent v k rs).turn.keeper (lent v k rs).rows
