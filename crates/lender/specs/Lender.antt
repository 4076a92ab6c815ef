-- "the desk lends the swap table, one row a frame, to be read and changed where it lies": the side that lends it.
use Rattle.std.specs.Prelude.{List, [], ◌∷◌, ◌++◌, ℕ, ltb, take, drop, set, replicate, if◌then◌else◌}
use Rattle.pages.specs.declared.Row.{Row}
use Rattle.pages.specs.declared.Event.{Event}
use Rattle.pages.specs.declared.Answer.{Answer}
use Rattle.pages.specs.Numbers.{frames}
use Rattle.pages.specs.Rules.{free}
use Rattle.swap.specs.Sheets.{fill}
use Rattle.lent.specs.declared.Keeper.{Keeper}
use Rattle.lent.specs.Lent.{lent}
use Rattle.lender.specs.declared.SwapTable.{SwapTable}
use Rattle.lender.specs.declared.Served.{Served}

-- as many rows as the array has
abbrev pub room : ℕ
room = 64

-- the table: the rows that are lent
abbrev pub rows_of : SwapTable → List Row
rows_of t = take t.count t.rows

-- the array with other rows in the table's place
abbrev pub with_rows : List Row → SwapTable → SwapTable
with_rows rs t = record { rows = rs ++ drop t.count t.rows; count = t.count }

abbrev pub fresh : SwapTable
fresh = record { rows = replicate room free; count = frames }

-- an event over the lent table: the rule book's answer, and its rows in the place of those that were lent
abbrev pub served : Event → Keeper → SwapTable → Served
served v k t = record { turn = (lent v k (rows_of t)).turn; table = with_rows (lent v k (rows_of t)).rows t }

-- events one after the other, the table lent to each as the last one left it
unfoldable pub served_answers : List Event → Keeper → SwapTable → List Answer
served_answers [] k t = []
served_answers (v ∷ vs) k t = (served v k t).turn.answer ∷ served_answers vs (served v k t).turn.keeper (served v k t).table

abbrev pub lesser : ℕ → ℕ → ℕ
lesser n m = if ltb n m then n else m

-- `rows N`: rows behind the new length are gone, and new ones are free
abbrev pub resized_to : ℕ → SwapTable → SwapTable
resized_to n t = record { rows = fill room (take (lesser n t.count) t.rows); count = n }

-- `row FRAME OWNER ENTRY`, where the table has that row
abbrev pub with_row_at : ℕ → Row → SwapTable → SwapTable
with_row_at at row t = record { rows = if ltb at t.count then set t.rows at row else t.rows; count = t.count }
