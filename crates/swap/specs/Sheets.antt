-- What the lent rows mean: a list of rows, and a sheet of the first sixteen of them.
use Rattle.std.specs.Prelude.{List, [], ◌∷◌, ℕ, zero, suc, ◌+◌, ltb, length, get_or, set, if◌then◌else◌}
use Rattle.pages.specs.declared.Row.{Row}
use Rattle.pages.specs.Numbers.{frames}
use Rattle.pages.specs.Rules.{free}
use Rattle.swap.specs.declared.Sheet.{Sheet}

-- the first n rows, filled up with free ones
unfoldable pub fill : ℕ → List Row → List Row
fill zero l = []
fill (suc n) [] = free ∷ fill n []
fill (suc n) (x ∷ xs) = x ∷ fill n xs

-- the first sixteen rows, filled up with free ones, and how many rows there were
abbrev pub sheet_of : List Row → Sheet
sheet_of l = record { rows = fill frames l; count = length l }

-- one row more: behind the sixteenth place nothing is set
abbrev pub put : Row → Sheet → Sheet
put x s = record { rows = set s.rows s.count x; count = s.count + 1 }

-- a row of the sheet, or a free one
abbrev pub row_at : Sheet → ℕ → Row
row_at s at = get_or s.rows at free

-- how many of n rows a sheet holds
abbrev pub up_to_16 : ℕ → ℕ
up_to_16 n = if ltb n frames then n else frames

-- rows written over others: as many as there are of both
abbrev pub over : List Row → List Row → List Row
over [] rs = []
over (y ∷ ys) [] = y ∷ ys
over (y ∷ ys) (r ∷ rs) = r ∷ over ys rs
