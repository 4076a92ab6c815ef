-- The rule that a pager obeys: the rows name exactly the present entries, each in its frame; a frame in transfer has a
-- free row;
-- the hand stays in the pool. It is the one premise of an event. proofs/Ruled: a fresh pager obeys it, and every event
-- keeps it.
use Rattle.std.specs.Prelude.{◌≡◌, List, ℕ, suc, ◌≤◌, ◌<◌, length}
use Rattle.pages.specs.declared.Row.{Row}
use Rattle.pages.specs.declared.Table.{Table}
use Rattle.pages.specs.declared.Transfer.{Transfer}
use Rattle.pages.specs.declared.Transfer.TheVariants.{Closed, Writing, Reading}
use Rattle.pages.specs.declared.Pager.{Pager}
use Rattle.pages.specs.Numbers.{u_procs, width, frames}
use Rattle.pages.specs.Rules.{table, entry, row, held}

-- a U-proc and an entry of its table
pub record Page (u e : ℕ) : Type 0 where
  pub from : 1 ≤ u
  pub upto : u ≤ u_procs
  pub entries : e < width

-- the row is that of a page that is present in frame f
pub record Seated (ts : List Table) (f : ℕ) (r : Row) : Type 0 where
  pub page : Page r.owner r.page
  pub lies : entry ts r.owner r.page ≡ suc f

-- "the rows name exactly the present entries, each in its frame": every owned row a present entry, and every present
-- entry its frame's row
pub record Matches (ts : List Table) (rs : List Row) : Type 0 where
  pub eight : length ts ≡ u_procs
  pub wide : (u : ℕ) → 1 ≤ u → u ≤ u_procs → length (table ts u).entries ≡ width
  pub sixteen : length rs ≡ frames
  pub named : (f : ℕ) → f < frames → 1 ≤ (row rs f).owner → Seated ts f (row rs f)
  pub present : (u e f : ℕ) → Page u e → entry ts u e ≡ suc f → (f < frames) × (row rs f ≡ held u e)

-- "a frame in transfer having a free row"; "a new page is marked present after its block is read": until then it is
-- absent
pub record Waits (ts : List Table) (rs : List Row) (f u e : ℕ) : Type 0 where
  pub frame : f < frames
  pub empty : (row rs f).owner ≡ 0
  pub page : Page u e
  pub absent : entry ts u e ≡ 0

-- "An evicted page is marked absent before its block is written"
pub record Left (ts : List Table) (r : Row) : Type 0 where
  pub page : Page r.owner r.page
  pub absent : entry ts r.owner r.page ≡ 0

abbrev pub Open : List Table → List Row → Transfer → Type 0
Open ts rs Closed = Unit {0}
Open ts rs (Writing f u e old) = Waits ts rs f u e × Left ts old
Open ts rs (Reading f u e) = Waits ts rs f u e

pub record Ruled (p : Pager) : Type 0 where
  pub matches : Matches p.tables p.rows
  pub hand : p.hand < frames
  pub opened : Open p.tables p.rows p.transfer
