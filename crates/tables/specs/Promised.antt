-- What each part of the desk promises: the rule book's change or outcome of the machine that it stands for.
use Rattle.std.specs.Prelude.{◌≡◌, ℕ, Bool, true, false, List, slice_index}
use Rattle.rules.specs.declared.Answer.{Answer}
use Rattle.rules.specs.declared.Action.TheVariants.{Run}
use Rattle.rules.specs.declared.Line.{Line}
use Rattle.rules.specs.declared.Line.TheVariants.{PseudoClock}
use Rattle.rules.specs.Numbers.{base_slots}
use Rattle.rules.specs.Words.{front, those}
use Rattle.rules.specs.Machine as book
use Rattle.rules.specs.Machine.{line, wake, wake_all, kill, family_of}
use Rattle.rules.specs.Answers.{Outcome, doing, mask, left_idle}
use Rattle.choices.specs.Lines.{of_line}
use Rattle.lines.specs.declared.queue.Queue.{Queue}
use Rattle.lines.specs.Queues.{longer}
use Rattle.tables.specs.declared.Tables.{Tables}
use Rattle.tables.specs.declared.Woken.{Woken}
use Rattle.tables.specs.declared.Killed.{Killed}
use Rattle.tables.specs.declared.Settled.{Settled}
use Rattle.kin.specs.Families.{kin}
use Rattle.tables.specs.View.{view, Shape}

-- ── Changes of the tables alone, in the midst of a move ──

-- the same tables, but for the ready lines; but for who runs here and the count of four
abbrev pub put_ready : Queue → Queue → Tables → Tables
put_ready h l m = record { ids = m.ids; taken = m.taken; parents = m.parents; customers = m.customers; priorities = m.priorities; handles = m.handles; times = m.times; lines = m.lines; high = h; low = l; four = m.four; waits = m.waits; running = m.running; sems = m.sems; ceilings = m.ceilings; next = m.next; status = m.status; last = m.last; total = m.total; idle = m.idle; ended = m.ended; runners = m.runners; lasts = m.lasts; idles = m.idles; processors = m.processors }

abbrev pub put_running : ℕ → ℕ → Tables → Tables
put_running r n m = record { ids = m.ids; taken = m.taken; parents = m.parents; customers = m.customers; priorities = m.priorities; handles = m.handles; times = m.times; lines = m.lines; high = m.high; low = m.low; four = n; waits = m.waits; running = r; sems = m.sems; ceilings = m.ceilings; next = m.next; status = m.status; last = m.last; total = m.total; idle = m.idle; ended = m.ended; runners = m.runners; lasts = m.lasts; idles = m.idles; processors = m.processors }

-- whose ready line is the high one, or the low one, by slot
abbrev pub own_line : Bool → Tables → ℕ → Bool
own_line high m s = of_line high (slice_index m.priorities s)

-- these join their ready lines, each at the end of its own, in their order
abbrev pub lined_up : List ℕ → Tables → Tables
lined_up us m = put_ready (longer (those (own_line true m) us) m.high) (longer (those (own_line false m) us) m.low) m

-- who was chosen runs, and the choice is counted
abbrev pub run_next : ℕ → ℕ → Answer → Tables → Settled
run_next slot count x m = record { tables = put_running slot count m; answer = doing (Run slot) x }

-- ── On the way of an event: the layout holds all along ──

-- a change of the machine
pub record Step (f : book.Machine → book.Machine) (m r : Tables) : Type 0 where
  pub seen : view r ≡ f (view m)
  pub shape : Shape r

-- what the rule book comes to is this machine and this answer
pub record Comes (o : Outcome) (r : Settled) : Type 0 where
  pub seen : o ≡ record { after = view r.tables; answer = r.answer }
  pub shape : Shape r.tables

-- the first in a line becomes ready, and the mask of who that was
pub record Wakes (l : Line) (m : Tables) (r : Woken) : Type 0 where
  pub seen : view r.tables ≡ wake l (view m)
  pub told : r.woken ≡ mask (front (line l (view m)))
  pub still : r.tables.running ≡ m.running
  pub shape : Shape r.tables

-- all who wait for the pseudo-clock become ready
pub record Ticks (m : Tables) (r : Woken) : Type 0 where
  pub seen : view r.tables ≡ wake_all PseudoClock (view m)
  pub told : r.woken ≡ mask (line PseudoClock (view m))
  pub still : r.tables.running ≡ m.running
  pub shape : Shape r.tables

-- who has the id n ends with its descendants; whoever ran runs on, unless it is one of them
pub record Kills (n : ℕ) (m : Tables) (r : Killed) : Type 0 where
  pub seen : view r.tables ≡ kill n (view m)
  pub told : r.ended ≡ mask (family_of n (view m))
  pub told_idle : r.idled ≡ left_idle n (view m)
  pub gone : kin m.parents m.ids n m.running ≡ true → r.tables.running ≡ base_slots
  pub stays : kin m.parents m.ids n m.running ≡ false → r.tables.running ≡ m.running
  pub shape : Shape r.tables
