-- The machine of the rule book that the tables stand for, and the rule that they obey.
use Rattle.std.specs.Prelude.{◌≡◌, ℕ, suc, ◌+◌, ◌<◌, ◌≤◌, List, [], ◌∷◌, ◌++◌, map, length, ◌==◌, nat_lt, slice_index, get_or, Option, Some, None, if◌then◌else◌}
use Rattle.rules.specs.Machine as book
use Rattle.rules.specs.Machine.{Process, Waiter, Seat}
use Rattle.rules.specs.Numbers.{base_slots, base_sems, base_customers, most_processors, time_limit}
use Rattle.lines.specs.Lines.{Line, occ, entry, tally, mask_of_taken}
use Rattle.lines.specs.Queues.{items}
use Rattle.rules.specs.Tables as rule
use Rattle.kin.specs.Families.{elders, Kin}
use Rattle.seats.specs.Seats.{table, held_slot, seat, InSeats}
use Rattle.tables.specs.declared.Tables.{Tables}
use Rattle.tables.specs.Codes.{decode, last_code}

-- ── What a machine stands for ──

-- the process in a slot
abbrev pub row : Tables → ℕ → Process
row m s = record {
  slot = s;
  id = slice_index m.ids s;
  ancestors = elders m.parents m.ids s;
  customer = slice_index m.customers s;
  priority = slice_index m.priorities s;
  handle = slice_index m.handles s;
  time = slice_index m.times s;
}

abbrev pub waiter : Tables → ℕ → Waiter
waiter m s = record { process = row m s; line = decode (slice_index m.lines s) }

-- the slot that runs, or none: the number of slots stands for nobody
abbrev pub occupant : ℕ → List ℕ
occupant r = if nat_lt r base_slots then r ∷ [] else []

-- the slots that run on the other processors, by their numbers
abbrev pub away : List (Option ℕ) → List ℕ
away [] = []
away (c ∷ cs) = held_slot c ++ away cs

-- who runs as a seat has it, a slot or none, and as it is here
abbrev pub seated : ℕ → Option ℕ
seated r = if nat_lt r base_slots then Some r else None

abbrev pub slot_of : Option ℕ → ℕ
slot_of None = base_slots
slot_of (Some s) = s

-- the readings of the processors' seats at a start: processor 0 is here, and so many have the start's
unfoldable pub readings_of : ℕ → ℕ → List ℕ
readings_of now n = 0 ∷ table 7 (λ k. if nat_lt (suc k) n then now else 0)

-- the seat of another processor
abbrev pub seat_at : Tables → ℕ → Seat
seat_at m k = seat (row m) (get_or m.runners k None) (slice_index m.lasts k) (slice_index m.idles k)

-- the high and the low ready line; who is ready, in either
abbrev pub highs : Tables → List ℕ
highs m = items m.high

abbrev pub lows : Tables → List ℕ
lows m = items m.low

abbrev pub readies : Tables → List ℕ
readies m = highs m ++ lows m

abbrev pub waiters : Tables → List ℕ
waiters m = items m.waits

-- the slots of the living: who runs, here and on the other processors, the ready lines, those who wait
abbrev pub seats : Tables → List ℕ
seats m = occupant m.running ++ (away m.runners ++ (readies m ++ waiters m))

abbrev pub view : Tables → book.Machine
view m = record {
  slots = base_slots;
  ceilings = m.ceilings;
  running = map (row m) (occupant m.running);
  high = map (row m) (highs m);
  low = map (row m) (lows m);
  four = m.four;
  waiting = map (waiter m) (waiters m);
  sems = m.sems;
  next = m.next;
  status = m.status;
  last = m.last;
  total = m.total;
  idle = m.idle;
  ended = m.ended;
  elsewhere = table m.processors (seat_at m);
}

-- ── The rule ──

-- 0 for 0, else 1
abbrev pub live : ℕ → ℕ
live x = if x == 0 then 0 else 1

-- how the tables are laid out: whole arrays; three lines with zeros behind them; each taken slot in one place and each
-- free one in none; a line's code exactly where a slot waits; parents alive and older; zeros in free rows and where
-- there is no processor; and the times of all slots, idle of all processors and ended add up
pub record Shape (m : Tables) : Type 0 where
  pub ids_long : length m.ids ≡ base_slots
  pub taken_mask : m.taken ≡ mask_of_taken base_slots m.ids
  pub parents_long : length m.parents ≡ base_slots
  pub customers_long : length m.customers ≡ base_slots
  pub priorities_long : length m.priorities ≡ base_slots
  pub handles_long : length m.handles ≡ base_slots
  pub times_long : length m.times ≡ base_slots
  pub lines_long : length m.lines ≡ base_slots
  pub sems_long : length m.sems ≡ base_sems
  pub ceilings_long : length m.ceilings ≡ base_customers
  pub high_line : Line base_slots m.high.slots m.high.count
  pub low_line : Line base_slots m.low.slots m.low.count
  pub waits_line : Line base_slots m.waits.slots m.waits.count
  pub runner : m.running ≤ base_slots
  pub homes : (s : ℕ) → s < base_slots → occ s (seats m) ≡ live (slice_index m.ids s)
  pub coded : (s : ℕ) → s < base_slots → live (slice_index m.lines s) ≡ occ s (waiters m)
  pub codes : (s : ℕ) → s < base_slots → slice_index m.lines s ≤ last_code
  pub once : (s t : ℕ) → s < base_slots → t < base_slots → 0 < slice_index m.ids s → slice_index m.ids s ≡ slice_index m.ids t → s ≡ t
  pub issued : (s : ℕ) → s < base_slots → slice_index m.ids s < m.next
  pub parent : Kin m.parents m.ids
  pub no_customer : (s : ℕ) → s < base_slots → slice_index m.ids s ≡ 0 → slice_index m.customers s ≡ 0
  pub no_priority : (s : ℕ) → s < base_slots → slice_index m.ids s ≡ 0 → slice_index m.priorities s ≡ 0
  pub no_handle : (s : ℕ) → s < base_slots → slice_index m.ids s ≡ 0 → slice_index m.handles s ≡ 0
  pub no_time : (s : ℕ) → s < base_slots → slice_index m.ids s ≡ 0 → slice_index m.times s ≡ 0
  pub runners_long : length m.runners ≡ most_processors
  pub lasts_long : length m.lasts ≡ most_processors
  pub idles_long : length m.idles ≡ most_processors
  pub some_processor : 1 ≤ m.processors
  pub few_processors : m.processors ≤ most_processors
  pub in_seats : InSeats m.runners
  pub no_runner : (k : ℕ) → m.processors ≤ k → get_or m.runners k None ≡ None
  pub no_last : (k : ℕ) → m.processors ≤ k → slice_index m.lasts k ≡ 0
  pub no_idle : (k : ℕ) → m.processors ≤ k → slice_index m.idles k ≡ 0
  pub spent : m.idle + tally (entry m.idles) most_processors + m.ended + tally (entry m.times) base_slots ≡ m.total
  pub within : m.total ≤ time_limit

-- THE RULE, and the one premise of every public operation: the layout, and the rule book's own rule of what it stands
-- for, between events
pub record Good (m : Tables) : Type 0 where
  pub shape : Shape m
  pub rests : rule.Rests base_slots base_sems base_customers m.processors (view m)
