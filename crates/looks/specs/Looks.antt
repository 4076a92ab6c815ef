-- What a host sees of a machine: each thing said of the rule book's machine, for every slot and every number.
use Rattle.std.specs.Prelude.{Bool, List, [], ◌∷◌, ◌++◌, map, ℕ, suc, ◌-◌, eqb, length, get_or, replicate, if◌then◌else◌, Option, Some, None}
use Rattle.rules.specs.Words.{first, those, any}
use Rattle.rules.specs.Numbers.{base_slots}
use Rattle.rules.specs.Tables.{slots_of, idle_time}
use Rattle.rules.specs.Machine as book
use Rattle.rules.specs.Machine.{Process, living, blank}
use Rattle.looks.specs.declared.Place.{Place}
use Rattle.looks.specs.declared.Place.TheVariants.{Nowhere, Running, High, Low, Waiting}
use Rattle.looks.specs.declared.Totals.{Totals}
use Rattle.looks.specs.declared.Row.{Row}
use Rattle.lines.specs.declared.queue.Queue.{Queue}

-- ── Who ──

-- a processor's seat, blank where there is no such processor
abbrev pub seat_of : ℕ → book.Machine → book.Seat
seat_of k m = get_or m.elsewhere k blank

-- the slot of whoever runs on a processor, or absent
abbrev pub who_runs : ℕ → book.Machine → Option ℕ
who_runs k m = first (seat_of k m).running None λ p. Some p.slot

-- the process is in the slot
abbrev pub sits : ℕ → Process → Bool
sits s p = eqb p.slot s

-- who of the living is in a slot: nobody, or one
abbrev pub who_is_in : ℕ → book.Machine → List Process
who_is_in s m = those (sits s) (living m)

-- a number of the process in a slot; 0 where nobody is there
abbrev pub of_slot : (Process → ℕ) → ℕ → book.Machine → ℕ
of_slot f s m = first (who_is_in s m) 0 f

-- "the parent's, 0 for id 1": the first of the ancestors
abbrev pub parent_of : Process → ℕ
parent_of p = first p.ancestors 0 λ n. n

-- ── Where ──

-- the number, counted from k, of the processor on which the process in a slot runs: none, or one
unfoldable pub processor_of : ℕ → ℕ → List book.Seat → List ℕ
processor_of s k [] = []
processor_of s k (x ∷ xs) = if any (sits s) x.running then k ∷ [] else processor_of s (suc k) xs

-- in the high or the low ready line, in the waiting line that it came to, or nowhere
unfoldable pub line_at : ℕ → book.Machine → Place
line_at s m =
    if any (sits s) m.high then High
    else (if any (sits s) m.low then Low
    else first (those (λ w. sits s w.process) m.waiting) Nowhere (λ w. Waiting w.line))

-- running on a processor, or in a line, or nowhere: between events nobody runs but in a seat
unfoldable pub place_at : ℕ → book.Machine → Place
place_at s m = first (processor_of s 0 m.elsewhere) (line_at s m) Running

-- the whole row of a slot
abbrev pub row_at : ℕ → book.Machine → Row
row_at s m = record {
  id = of_slot (λ p. p.id) s m;
  parent = of_slot parent_of s m;
  customer = of_slot (λ p. p.customer) s m;
  priority = of_slot (λ p. p.priority) s m;
  handle = of_slot (λ p. p.handle) s m;
  time = of_slot (λ p. p.time) s m;
  place = place_at s m;
}

-- slots in order, and how many; the places behind are zero
abbrev pub in_order : List ℕ → Queue
in_order l = record { slots = l ++ replicate (base_slots - length l) 0; count = length l }

-- the two ready lines, first come first; all who wait, in the order in which they came
abbrev pub highs_in_order : book.Machine → Queue
highs_in_order m = in_order (slots_of m.high)

abbrev pub lows_in_order : book.Machine → Queue
lows_in_order m = in_order (slots_of m.low)

abbrev pub waiting_in_order : book.Machine → Queue
waiting_in_order m = in_order (map (λ w. w.process.slot) m.waiting)

-- ── The machine ──

-- the sum of the accepted gaps, idle time of all processors and ended time
abbrev pub sums : book.Machine → Totals
sums m = record { gaps = m.total; idle = idle_time m; ended = m.ended }
