-- CHOOSING (02, (vi)). Who is run is the first of the high line or of the low one, exactly as the sentence says. This
-- is said of the lines and the count that events and answers tell (History); and those are the machine's.
use Rattle.std.specs.Prelude.{◌≡◌, false, not, List, [], ◌∷◌, ◌++◌, map, ℕ, leb, if◌then◌else◌}
use Rattle.rules.specs.declared.Event.{Event}
use Rattle.rules.specs.declared.Answer.{Answer}
use Rattle.rules.specs.Words.{first, those, front, rest}
use Rattle.rules.specs.Numbers.{most_in_a_row}
use Rattle.rules.specs.Machine.{Process, Waiter, Machine, is_high, low_turn, next_of, counted}
use Rattle.rules.specs.Tables.{slots_of}
use Rattle.ledger.specs.History.{Past, Queues, keeps_running, slot_run, ready_then}

-- ── By what is told ──

-- "first of the high line, or of the low if that is empty, but when four high ones in a row were chosen while a low one
-- was waiting, the first low one": their slot, or nobody where both lines are empty
abbrev pub whose_turn : Queues → List ℕ
whose_turn q = front (if leb most_in_a_row q.four then q.low ++ q.high else q.high ++ q.low)

-- the answer a to an accepted event e after the past h: where whoever ran here does so no longer, or nobody ran, the
-- action is run exactly for the one whose turn it is; nobody's, where it is no run
pub record Choosing (h : Past) (e : Event) (a : Answer) : Type 0 where
  pub in_turn : keeps_running a.action ≡ false → slot_run a.action ≡ whose_turn (ready_then h e a)

-- the lines and the count told are those of the machine
pub record Queued (q : Queues) (m : Machine) : Type 0 where
  pub high : q.high ≡ slots_of m.high
  pub low : q.low ≡ slots_of m.low
  pub four : q.four ≡ m.four
  pub waiting : q.waiting ≡ map (λ w. w.process.slot) m.waiting

-- ── Of the machine: where everybody is before a choice, and after it ──

-- whoever keeps running here, the two ready lines, the count of four, and all who wait
pub record Lists : Type 0 where
  pub on : List Process
  pub high : List Process
  pub low : List Process
  pub four : ℕ
  pub waiting : List Waiter

abbrev pub lists_of : Machine → Lists
lists_of m = record { on = m.running; high = m.high; low = m.low; four = m.four; waiting = m.waiting }

-- these keep running and these wait; who is ready, and the count, as in the machine
abbrev pub placed : List Process → List Waiter → Machine → Lists
placed on waiting m = record { on = on; high = m.high; low = m.low; four = m.four; waiting = waiting }

-- 'in 01 "the ready line" becomes the line of the process's own priority': these join, each at the end of its own
abbrev pub joining : List Process → Lists → Lists
joining ps l = record {
  on = l.on;
  high = l.high ++ those is_high ps;
  low = l.low ++ those (λ p. not (is_high p)) ps;
  four = l.four;
  waiting = l.waiting;
}

-- nobody keeps running: the next is chosen, where somebody is ready, and runs
abbrev pub chosen : Lists → Lists
chosen l =
    first l.on (first (next_of l.high l.low l.four) l λ p. record {
      on = p ∷ [];
      high = if low_turn l.high l.low l.four then l.high else rest l.high;
      low = if low_turn l.high l.low l.four then rest l.low else l.low;
      four = counted l.high l.low l.four;
      waiting = l.waiting;
    }) λ p. l
