-- How a machine of the former rule book is a machine of the rule book.
use Rattle.std.specs.Prelude.{[], ◌∷◌}
use Rattle.rules.specs.Machine.{Machine, blank}
use Rattle.former.specs.Former

-- a machine of one processor, which is here: the one seat is blank
abbrev pub grown : Former.Machine → Machine
grown m = record {
  slots = m.slots;
  ceilings = m.ceilings;
  running = m.running;
  high = m.high;
  low = m.low;
  four = m.four;
  waiting = m.waiting;
  sems = m.sems;
  next = m.next;
  status = m.status;
  last = m.last;
  total = m.total;
  idle = m.idle;
  ended = m.ended;
  elsewhere = blank ∷ [];
}
