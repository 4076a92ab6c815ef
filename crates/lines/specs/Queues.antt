-- A line with its own count: what its methods do to it.
use Rattle.std.specs.Prelude.{Bool, List, ℕ, ◌+◌, ◌-◌, ◌≤◌, length, replicate, set, take}
use Rattle.rules.specs.Numbers.{base_slots}
use Rattle.rules.specs.Words.{those}
use Rattle.lines.specs.Lines.{InSlots, removed, joined, kept}
use Rattle.lines.specs.declared.queue.Queue.{Queue}

-- nobody stands in it
abbrev pub nobody : Queue
nobody = record { slots = replicate base_slots 0; count = 0 }

-- who stands in it, in order
abbrev pub items : Queue → List ℕ
items q = take q.count q.slots

-- no more than there are places, and each a slot
abbrev pub Slots : Queue → Type 0
Slots q = (q.count ≤ base_slots) × InSlots base_slots (items q)

-- a slot at its end; more behind it
abbrev pub pushed : ℕ → Queue → Queue
pushed s q = record { slots = set q.slots q.count s; count = q.count + 1 }

abbrev pub longer : List ℕ → Queue → Queue
longer more q = record { slots = joined q.slots q.count more; count = q.count + length more }

-- without who stands at a place; only those who pass
abbrev pub without : ℕ → Queue → Queue
without at q = record { slots = removed q.slots q.count at; count = q.count - 1 }

abbrev pub only : (ℕ → Bool) → Queue → Queue
only p q = record { slots = kept p q.slots q.count; count = length (those p (items q)) }
