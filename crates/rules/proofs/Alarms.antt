-- Alarms first, 02, (vi): its edges, one table and one statement, proved by computing. A row is said and read as those
-- of Edges are.
use Rattle.std.specs.Prelude.{Some, None}
use mathlib.Core.Path.{◌≡◌, refl}
use mathlib.Core.List.{List, ◌∷◌, ◌++◌, []}
use Prim.Native.Nat.{ℕ}
use lib.ListN.{replicate}
use Rattle.rules.specs.declared.Event.{Event}
use Rattle.rules.specs.declared.Event.TheVariants.{Interrupt}
use Rattle.rules.specs.declared.Action.TheVariants.{CarryOn, Run, Wait}
use Rattle.rules.specs.declared.Answer.{Answer}
use Rattle.rules.specs.Numbers.{base_slots}
use Rattle.rules.specs.Rules.{rule_book}
use Rattle.rules.proofs.Examples.{printed, call}
use Rattle.rules.proofs.Edges.{Edge, edge, edge_of, three, given, found, answered, expected, created, not_created, runs, killed}

-- a child with this a2; a high one, and a low one
abbrev pub child : ℕ → Event
child a2 = call 0 1 0 a2 0

abbrev pub high : Event
high = child 1

abbrev pub low : Event
low = child 0

-- whoever runs yields; waits for the pseudo-clock; waits for semaphore 0 and raises it; ends itself, or this id
abbrev pub yields : Event
yields = call 0 10 0 0 0

abbrev sleeps : Event
sleeps = call 0 7 0 0 0

abbrev waits : Event
waits = call 0 3 0 0 0

abbrev raises : Event
raises = call 0 4 0 0 0

abbrev pub ends : ℕ → Event
ends n = call 0 2 n 0 0

-- line 1, and line 2
abbrev slice : Event
slice = Interrupt 0 1 0 0

abbrev pub tick : Event
tick = Interrupt 0 2 0 0

-- the one in the slot carries on, these having been woken; the machine waits, these having ended
abbrev goes_on : ℕ → ℕ → Answer
goes_on s w = printed 0 (CarryOn s) None None None w 0

abbrev stands : ℕ → Answer
stands x = printed 0 Wait None None None 0 x

-- Id 1 is low, in slot 0; children come in slots 1, 2, 3, .. , and everyone's id is one more than the slot.
alarms : ℕ → List Edge
alarms n =
    -- five high ones and a low one, all yielding: the fifth choice is the low one, the sixth the fifth high one
    edge n 0 0 (replicate 5 high ++ replicate 6 yields)
    (runs 1 ∷ runs 2 ∷ runs 3 ∷ runs 4 ∷ runs 0 ∷ runs 5 ∷ [])
    -- a high one that yields alone before low ones is chosen again, four times in a row and no more; and again
    ∷ edge n 0 0 (high ∷ low ∷ replicate 11 yields)
    (replicate 4 (runs 1) ++ runs 2 ∷ replicate 4 (runs 1) ++ runs 0 ∷ runs 1 ∷ [])
    -- "or of the low if that is empty": with no high one, the low ones in turn
    ∷ edge n 0 0 (low ∷ low ∷ replicate 3 yields)
    (runs 1 ∷ runs 2 ∷ runs 0 ∷ [])
    -- id 1's slice ends with high ones ready: the first of them runs; theirs end, and they take turns before id 1
    ∷ edge n 0 0 (high ∷ high ∷ replicate 5 slice)
    (runs 1 ∷ runs 2 ∷ runs 1 ∷ runs 2 ∷ runs 0 ∷ [])
    -- nobody is stopped by an alarm: the high one that a tick, or a V, wakes waits until the next choice, before the
    -- low ones
    ∷ edge n 0 0 (high ∷ low ∷ yields ∷ sleeps ∷ tick ∷ yields ∷ [])
    (runs 2 ∷ goes_on 2 2 ∷ runs 1 ∷ [])
    ∷ edge n 0 0 (high ∷ low ∷ yields ∷ waits ∷ raises ∷ yields ∷ [])
    (runs 2 ∷ goes_on 2 2 ∷ runs 1 ∷ [])
    -- so does the one that a sub-device wakes
    ∷ edge n 0 0 (high ∷ low ∷ yields ∷ call 0 5 0 0 0 ∷ Interrupt 0 3 1 0 ∷ yields ∷ [])
    (printed 0 (CarryOn 2) None None (Some 0) 2 0 ∷ runs 1 ∷ [])
    -- a tick wakes a low one, two high ones and a low one: each goes to the end of its own line, in order
    ∷ edge n 0 0 (low ∷ high ∷ low ∷ high ∷ sleeps ∷ sleeps ∷ sleeps ∷ sleeps ∷ tick ∷ sleeps ∷ sleeps ∷ sleeps ∷ sleeps ∷ sleeps ∷ [])
    (runs 2 ∷ runs 4 ∷ runs 1 ∷ runs 3 ∷ goes_on 3 23 ∷ runs 2 ∷ runs 4 ∷ runs 0 ∷ runs 1 ∷ stands 0 ∷ [])
    -- priorities 0, 1, 2, 255, 256 and 257, the last two of customer 1: 1 and 257 are high, and so they run first
    ∷ edge_of (three 5 2 0) 0 0 (child 0 ∷ child 1 ∷ child 2 ∷ child 255 ∷ child 256 ∷ child 257 ∷ replicate 7 sleeps)
    (runs 2 ∷ runs 6 ∷ runs 1 ∷ runs 3 ∷ runs 4 ∷ runs 5 ∷ stands 0 ∷ [])
    -- 257 by customer 0 is customer 1, whose ceiling is one, and high; 256 + 1 by customer 2 is customer 2, whose
    -- ceiling is three, and high, and so is the highest word that is 1 below the unit
    ∷ edge_of (three 1 1 3) 0 0 (child 512 ∷ child 257 ∷ child 257 ∷ yields ∷ sleeps ∷ child 257 ∷ child 4294967041 ∷ child 257 ∷ yields ∷ sleeps ∷ [])
    (created 0 2 1 ∷ created 0 3 2 ∷ not_created 0 ∷ runs 2 ∷ runs 1 ∷ created 1 4 3 ∷ created 1 5 4 ∷ not_created 1 ∷ runs 3 ∷ runs 4 ∷ [])
    -- the count is kept over a wait: the fourth high choice ends itself and its low child, the only ready one; the tick
    -- wakes a low and a high one, and the low one runs
    ∷ edge n 0 0 (high ∷ high ∷ sleeps ∷ sleeps ∷ low ∷ replicate 4 yields ++ ends 0 ∷ tick ∷ yields ∷ [])
    (replicate 4 (runs 2) ++ stands 12 ∷ printed 0 (Run 0) None None None 3 0 ∷ runs 1 ∷ [])
    -- a low one is killed while four were counted: the choice that follows is made with the low line empty, and the
    -- count begins again when it is filled again
    ∷ edge n 0 0 (high ∷ low ∷ sleeps ∷ replicate 3 yields ++ ends 3 ∷ low ∷ replicate 5 yields)
    (replicate 4 (runs 1) ++ killed 1 4 ∷ created 1 4 2 ∷ replicate 4 (runs 1) ++ runs 2 ∷ [])
    -- a low line is emptied by a choice and filled again: the count begins again
    ∷ edge n 0 0 (high ∷ yields ∷ yields ∷ sleeps ∷ low ∷ tick ∷ replicate 6 yields)
    (runs 1 ∷ runs 1 ∷ runs 0 ∷ created 0 3 2 ∷ goes_on 0 2 ∷ replicate 4 (runs 1) ++ runs 2 ∷ runs 1 ∷ [])
    -- a high killer that survives goes behind the other high one, before the low ones, and has its result
    ∷ edge n 0 0 (high ∷ high ∷ low ∷ yields ∷ ends 4 ∷ yields ∷ [])
    (runs 1 ∷ killed 2 8 ∷ runs 1 ∷ [])
    -- it survives alone before low ones: chosen again, and counted
    ∷ edge n 0 0 (high ∷ low ∷ low ∷ yields ∷ ends 4 ∷ replicate 3 yields)
    (killed 1 8 ∷ runs 1 ∷ runs 1 ∷ runs 2 ∷ [])
    ∷ []

every_alarm : answered alarms base_slots ≡ expected alarms base_slots
unfolding rule_book answered expected found given alarms
every_alarm = refl
