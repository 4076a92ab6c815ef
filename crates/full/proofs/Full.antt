-- The edges of 02, (ii), tried again "with 63 and 64 alive", (v), and a table that is full of one family: of n slots,
-- proved by computing at several n.
use Rattle.std.specs.Prelude.{None}
use mathlib.Core.Path.{◌≡◌, refl}
use mathlib.Core.List.{List, ◌∷◌, ◌++◌, map, []}
use Prim.Native.Nat.{ℕ, zero, suc, ◌+◌, ◌-◌, ◌%◌}
use lib.ListN.{replicate}
use Rattle.rules.specs.declared.Event.{Event}
use Rattle.rules.specs.declared.Event.TheVariants.{Interrupt}
use Rattle.rules.specs.declared.Action.{Action}
use Rattle.rules.specs.declared.Action.TheVariants.{CarryOn, Run, Wait, Halt, Panic, Nothing}
use Rattle.rules.specs.declared.Answer.{Answer}
use Rattle.rules.specs.Rules.{rule_book}
use Rattle.rules.proofs.Examples.{printed, call}
use Rattle.rules.proofs.Edges.{Edge, edge_of, edge, given, found, creates, create_for, created, not_created, runs, killed, below, dealt}

-- these events, so many times
times : ℕ → List Event → List Event
times zero es = []
times (suc n) es = es ++ times n es

-- a number of slots and a slot in the middle; as masks that slot alone, the last one alone, every slot but slot 0, and
-- every slot
record Size : Type 0 where
  slots : ℕ
  middle : ℕ
  middle_bit : ℕ
  last_bit : ℕ
  other_bits : ℕ
  bits : ℕ

abbrev size : ℕ → ℕ → ℕ → ℕ → ℕ → ℕ → Size
size n middle middle_bit last_bit other_bits bits = record { slots = n; middle = middle; middle_bit = middle_bit; last_bit = last_bit; other_bits = other_bits; bits = bits }

-- the machine halts or panics, and these ended with the event; these became ready, and somebody runs or carries on
abbrev stops : Action → ℕ → Answer
stops a x = printed 0 a None None None 0 x

abbrev wakes : Action → ℕ → Answer
wakes a w = printed 0 a None None None w 0

-- after either, every event
abbrev refused : Answer
refused = printed 1 Nothing None None None 0 0

-- with all n slots taken
full_edges : Size → List Edge
full_edges z =
    given z.slots λ n.
    -- one customer with all the places: creates with two places left, with one (the last slot), and with none (−1)
    edge n 0 0 (creates n)
    (created 0 (n - 1) (n - 2) ∷ created 0 n (n - 1) ∷ not_created 0 ∷ [])
    -- customer 1 with all places but id 1's: it fills them by itself up to the last slot, and then neither it nor
    -- customer 0 gets one more
    ∷ edge_of (1 ∷ (n - 1) ∷ replicate 7 0) 0 0 (create_for 1 ∷ call 0 10 0 0 0 ∷ creates (n - 1) ++ call 0 10 0 0 0 ∷ create_for 1 ∷ create_for 0 ∷ [])
    (created 1 n (n - 1) ∷ not_created 1 ∷ runs 0 ∷ not_created 0 ∷ not_created 0 ∷ [])
    -- nine customers, each filled to its last place: every create is granted, in slot after slot, and then each
    -- customer is denied one more
    ∷ edge_of (dealt n) 0 0 (map (λ k. create_for (suc k % 9)) (below (n - 1)) ++ map create_for (below 9))
    (map (λ k. created 0 (k + 2) (k + 1)) (below (n - 1)) ++ replicate 9 (not_created 0))
    -- the last slot is freed, and the next newborn has it, with a new id; then one in the middle
    ∷ edge n 0 0 (creates n ++ call 0 2 n 0 0 ∷ create_for 0 ∷ call 0 2 (z.middle + 1) 0 0 ∷ create_for 0 ∷ create_for 0 ∷ [])
    (killed 1 z.last_bit ∷ created 1 (n + 1) (n - 1) ∷ killed 2 z.middle_bit ∷ created 2 (n + 2) z.middle ∷ not_created 2 ∷ [])
    -- both are freed, the last one first: the lower one is taken first
    ∷ edge n 0 0 (creates n ++ call 0 2 n 0 0 ∷ call 0 2 (z.middle + 1) 0 0 ∷ create_for 0 ∷ create_for 0 ∷ create_for 0 ∷ [])
    (killed 1 z.last_bit ∷ killed 2 z.middle_bit ∷ created 2 (n + 1) z.middle ∷ created 2 (n + 2) (n - 1) ∷ not_created 2 ∷ [])
    -- a tick wakes all but whoever runs
    ∷ edge n 0 0 (creates n ++ call 0 10 0 0 0 ∷ times (n - 1) (call 0 7 0 0 0 ∷ []) ++ Interrupt 0 2 0 0 ∷ call 0 10 0 0 0 ∷ [])
    (runs 0 ∷ wakes (CarryOn 0) z.other_bits ∷ runs 1 ∷ [])
    -- everyone waits for it: it wakes them all, and the first that came runs
    ∷ edge n 0 0 (creates n ++ times n (call 0 7 0 0 0 ∷ []) ++ Interrupt 0 2 0 0 ∷ [])
    (printed 0 Wait None None None 0 0 ∷ wakes (Run 0) z.bits ∷ [])
    -- the whole table ends, a broad family: id 1 ends itself; the last one, of customer 0, ends id 1
    ∷ edge n 0 0 (creates n ++ call 0 2 0 0 0 ∷ call 0 1 0 0 0 ∷ [])
    (stops Halt z.bits ∷ refused ∷ [])
    ∷ edge n 0 0 (creates n ++ times (n - 1) (call 0 10 0 0 0 ∷ []) ++ call 0 2 1 0 0 ∷ [])
    (runs (n - 1) ∷ stops Halt z.bits ∷ [])
    -- a deep one, each the child of the one before, all but the last waiting: the last ends id 2, and with it all but
    -- id 1, which waits on: panic
    ∷ edge n 0 0 (times (n - 1) (call 0 1 0 0 0 ∷ call 0 3 0 0 0 ∷ []) ++ call 0 2 2 0 0 ∷ [])
    (created (n - 2) n (n - 1) ∷ runs (n - 1) ∷ stops Panic z.other_bits ∷ [])
    -- the last ends id 1, and with it all: halt
    ∷ edge n 0 0 (times (n - 1) (call 0 1 0 0 0 ∷ call 0 3 0 0 0 ∷ []) ++ call 0 2 1 0 0 ∷ [])
    (stops Halt z.bits ∷ [])
    -- everyone waits on a semaphore: panic, and after it 1
    ∷ edge n 0 0 (creates n ++ times n (call 0 3 0 0 0 ∷ []) ++ call 0 4 0 0 0 ∷ [])
    (runs (n - 1) ∷ stops Panic 0 ∷ refused ∷ [])
    ∷ []

-- as many as a mask has bits for, 01's number, and few
sizes : List Size
sizes =
    size 64 31 2147483648 9223372036854775808 18446744073709551614 18446744073709551615
    ∷ size 20 9 512 524288 1048574 1048575
    ∷ size 7 3 8 64 126 127
    ∷ []

every_full : map (λ z. map (found z.slots) (full_edges z)) sizes ≡ map (λ z. map (λ r. r.last) (full_edges z)) sizes
unfolding rule_book found creates given below dealt times full_edges sizes
every_full = refl
