-- Several processors, 02, (xiii): one table of what comes of it, and the sums, proved by computing.
use Rattle.rules.specs.Words.{maybe}
use Rattle.std.specs.Prelude.{Option, Some, None}
use mathlib.Core.Path.{◌≡◌, refl}
use mathlib.Core.List.{List, [], ◌∷◌, ◌++◌, map}
use Prim.Native.Nat.{ℕ, suc, ◌-◌}
use lib.IntN.{pos, ℤ}
use lib.ListN.{length, drop, replicate}
use Rattle.rules.specs.declared.Event.{Event}
use Rattle.rules.specs.declared.Event.TheVariants.{Interrupt, Exception}
use Rattle.rules.specs.declared.Arrival.{Arrival}
use Rattle.rules.specs.declared.Action.{Action}
use Rattle.rules.specs.declared.Action.TheVariants.{CarryOn, Run, Wait, Halt, Panic, Nothing}
use Rattle.rules.specs.declared.Answer.{Answer}
use Rattle.rules.specs.Numbers.{base_slots, base_sems, base_customers, start_refusal_number}
use Rattle.rules.specs.Starts.{start_refusal}
use Rattle.rules.specs.Machine.{Machine}
use Rattle.rules.specs.Rules.{start, answers, run, rule_book}
use Rattle.rules.proofs.Examples.{printed, call}

-- the event comes to the processor
abbrev on : ℕ → Event → Arrival
on k e = record { processor = k; event = e }

-- a refusal; an action and nothing beside it; an end: result, slots ended, processors left idle
abbrev no : ℕ → Answer
no n = printed n Nothing None None None 0 0

abbrev does : Action → Answer
does a = printed 0 a None None None 0 0

abbrev ends : Action → Option ℤ → ℕ → ℕ → Answer
ends a r e i = record { refusal = None; action = a; result = r; newborn = None; device = None; woken = 0; ended = e; idled = i }

-- a row: how many processors, the events after the start at clock 0, and the last answers
record Edge : Type 0 where
  number : ℕ
  events : List Arrival
  last : List Answer

abbrev edge : ℕ → List Arrival → List Answer → Edge
edge number events last = record { number = number; events = events; last = last }

-- a start with customer 0 alone, which has every slot
from : ℕ → ℕ → Machine
from number now = start base_slots number now (replicate base_sems 0) (base_slots ∷ replicate (base_customers - 1) 0)

machine : ℕ → Machine
machine number = from number 0

found : Edge → List Answer
found r = let all = answers (machine r.number) r.events in drop (length all - length r.last) all

-- id 1 creates id 2, and a tick at processor 1 runs it there
abbrev both_run : List Arrival
both_run = on 0 (call 10 1 0 0 0) ∷ on 1 (Interrupt 30 2 0 0) ∷ []

edges : List Edge
edges =
    -- "id 1 starts on processor 0": nobody runs on the others
    edge 2 (on 1 (call 10 6 0 0 0) ∷ on 0 (call 10 6 0 0 0) ∷ []) (no 4 ∷ printed 0 (CarryOn 0) (Some (pos 10)) None None 0 0 ∷ [])
    -- "a processor number out of range is refused with 7, after 1"; and before 5
    ∷ edge 2 (on 2 (Interrupt 10 0 0 0) ∷ on 255 (call 10 6 0 0 0) ∷ on 0 (call 10 2 0 0 0) ∷ on 2 (call 20 6 0 0 0) ∷ [])
    (no 7 ∷ no 7 ∷ ends Halt None 1 0 ∷ no 1 ∷ [])
    -- a newborn is not run by an idle processor; "an interrupt of lines 2 to 7 there does" start one
    ∷ edge 2 (on 0 (call 10 1 0 0 0) ∷ on 1 (call 20 6 0 0 0) ∷ on 1 (Interrupt 30 2 0 0) ∷ on 1 (call 35 6 0 0 0) ∷ [])
    (no 4 ∷ does (Run 1) ∷ printed 0 (CarryOn 1) (Some (pos 5)) None None 0 0 ∷ [])
    -- "each has its own last clock reading": processor 1's clock may be behind processor 0's, and not behind its own
    ∷ edge 2 (on 0 (call 50 1 0 0 0) ∷ on 1 (Interrupt 30 2 0 0) ∷ on 1 (call 29 6 0 0 0) ∷ on 0 (call 49 6 0 0 0) ∷ []) (does (Run 1) ∷ no 2 ∷ no 2 ∷ [])
    -- "a processor waits also when another is running somebody; panic needs that nobody runs anywhere"
    ∷ edge 2 (both_run ++ on 0 (call 40 3 0 0 0) ∷ on 1 (call 40 3 0 0 0) ∷ on 0 (call 50 6 0 0 0) ∷ []) (does Wait ∷ does Panic ∷ no 1 ∷ [])
    -- "a wake on one processor doesn't start an idle one": id 1 waits for semaphore 0 on processor 0, id 2 wakes it; a
    -- tick there runs it
    ∷ edge 2 (both_run ++ on 0 (call 40 3 0 0 0) ∷ on 1 (call 50 4 0 0 0) ∷ on 0 (call 60 6 0 0 0) ∷ on 0 (Interrupt 70 2 0 0) ∷ on 0 (call 75 6 0 0 0) ∷ [])
    (does Wait ∷ printed 0 (CarryOn 1) None None None 1 0 ∷ no 4 ∷ does (Run 0) ∷ printed 0 (CarryOn 0) (Some (pos 45)) None None 0 0 ∷ [])
    -- "a kill that ends a process on another processor leaves that one idle and names it in a new mask"
    ∷ edge 2 (both_run ++ on 0 (call 40 2 2 0 0) ∷ on 1 (call 50 6 0 0 0) ∷ on 1 (Interrupt 60 2 0 0) ∷ [])
    (ends (Run 0) (Some (pos 0)) 2 2 ∷ no 4 ∷ does Wait ∷ [])
    -- so does dying of a trap; it may stand beside halt
    ∷ edge 2 (both_run ++ on 0 (Exception 40 0) ∷ []) (ends Halt None 3 2 ∷ [])
    -- a child on processor 1 kills its parent on processor 0: its own processor is not named
    ∷ edge 2 (both_run ++ on 1 (call 40 2 1 0 0) ∷ []) (ends Halt None 3 1 ∷ [])
    -- "schedule": the idle processor does not choose in that answer, even if someone is ready. Id 1 kills id 2, which
    -- ran on processor 1; id 3 is ready and runs on processor 0; then a tick on processor 1 runs id 1
    ∷ edge 2 (both_run ++ on 0 (call 35 1 0 0 0) ∷ on 0 (call 40 2 2 0 0) ∷ on 1 (Interrupt 50 2 0 0) ∷ [])
    (ends (Run 2) (Some (pos 0)) 2 2 ∷ does (Run 0) ∷ [])
    -- two ends elsewhere: id 2 runs on processor 1 and its child, id 3, on processor 2
    ∷ edge 3 (both_run ++ on 1 (call 31 1 0 0 0) ∷ on 2 (Interrupt 32 2 0 0) ∷ on 0 (call 40 2 2 0 0) ∷ on 2 (call 50 6 0 0 0) ∷ [])
    (does (Run 2) ∷ ends (Run 0) (Some (pos 0)) 6 6 ∷ no 4 ∷ [])
    -- id 2 waits for sub-device 0; its interrupt on an idle processor runs it there, and line 1 there does not start
    -- anybody
    ∷ edge 3 (both_run ++ on 1 (call 40 5 0 0 0) ∷ on 2 (Interrupt 45 1 0 0) ∷ on 2 (Interrupt 50 3 1 0) ∷ on 1 (Interrupt 60 2 0 0) ∷ [])
    (printed 0 Wait None None (Some 0) 0 0 ∷ no 4 ∷ printed 0 (Run 1) None None (Some 0) 2 0 ∷ does Wait ∷ [])
    -- 02, (vi): the count of four is one for the machine. Ids 2 and 3 are high, id 4 and id 1 low; four high ones are
    -- chosen, on processors 1, 1, 0 and 1, and then id 4, on processor 0
    ∷ edge 2 (on 0 (call 0 1 0 1 0)
    ∷ on 0 (call 0 1 0 1 0)
    ∷ on 0 (call 0 1 0 0 0)
    ∷ on 1 (Interrupt 0 2 0 0)
    ∷ on 1 (call 0 10 0 0 0)
    ∷ on 0 (call 0 10 0 0 0)
    ∷ on 1 (call 0 10 0 0 0)
    ∷ on 0 (call 0 10 0 0 0)
    ∷ [])
    (does (Run 1) ∷ does (Run 2) ∷ does (Run 1) ∷ does (Run 2) ∷ does (Run 3) ∷ [])
    -- eight processors: id 1 on processor 0 kills id 2, which has run on processor 7
    ∷ edge 8 (on 0 (call 0 1 0 0 0) ∷ on 7 (Interrupt 0 2 0 0) ∷ on 0 (call 0 2 2 0 0) ∷ []) (does (Run 1) ∷ ends (Run 0) (Some (pos 0)) 2 128 ∷ [])
    ∷ []

every_edge : map found edges ≡ map (λ r. r.last) edges
unfolding rule_book from machine found edges
every_edge = refl

-- "a gap during which such a kill came is wholly idle": id 2 ran on processor 1 from 30 to 32, was killed at 40, and
-- the gap from 32 to 60 is idle
times : List Arrival
times = both_run ++ on 1 (call 32 6 0 0 0) ∷ on 0 (call 40 2 2 0 0) ∷ on 1 (Interrupt 60 2 0 0) ∷ []

dead_keeps_its_own : (run (machine 2) times).ended ≡ 2
unfolding rule_book from machine times
dead_keeps_its_own = refl

rest_is_idle : map (λ s. s.idle) (run (machine 2) times).elsewhere ≡ 0 ∷ 58 ∷ []
unfolding rule_book from machine times
rest_is_idle = refl

all_gaps : (run (machine 2) times).total ≡ 100
unfolding rule_book from machine times
all_gaps = refl

-- "id 1 starts on processor 0, all clocks at the start's"; and nothing is here
all_clocks : map (λ s. s.last) (from 3 1000).elsewhere ≡ 1000 ∷ 1000 ∷ 1000 ∷ []
unfolding rule_book from
all_clocks = refl

-- "0 or above 8 is refused with 29, after 27"
abbrev refusal_of : ℕ → ℕ → ℕ
refusal_of ceiling number = maybe (start_refusal base_slots number (replicate base_sems 0) (ceiling ∷ replicate (base_customers - 1) 0)) 0 start_refusal_number

every_start : map (refusal_of base_slots) (0 ∷ 1 ∷ 2 ∷ 8 ∷ 9 ∷ []) ++ map (refusal_of (suc base_slots)) (0 ∷ 1 ∷ []) ≡ 29 ∷ 0 ∷ 0 ∷ 0 ∷ 29 ∷ 27 ∷ 27 ∷ []
unfolding rule_book
every_start = refl
