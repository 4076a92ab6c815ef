-- THE RULE BOOK of the desk with its sleepers: what one event tells the sleepers, in which order, and what is answered.
-- The desk's rule book and the sleepers' stand as they are.
use Rattle.std.specs.Prelude.{ℕ, Bool, true, false, ◌&&◌, List, [], ◌∷◌, ◌++◌, ℤ, pos, negsuc, ◌==◌, if◌then◌else◌}
use Rattle.rules.specs.declared.Event.{Event}
use Rattle.rules.specs.declared.Event.TheVariants.{Call, Interrupt, Exception}
use Rattle.rules.specs.declared.Arrival.{Arrival}
use Rattle.rules.specs.declared.Cause.{Cause}
use Rattle.rules.specs.declared.Cause.TheVariants.{Tlb, General}
use Rattle.rules.specs.declared.Action.{Action}
use Rattle.rules.specs.declared.Action.TheVariants.{CarryOn, Run, Wait, Halt, Panic, PassUp, Nothing}
use Rattle.rules.specs.declared.Answer.{Answer}
use Rattle.rules.specs.Machine as desk
use Rattle.rules.specs.Machine.{gap, turn}
use Rattle.rules.specs.Answers as answers
use Rattle.rules.specs.Rules.{clock, arrive}
use Rattle.ledger.specs.History.{accepted}
use Rattle.sleeps.specs.declared.Operation.{Operation}
use Rattle.sleeps.specs.declared.Operation.TheVariants.{Gap, Ask, Tick}
use Rattle.sleeps.specs.declared.Follows.TheVariants as follows
use Rattle.sleeps.specs.Rules as sleeps
use Rattle.sleeps.specs.Rules.{answered, step}

-- "call 18"
abbrev pub sleep_call : ℕ
sleep_call = 18

-- (xiii): "Sleep is timed by processor 0's gaps alone."
abbrev pub timing_processor : ℕ
timing_processor = 0

-- 01: "Line 2: all who wait for the pseudo-clock"
abbrev pub tick_line : ℕ
tick_line = 2

-- ── What an event tells the sleepers ──

-- its gap, at processor 0
abbrev pub gap_told : ℕ → ℕ → List Operation
gap_told k g = if timing_processor == k then Gap g ∷ [] else []

-- "call 18", in either mode
abbrev pub asks_sleep : ℤ → Bool
asks_sleep (pos n) = n == sleep_call
asks_sleep (negsuc n) = false

-- 01: "0 for TLB or 1 for general"
abbrev pub general : Cause → Bool
general Tlb = false
general General = true

-- "passed up": 01: "a0 of 1 or more ..: pass up 1 .. or die", and who died asks for nothing
abbrev pub goes_up : Action → Bool
goes_up (CarryOn s) = false
goes_up (Run s) = false
goes_up Wait = false
goes_up Halt = false
goes_up Panic = false
goes_up (PassUp s k) = general k
goes_up Nothing = false

-- "a U-proc asks (call 18, passed up) to sleep a1 seconds": u, whom the host names for the caller
abbrev pub request : ℕ → ℤ → ℕ → Action → List Operation
request u a0 a1 a = if asks_sleep a0 && goes_up a then Ask u a1 ∷ [] else []

-- "At a tick": line 2, on any processor
abbrev pub tick_told : ℕ → List Operation
tick_told n = if n == tick_line then Tick ∷ [] else []

abbrev pub asked : ℕ → Event → Action → List Operation
asked u (Call now mode a0 a1 a2 a3) a = request u a0 a1 a
asked u (Interrupt now n x y) a = tick_told n
asked u (Exception now code) a = []

-- an event x with its gap g and the desk's answer a. "the sum of accepted gaps": a refused event tells nothing, and
-- the gap passes first, so that the sum at a request and at a tick has it
unfoldable pub heard : ℕ → Arrival → ℕ → Answer → List Operation
heard u x g a = if accepted a then gap_told x.processor g ++ asked u x.event a.action else []

-- ── What is answered ──

-- nothing was told
abbrev pub quiet : sleeps.State → sleeps.Outcome
quiet s = answered follows.Nothing [] s

-- operations, one after the other: what is answered is what the last one is
unfoldable pub through : List Operation → sleeps.Outcome → sleeps.Outcome
through [] o = o
through (x ∷ xs) o = through xs (step x o.after)

-- ── One event ──

pub record Pair : Type 0 where
  pub machine : desk.Machine
  pub sleepers : sleeps.State

-- the desk's answer and machine, and beside them the sleepers' answer and the sleepers
pub record Outcome : Type 0 where
  pub desk : answers.Outcome
  pub sleep : sleeps.Outcome

abbrev pub after : Outcome → Pair
after o = record { machine = o.desk.after; sleepers = o.sleep.after }

-- the gap of an event at its processor, as the desk tests and charges it
abbrev pub gap_of : Arrival → desk.Machine → ℕ
gap_of x m = gap (clock x.event) (turn x.processor m)

-- THE RULE: the desk answers as it would alone; the sleepers take what they hear
unfoldable pub serve : ℕ → Arrival → Pair → Outcome
serve u x p =
    let o = arrive p.machine x in
    record { desk = o; sleep = through (heard u x (gap_of x p.machine) o.answer) (quiet p.sleepers) }
