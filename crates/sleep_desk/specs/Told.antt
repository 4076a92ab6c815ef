-- ANY LIST OF WHAT HAPPENS: events, each with whom the host names for its caller, and ends of U-procs, which the host
-- tells the sleepers itself. Nothing here is the code's but the last part.
use Rattle.std.specs.Prelude.{ℕ, List, [], ◌∷◌, ◌++◌}
use Rattle.rules.specs.declared.Event.{Event}
use Rattle.rules.specs.declared.Arrival.{Arrival}
use Rattle.rules.specs.declared.Answer as desk
use Rattle.rules.specs.Machine.{Machine}
use Rattle.rules.specs.Rules.{arrive}
use Rattle.events.specs.Promised.{at_processor}
use Rattle.sleeps.specs.declared.Operation.{Operation}
use Rattle.sleeps.specs.declared.Operation.TheVariants.{End}
use Rattle.sleeps.specs.declared.Answer as sleeps
use Rattle.sleeps.specs.declared.Turn.{Turn}
use Rattle.sleeps.specs.Rules.{Reply, step}
use Rattle.sleeping.specs.Promised.{Comes}
use Rattle.sleeping.specs.Promised as sleeping
use Rattle.sleep_desk.specs.declared.Pair.{Pair}
use Rattle.sleep_desk.specs.declared.Served.{Served}
use Rattle.sleep_desk.specs.Rules as book
use Rattle.sleep_desk.specs.Rules.{heard, after, gap_of, serve}
use Rattle.sleep_desk.specs.Promised.{Serves}

pub data Happening : Type 0 where
  comes : ℕ → Arrival → Happening
  ends : ℕ → Happening

-- ── By the rule book ──

abbrev pub next : Happening → book.Pair → book.Pair
next (comes u x) p = after (serve u x p)
next (ends n) p = record { machine = p.machine; sleepers = (step (End n) p.sleepers).after }

-- the sleepers' answer
abbrev pub reply : Happening → book.Pair → Reply
reply (comes u x) p = (serve u x p).sleep.reply
reply (ends n) p = (step (End n) p.sleepers).reply

unfoldable pub run : List Happening → book.Pair → book.Pair
run [] p = p
run (h ∷ hs) p = run hs (next h p)

unfoldable pub replies : List Happening → book.Pair → List Reply
replies [] p = []
replies (h ∷ hs) p = reply h p ∷ replies hs (next h p)

-- the desk's answers
unfoldable pub answers : List Happening → book.Pair → List desk.Answer
answers [] p = []
answers (comes u x ∷ hs) p = (serve u x p).desk.answer ∷ answers hs (next (comes u x) p)
answers (ends n ∷ hs) p = answers hs (next (ends n) p)

-- ── For the desk alone, and for the sleepers alone ──

-- what the desk is told
abbrev pub arrivals : List Happening → List Arrival
arrivals [] = []
arrivals (comes u x ∷ hs) = x ∷ arrivals hs
arrivals (ends n ∷ hs) = arrivals hs

-- what the sleepers are told, by the events, the desk's gaps and its answers: no sleepers are looked at
unfoldable pub operations : List Happening → Machine → List Operation
operations [] m = []
operations (comes u x ∷ hs) m = heard u x (gap_of x m) (arrive m x).answer ++ operations hs (arrive m x).after
operations (ends n ∷ hs) m = End n ∷ operations hs m

-- ── By whoever calls the code ──

-- results that meet the promises of `event` and of `sleeping::end`, one after the other: from a pair to a pair, with
-- the desk's answers and the sleepers'
pub data Follows : Pair → List Happening → Pair → List desk.Answer → List sleeps.Answer → Type 0 where
  none : {p : Pair} → Follows p [] p [] []
  served : {p q : Pair} {hs : List Happening} {ds : List desk.Answer} {ss : List sleeps.Answer} (u k : ℕ) (e : Event) (r : Served)
      → Serves u k e p r → Follows r.pair hs q ds ss → Follows p (comes u (at_processor k e) ∷ hs) q (r.answer ∷ ds) (r.slept ∷ ss)
  ended : {p q : Pair} {hs : List Happening} {ds : List desk.Answer} {ss : List sleeps.Answer} (n : ℕ) (t : Turn)
      → Comes (step (End n) (sleeping.view p.sleepers)) t → Follows (record { machine = p.machine; sleepers = t.sleepers }) hs q ds ss
      → Follows p (ends n ∷ hs) q ds (t.answer ∷ ss)
