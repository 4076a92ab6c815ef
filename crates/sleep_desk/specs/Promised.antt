-- What the pair in code stands for, and what an event promises: the desk's promise as it stands, and the sleepers'.
use Rattle.std.specs.Prelude.{ℕ}
use Rattle.rules.specs.declared.Event.{Event}
use Rattle.events.specs.Promised.{at_processor}
use Rattle.desk.specs.View as desk
use Rattle.desk.specs.Promised.{Answers}
use Rattle.sleeps.specs.declared.Turn.{Turn}
use Rattle.sleeps.specs.Rules as sleeps
use Rattle.sleeping.specs.Promised as sleeping
use Rattle.sleeping.specs.Promised.{Comes, Whole, told}
use Rattle.sleep_desk.specs.declared.Pair.{Pair}
use Rattle.sleep_desk.specs.declared.Served.{Served}
use Rattle.sleep_desk.specs.Rules as book
use Rattle.sleep_desk.specs.Rules.{serve}

abbrev pub view : Pair → book.Pair
view p = record { machine = desk.view p.machine; sleepers = sleeping.view p.sleepers }

-- THE RULE of the pair, and the one premise: the machine's own and the sleepers' own, and nothing between them
pub record Good (p : Pair) : Type 0 where
  pub machine : desk.Good p.machine
  pub sleepers : sleeping.Good p.sleepers

-- an event at a processor, and whom the host names for its caller
pub record Serves (u k : ℕ) (e : Event) (p : Pair) (r : Served) : Type 0 where
  pub desk : Answers k e p.machine (record { machine = r.pair.machine; answer = r.answer })
  pub sleep : Comes (serve u (at_processor k e) (view p)).sleep (record { answer = r.slept; sleepers = r.pair.sleepers })

-- ── Between the functions: an answer of the sleepers so far ──

abbrev pub outcome : Turn → sleeps.Outcome
outcome t = record { reply = told t.answer; after = sleeping.view t.sleepers }

pub record Kept (t : Turn) : Type 0 where
  pub good : sleeping.Good t.sleepers
  pub whole : Whole t.answer
