-- `requested`: call 18, passed up, and nothing else. Assumes nothing.
use Rattle.std.proofs.Common.{◌≡◌, true, false, sym, ◌∙◌}
use Rattle.sleeping.proofs.Steps.{comes_by}
use Rattle.sleep_desk.specs.Rules.{asks_sleep, goes_up}
use Rattle.sleep_desk.specs.Promised.{outcome}
use Rattle.sleep_desk.proofs.Steps.{comes_itself, is_sleep, no_sleep, no_request, a_request}
use Rattle.sleep_desk.proofs.requested.Goals as goal

pub returns-then-a0-ne-SLEEP : goal.returns-then-a0-ne-SLEEP
returns-then-a0-ne-SLEEP c =
    let s = c.args in
    comes_by (no_request (outcome s.turn) s.number s.a1 s.a0 s.action (rw (no_sleep s.a0 c.if-a0-ne-SLEEP.true))) (comes_itself c.requires)

pub returns-then-not-goes_up : goal.returns-then-not-goes_up
returns-then-not-goes_up c =
    let asks : asks_sleep c.args.a0 ≡ true = is_sleep c.args.a0 c.ranges.a0 c.if-a0-ne-SLEEP.false in
    let s = c.args in
    let up = c.goes_up in
    let stays : goes_up s.action ≡ false = sym up.ensures ∙ c.if-not-goes_up.true in
    comes_by (no_request (outcome s.turn) s.number s.a1 s.a0 s.action (rw (asks, stays))) (comes_itself c.requires)

pub returns : goal.returns
returns c =
    let asks : asks_sleep c.args.a0 ≡ true = is_sleep c.args.a0 c.ranges.a0 c.if-a0-ne-SLEEP.false in
    let s = c.args in
    let up = c.goes_up in
    comes_by (a_request (outcome s.turn) s.number s.a1 s.a0 s.action asks (sym up.ensures ∙ c.if-not-goes_up.false)) c.ask.ensures
