-- What is promised of the pair, said of whoever calls `event` and `sleeping::end` again and again.
-- Assumes nothing.
use Rattle.std.proofs.Common.{None, ◌≡◌, ℕ, ◌+◌, List, ◌∷◌, map, length, sym, refl, ap, ◌∙◌, subst, ap₂, arith}
use Rattle.rules.specs.declared.Answer as desk
use Rattle.rules.specs.declared.Event.{Event}
use Rattle.rules.specs.Numbers.{base_slots}
use Rattle.rules.specs.Starts.{start_refusal}
use Rattle.rules.specs.Answers as outcome
use Rattle.rules.specs.Rules as rules
use Rattle.rules.specs.Rules.{start}
use Rattle.ledger.specs.History.{beginning, accepted_gap, tally_at}
use Rattle.desk.specs.declared.Started.{Started}
use Rattle.desk.specs.Promised.{Starts}
use Rattle.events.specs.Promised.{at_processor}
use Rattle.sleeps.specs.declared.Answer as sleeps
use Rattle.sleeps.specs.declared.Sleepers.{Sleepers}
use Rattle.sleeps.specs.Rules.{Reply, nobody}
use Rattle.sleeps.specs.Told as sleeps-told
use Rattle.sleeps.specs.Told.{granted, woken}
use Rattle.sleeping.specs.Promised as sleeping
use Rattle.sleeping.specs.Promised.{told}
use Rattle.sleep_desk.specs.declared.Pair.{Pair}
use Rattle.sleep_desk.specs.declared.Served.{Served}
use Rattle.sleep_desk.specs.Rules as book
use Rattle.sleep_desk.specs.Rules.{timing_processor, after, serve}
use Rattle.sleep_desk.specs.Promised.{view, Good, Serves}
use Rattle.sleep_desk.specs.Told.{Happening, ends, next, run, replies, answers, arrivals, Follows, none, served, ended}
use Rattle.sleep_desk.specs.Lawful.{Followed, Lawful}
use Rattle.sleep_desk.proofs.Promises as promises

-- one event: the pair that the rule book says
comes_to : (u k : ℕ) (e : Event) (p : Pair) (r : Served) → Serves u k e p r → view r.pair ≡ after (serve u (at_processor k e) (view p))
unfolding serve
comes_to u k e p r s = λ i. record { machine = sym (ap (λ (o : outcome.Outcome). o.after) s.desk.seen) i; sleepers = s.sleep.seen i }

pub follows : {p q : Pair} {hs : List Happening} {ds : List desk.Answer} {ss : List sleeps.Answer} → Good p → Follows p hs q ds ss → Followed p hs q ds ss
unfolding run replies answers serve
follows g none = record { seen = refl; desk = refl; sleep = refl; good = g }
follows {p} g (served {hs} u k e r s f) =
    let on = follows (record { machine = s.desk.good; sleepers = s.sleep.good }) f in
    let to = comes_to u k e p r s in
    record {
      seen = on.seen ∙ ap (run hs) to;
      desk = ap₂ (λ (a : desk.Answer) (l : List desk.Answer). a ∷ l) (sym (ap (λ (o : outcome.Outcome). o.answer) s.desk.seen)) (on.desk ∙ ap (answers hs) to);
      sleep = ap₂ (λ (a : Reply) (l : List Reply). a ∷ l) s.sleep.said (on.sleep ∙ ap (replies hs) to);
      good = on.good;
    }
follows {p} g (ended {hs} n t c f) =
    let on = follows (record { machine = g.machine; sleepers = c.good }) f in
    let to : view (record { machine = p.machine; sleepers = t.sleepers }) ≡ next (ends n) (view p) = λ i. record { machine = (view p).machine; sleepers = c.seen i } in
    record {
      seen = on.seen ∙ ap (run hs) to;
      desk = on.desk ∙ ap (answers hs) to;
      sleep = ap₂ (λ (a : Reply) (l : List Reply). a ∷ l) c.said (on.sleep ∙ ap (replies hs) to);
      good = on.good;
    }

-- any start that is accepted, sleepers of whom nobody sleeps, any results that meet the promises one after the other
pub lawful : (number now : ℕ) (values ceilings : List ℕ) (hs : List Happening) (s : Started) (z : Sleepers) {q : Pair} {ds : List desk.Answer} {ss : List sleeps.Answer}
    → start_refusal base_slots number values ceilings ≡ None → Starts now values ceilings number s → sleeping.Good z → sleeping.view z ≡ nobody
    → Follows (record { machine = s.machine; sleepers = z }) hs q ds ss → Lawful number now values ceilings hs q ds ss
lawful number now values ceilings hs s z {q} {ds} {ss} ok t g e f =
    let m = start base_slots number now values ceilings in
    let begun : book.Pair = record { machine = m; sleepers = nobody } in
    let at : view (record { machine = s.machine; sleepers = z }) ≡ begun = λ i. record { machine = t.seen i; sleepers = e i } in
    let h = follows (record { machine = t.good; sleepers = g }) f in
    let over : view q ≡ run hs begun = h.seen ∙ ap (run hs) at in
    let alone : ds ≡ rules.answers m (arrivals hs) = h.desk ∙ ap (answers hs) at ∙ (promises.alone m hs).0 in
    let said : map told ss ≡ replies hs begun = h.sleep ∙ ap (replies hs) at in
    record {
      alone = alone;
      machine = ap (λ (p : book.Pair). p.machine) over ∙ (promises.alone m hs).1;
      sleepers = ap (λ (p : book.Pair). p.sleepers) over ∙ promises.as_told m hs;
      counts = subst (λ (p : book.Pair). granted (map told ss) ≡ woken (map told ss) + (sleeps-told.ended (map told ss) + length p.sleepers.asleep)) (sym over)
          (subst (λ (rs : List Reply). granted rs ≡ woken rs + (sleeps-told.ended rs + length (run hs begun).sleepers.asleep)) (sym said) (promises.counts m hs));
      timed = ap (λ (p : book.Pair). p.sleepers.sum) over ∙ promises.timed base_slots number now values ceilings hs (omega arith) ok ∙ ap (tally_at timing_processor accepted_gap (beginning number now) (arrivals hs)) (sym alone);
    }
