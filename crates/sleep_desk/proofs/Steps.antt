-- What each function of this crate leaves to show, over plain values.
-- Assumes nothing.
use Rattle.std.proofs.Common.{◌≡◌, Option, Some, None, ℕ, ◌+◌, ◌%◌, ◌^◌, ◌<◌, Bool, true, false, ◌&&◌, ltb, List, [], ◌∷◌, ◌++◌, get_or, ℤ, pos, negsuc, sym, refl, ap, ◌∙◌, subst, true≢false, arith, to_z-of_z, w32, SFits, to_z, of_z, ltb-false, ltb-true, eq-eqb, ne_eqb, eqb-true, if◌then◌else◌}
use Rattle.std.specs.Option.{is_some, is_none}
use Rattle.rules.specs.declared.Event.{Event}
use Rattle.rules.specs.declared.Arrival.{Arrival}
use Rattle.rules.specs.declared.Action.{Action}
use Rattle.rules.specs.declared.Answer.{Answer}
use Rattle.rules.specs.declared.Refusal.TheVariants.{Over, NoSuchProcessor}
use Rattle.rules.specs.Machine as desk
use Rattle.rules.specs.Machine.{blank, processors, gap, turn}
use Rattle.rules.specs.Answers as answers
use Rattle.rules.specs.Rules.{clock, stopped, refused, arrive}
use Rattle.rules.proofs.Turns.{here_turned}
use Rattle.rules.proofs.Arrivals.{no_such_refused}
use Rattle.ledger.specs.History.{accepted}
use Rattle.events.specs.Promised.{at_processor}
use Rattle.desk.specs.declared.Answered.{Answered}
use Rattle.desk.specs.View as view_of
use Rattle.desk.specs.Promised.{Answers}
use Rattle.sleeps.specs.declared.Operation.{Operation}
use Rattle.sleeps.specs.declared.Turn.{Turn}
use Rattle.sleeps.specs.Rules.{Outcome, pass, ask, tick, step}
use Rattle.sleeping.specs.Promised as sleeping
use Rattle.sleeping.specs.Promised.{Comes}
use Rattle.sleep_desk.specs.declared.Pair.{Pair}
use Rattle.sleep_desk.specs.Rules.{sleep_call, timing_processor, tick_line, gap_told, asks_sleep, goes_up, request, tick_told, asked, heard, quiet, through, gap_of, serve}
use Rattle.sleep_desk.specs.Promised.{Serves, outcome, Kept}
use Rattle.sleep_desk.proofs.Heard.{heard_cases, heard_none, gap_cases}

-- ── Answers so far ──

pub comes_itself : {t : Turn} → Kept t → Comes (outcome t) t
comes_itself k = record { seen = refl; said = refl; good = k.good; whole = k.whole }

pub comes_kept : {o : Outcome} {t : Turn} → Comes o t → Kept t
comes_kept c = record { good = c.good; whole = c.whole }

pub outcome_of : {o : Outcome} {t : Turn} → Comes o t → outcome t ≡ o
outcome_of c = λ i. record { reply = c.said i; after = c.seen i }

pub through_append : (xs ys : List Operation) (o : Outcome) → through (xs ++ ys) o ≡ through ys (through xs o)
unfolding through
through_append [] ys o = refl
through_append (x ∷ xs) ys o = through_append xs ys (step x o.after)

-- ── Call 18, by its bits ──

pub is_sleep : (a : ℤ) → SFits w32 a → of_z w32 a ≡ sleep_call → asks_sleep a ≡ true
is_sleep a f e = ap asks_sleep (sym (to_z-of_z f) ∙ ap (to_z w32) e)

pub no_sleep : (a : ℤ) → (of_z w32 a ≡ sleep_call → ⊥) → asks_sleep a ≡ false
no_sleep (pos n) h = ne_eqb n sleep_call h
no_sleep (negsuc n) h = refl

-- ── Whether there is a refusal ──

pub is_none_is : {A : Type 0} (r : Option A) → is_none r ≡ true → r ≡ None
is_none_is None h = refl
is_none_is (Some x) h = absurd (true≢false (sym h))

pub no_some : {A : Type 0} (r : Option A) → is_some r ≡ false → r ≡ None
no_some None h = refl
no_some (Some x) h = absurd (true≢false h)

-- ── Each way through ──

module _ (o : Outcome) where
  pub gap_elsewhere : (k g : ℕ) → (k ≡ timing_processor → ⊥) → through (gap_told k g) o ≡ o
  unfolding through
  gap_elsewhere k g h = gap_cases (λ os. through os o ≡ o) k g (λ e. absurd (h e)) (λ _. refl)

  pub gap_here : (k g : ℕ) → k ≡ timing_processor → through (gap_told k g) o ≡ pass g o.after
  unfolding through step
  gap_here k g h = gap_cases (λ os. through os o ≡ pass g o.after) k g (λ _. refl) (λ n. absurd (n h))

  pub no_request : (u a1 : ℕ) (a0 : ℤ) (a : Action) → (asks_sleep a0 && goes_up a) ≡ false → through (request u a0 a1 a) o ≡ o
  unfolding through
  no_request u a1 a0 a h = rw h

  pub a_request : (u a1 : ℕ) (a0 : ℤ) (a : Action) → asks_sleep a0 ≡ true → goes_up a ≡ true → through (request u a0 a1 a) o ≡ ask u a1 o.after
  unfolding through step
  a_request u a1 a0 a h up = rw (h, up)

  pub no_tick : (n : ℕ) → (n ≡ tick_line → ⊥) → through (tick_told n) o ≡ o
  unfolding through
  no_tick n h = rw (ne_eqb n tick_line h)

  pub a_tick : (n : ℕ) → n ≡ tick_line → through (tick_told n) o ≡ tick o.after
  unfolding through step
  a_tick n h = rw (eq-eqb n tick_line h)

  pub refused_tells : (u g : ℕ) (x : Arrival) (a : Answer) → (a.refusal ≡ None → ⊥) → through (heard u x g a) o ≡ o
  unfolding through
  refused_tells u g x a h = heard_cases (λ os. through os o ≡ o) u g x a (λ e. absurd (h (is_none_is a.refusal e))) (λ _. refl)

  pub accepted_tells : (u g : ℕ) (x : Arrival) (a : Answer) → a.refusal ≡ None → through (heard u x g a) o ≡ through (asked u x.event a.action) (through (gap_told x.processor g) o)
  accepted_tells u g x a h =
      let gap = gap_told x.processor g in
      let more = asked u x.event a.action in
      heard_cases (λ os. through os o ≡ through more (through gap o)) u g x a (λ _. through_append gap more o) (λ e. absurd (true≢false (sym (ap is_none h) ∙ e)))

-- ── The gap ──

-- an event is accepted only at a processor that is there
pub there : (m : desk.Machine) (x : Arrival) → accepted (arrive m x).answer ≡ true → x.processor < processors m
unfolding refused
there m x h = go (ltb x.processor (processors m)) refl
  where
    told : (b : Bool) → accepted (refused (if b then Over else NoSuchProcessor) m).answer ≡ true → ⊥
    told true e = true≢false (sym e)
    told false e = true≢false (sym e)

    go : (b : Bool) → ltb x.processor (processors m) ≡ b → x.processor < processors m
    go true e = ltb-true x.processor (processors m) e
    go false e = absurd (told (stopped m) (subst (λ (o : answers.Outcome). accepted o.answer ≡ true) (no_such_refused m x (ltb-false x.processor (processors m) e)) h))

-- the reading less the last one at that processor, wrapping
pub gap_wraps : (k : ℕ) (e : Event) (m : desk.Machine) (r last now : ℕ) → k < processors m → last ≡ (get_or m.elsewhere k blank).last → now ≡ clock e
    → r < 2 ^ 32 → now < 2 ^ 32 → last < 2 ^ 32 → (r + last) % 2 ^ 32 ≡ now → r ≡ gap_of (at_processor k e) m
unfolding gap
gap_wraps k e m r last now l seat reads a b c h = let z : (turn k m).last ≡ (get_or m.elsewhere k blank).last = ap (λ (s : desk.Seat). s.last) (here_turned k m l) in omega (arith, z)

-- a gap matters where the event is accepted
heard_alike : (u g f : ℕ) (x : Arrival) (a : Answer) → (accepted a ≡ true → g ≡ f) → heard u x g a ≡ heard u x f a
heard_alike u g f x a h = go (accepted a) refl
  where
    go : (b : Bool) → accepted a ≡ b → heard u x g a ≡ heard u x f a
    go true e = ap (λ (n : ℕ). heard u x n a) (h e)
    go false e = heard_none u g x a e ∙ sym (heard_none u f x a e)

-- ── An event ──

pub serves : (u k g : ℕ) (e : Event) (p : Pair) (d : Answered) (t : Turn) → Answers k e p.machine d
    → Comes (through (heard u (at_processor k e) g d.answer) (quiet (sleeping.view p.sleepers))) t
    → (k < processors (view_of.view p.machine) → g ≡ gap_of (at_processor k e) (view_of.view p.machine))
    → Serves u k e p (record { pair = record { machine = d.machine; sleepers = t.sleepers }; answer = d.answer; slept = t.answer })
unfolding serve
serves u k g e p d t a c same =
    let x = at_processor k e in
    let m = view_of.view p.machine in
    let said : (arrive m x).answer ≡ d.answer = ap (λ (o : answers.Outcome). o.answer) a.seen in
    let alike : heard u x g d.answer ≡ heard u x (gap_of x m) (arrive m x).answer =
    ap (heard u x g) (sym said) ∙ heard_alike u g (gap_of x m) x (arrive m x).answer (λ ok. same (there m x ok)) in
    record { desk = a; sleep = subst (λ (os : List Operation). Comes (through os (quiet (sleeping.view p.sleepers))) t) alike c }
