-- An event at a processor, over tables alone: there is none, or the machine turns to it and back.
-- Assumes nothing.
use Rattle.std.proofs.Common.{◌≡◌, ℕ, ◌<◌, ◌≤◌, Bool, true, false, ltb, sym, refl, ap, ◌∙◌, subst, ap₂, arith, ltb-false, ltb-true, lt-ltb, if◌then◌else◌, Option, Some, None}
use Rattle.rules.specs.declared.Event.{Event}
use Rattle.rules.specs.declared.Answer.{Answer}
use Rattle.rules.proofs.Cases.{or_true}
use Rattle.rules.specs.Numbers.{base_slots, base_sems, base_customers}
use Rattle.rules.specs.declared.Refusal.{Refusal}
use Rattle.rules.specs.declared.Refusal.TheVariants.{Over, NoSuchProcessor}
use Rattle.rules.specs.declared.Status.TheVariants.{On}
use Rattle.rules.specs.Machine as book
use Rattle.rules.specs.Machine.{processors, turn}
use Rattle.rules.specs.Answers.{Outcome, refusing, plain}
use Rattle.rules.specs.Rules.{stopped, refusal, refused, reaches, step, seated_again, arrive}
use Rattle.rules.specs.Tables as rule
use Rattle.rules.proofs.Tables.{keeps, tables_turned, rests}
use Rattle.rules.proofs.Turns.{many_turned}
use Rattle.rules.proofs.Arrivals.{arrives_in, no_such_refused, no_such, refused_at, over_at}
use Rattle.seats.proofs.Tabled.{table_long}
use Rattle.tables.specs.declared.Tables.{Tables}
use Rattle.tables.specs.declared.Settled.{Settled}
use Rattle.tables.specs.View.{seat_at, view, Shape, Good}
use Rattle.tables.specs.Promised.{Step, Comes}
use Rattle.tables.proofs.Unique.{view_unique}
use Rattle.events.specs.Promised.{Holds, at_processor, refusal_at, Answers}
use Rattle.events.proofs.Eventful.{stops, goes_on}

-- how many processors there are, in the rule book and in the tables
pub as_many : (m : Tables) → processors (view m) ≡ m.processors
as_many m = table_long m.processors (seat_at m)

-- the rule, from that of so many processors
pub good_of : (m : Tables) (n : ℕ) → Shape m → rule.Rests base_slots base_sems base_customers n (view m) → Good m
good_of m n g r = record { shape = g; rests = subst (λ (k : ℕ). rule.Rests base_slots base_sems base_customers k (view m)) (sym r.tables.processors_there ∙ as_many m) r }

pub holds_of : (m : Tables) (n : ℕ) → Shape m → rule.Tables base_slots base_sems base_customers n (view m) → Holds m
holds_of m n g t = record { shape = g; tables = subst (λ (k : ℕ). rule.Tables base_slots base_sems base_customers k (view m)) (sym t.processors_there ∙ as_many m) t }

-- a refused event leaves the rule book's machine as it was
as_it_was : (k : ℕ) (e : Event) (m : book.Machine) → (refusal_at k e m ≡ None → ⊥) → (arrive m (at_processor k e)).after ≡ m
unfolding refused reaches
as_it_was k e m told = go (ltb k (processors m)) refl
  where
    by_refusal : k < processors m → (o : Option Refusal) → refusal (turn k m) e ≡ o → (arrive m (at_processor k e)).after ≡ m
    by_refusal l None h = absurd (told (rw (lt-ltb k (processors m) l, or_true (stopped m)) h))
    by_refusal l (Some r) h = ap (λ (o : Outcome). o.after) (refused_at m (at_processor k e) r l h)

    go : (b : Bool) → ltb k (processors m) ≡ b → (arrive m (at_processor k e)).after ≡ m
    go true q = by_refusal (ltb-true k (processors m) q) (refusal (turn k m) e) refl
    go false q = no_such m (at_processor k e) (ltb-false k (processors m) q)

module _ (m : Tables) (g : Good m) (k : ℕ) (e : Event) (r : Settled) where
  -- what meets the rule book's outcome, in tables that are laid out, meets the promise
  answers_by : arrive (view m) (at_processor k e) ≡ record { after = view r.tables; answer = r.answer } → Shape r.tables → Answers k e m r
  answers_by seen shape =
      let after : (arrive (view m) (at_processor k e)).after ≡ view r.tables = ap (λ (o : Outcome). o.after) seen in
      record {
        seen = seen;
        same = λ told. view_unique r.tables m shape g.shape (sym after ∙ as_it_was k e (view m) told);
        good = good_of r.tables m.processors shape (subst (rule.Rests base_slots base_sems base_customers m.processors) after (rests base_slots base_sems base_customers m.processors (view m) (at_processor k e) g.rests));
      }

  says_no : (w : Refusal) → arrive (view m) (at_processor k e) ≡ refused w (view m) → r.tables ≡ m → r.answer ≡ refusing w plain → Answers k e m r
  unfolding refused
  says_no w h same told = answers_by (h ∙ ap₂ (λ (a : Tables) (b : Answer). record { after = view a; answer = b }) (sym same) (sym told)) (subst Shape (sym same) g.shape)

  -- 1 before 7
  pub over_answers : (m.status ≡ On → ⊥) → r.tables ≡ m → r.answer ≡ refusing Over plain → Answers k e m r
  over_answers h = says_no Over (over_at (view m) (at_processor k e) (stops m h))

  pub none_answers : m.status ≡ On → m.processors ≤ k → r.tables ≡ m → r.answer ≡ refusing NoSuchProcessor plain → Answers k e m r
  none_answers on past =
      says_no NoSuchProcessor (
      no_such_refused (view m) (at_processor k e) (omega (arith, as_many m, past))
      ∙ ap (λ (b : Bool). refused (if b then Over else NoSuchProcessor) (view m)) (goes_on m on)
      )

-- there is such a processor: b is the machine turned to it
module _ (m : Tables) (g : Good m) (k : ℕ) (l : k < m.processors) (b : Tables) (there : Step (turn k) m b) where
  pub there_holds : Holds b
  there_holds =
      holds_of b m.processors there.shape
      (subst (rule.Tables base_slots base_sems base_customers m.processors) (sym there.seen) (tables_turned base_slots base_sems base_customers m.processors k (view m) g.rests.tables))

  module _ (e : Event) (d : Settled) (does : Comes (step (view b) e) d) where
    pub low_back : k < d.tables.processors
    low_back =
        omega (
          arith,
          l,
          (keeps base_slots base_sems base_customers b.processors (view b) e there_holds.tables).processors_there,
          ap (λ (o : Outcome). processors o.after) does.seen,
          as_many d.tables,
          as_many b,
          ap processors there.seen,
          many_turned k (view m),
          as_many m,
        )

    pub arrives_answers : (c : Tables) → Step (turn k) d.tables c → Answers k e m (record { tables = c; answer = d.answer })
    arrives_answers c back =
        answers_by m g k e (record { tables = c; answer = d.answer }) (
        arrives_in (view m) (at_processor k e) (omega (arith, as_many m, l))
        ∙ ap (λ (n : book.Machine). seated_again k (step n e)) (sym there.seen)
        ∙ ap (seated_again k) does.seen
        ∙ ap (λ (n : book.Machine). record { after = n; answer = d.answer }) (sym back.seen)
        ) back.shape
