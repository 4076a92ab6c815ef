-- What events make of a start obeys the rule; and the least start ends its id 1 at once.
-- Assumes nothing.
use Rattle.std.proofs.Common.{◌≡◌, ℕ, zero, suc, ◌<◌, ◌≤◌, List, length, get_or, negsuc, sym, ap, ◌∙◌, subst, arith}
use Rattle.rules.specs.declared.Mode.TheVariants.{Kernel}
use Rattle.rules.specs.declared.Event.TheVariants.{Call}
use Rattle.rules.specs.declared.Arrival.{Arrival}
use Rattle.rules.specs.Numbers.{base_slots, base_sems, base_customers, top}
use Rattle.rules.specs.Starts.{too_large, not_allowed, bad_number, start_refusal, started}
use Rattle.rules.specs.Machine.{processors, turn, fresh}
use Rattle.rules.specs.Answers.{Outcome}
use Rattle.rules.specs.Rules.{least_ceilings, nothing_left, step, start, run}
use Rattle.rules.specs.Tables as rule
use Rattle.rules.proofs.Tables.{keeps, fresh_tables, start_rests, rests_all}
use Rattle.tables.specs.declared.Tables.{Tables}
use Rattle.tables.specs.declared.Settled.{Settled}
use Rattle.tables.specs.View.{view, Shape, Good}
use Rattle.tables.specs.Promised.{Step, Comes}
use Rattle.tables.proofs.Begins.{zeros}
use Rattle.events.specs.Promised.{Holds}
use Rattle.events.proofs.Arriving.{as_many, good_of, holds_of}

-- ---- the rule book's rule of a start, and of what events make of it
module _ (number now : ℕ) (values ceilings : List ℕ) (long : length values ≡ base_sems) (many : length ceilings ≡ base_customers) where
  pub begins : rule.Rests base_slots base_sems base_customers (started base_slots number values ceilings) (start base_slots number now values ceilings)
  begins = rw (long, many) at (start_rests base_slots number now values ceilings (omega arith) (omega (arith, many)))

  pub reached_good : (m : Tables) (xs : List Arrival) → view m ≡ run (start base_slots number now values ceilings) xs → Shape m → Good m
  reached_good m xs seen shape =
      good_of m (started base_slots number values ceilings) shape
      (subst (rule.Rests base_slots base_sems base_customers (started base_slots number values ceilings)) (sym seen)
      (rests_all base_slots base_sems base_customers (started base_slots number values ceilings) xs (start base_slots number now values ceilings) begins))

-- ---- the least start is taken, and its id 1 ends at once
low_zeros : (n i : ℕ) → get_or (zeros n) i 0 ≤ top
low_zeros zero i = omega arith
low_zeros (suc n) zero = omega arith
low_zeros (suc n) (suc i) = low_zeros n i

left_rests : rule.Rests base_slots base_sems base_customers 1 (turn 0 (nothing_left base_slots base_sems base_customers))
unfolding start start_refusal too_large not_allowed bad_number
left_rests = start_rests base_slots 0 0 (zeros base_sems) (least_ceilings base_customers) (omega arith) (omega arith)

module _ (m : Tables) (seen : view m ≡ fresh base_slots 0 0 (zeros base_sems) (least_ceilings base_customers)) where
  pub least_holds : Shape m → Holds m
  least_holds shape =
      holds_of m 1 shape (subst (rule.Tables base_slots base_sems base_customers 1) (sym seen) (fresh_tables base_slots 0 0 (zeros base_sems) (least_ceilings base_customers) (omega arith, omega arith) (low_zeros base_sems)))

  module _ (shape : Shape m) (r : Settled) (ends : Comes (step (view m) (Call 0 Kernel (negsuc 1) 0 0 0)) r) where
    ended : view r.tables ≡ nothing_left base_slots base_sems base_customers
    unfolding nothing_left
    ended = sym (ap (λ (x : Outcome). x.after) (rw seen at ends.seen))

    pub least_low : 0 < r.tables.processors
    least_low =
        omega (
          arith,
          (keeps base_slots base_sems base_customers m.processors (view m) (Call 0 Kernel (negsuc 1) 0 0 0) (least_holds shape).tables).processors_there,
          ap (λ (o : Outcome). processors o.after) ends.seen,
          as_many r.tables,
          shape.some_processor,
        )

    pub least_ended : (t : Tables) → Step (turn 0) r.tables t → (view t ≡ turn 0 (nothing_left base_slots base_sems base_customers)) × Good t
    least_ended t back =
        let same : view t ≡ turn 0 (nothing_left base_slots base_sems base_customers) = back.seen ∙ ap (turn 0) ended in
        (same, good_of t 1 back.shape (subst (rule.Rests base_slots base_sems base_customers 1) (sym same) left_rests))
