-- How long one waits (specs/Waits), worked out by computing: the bounds are reached, of high ones the sharper one with 0
-- to 4 before them, of low ones theirs with 0 and 1.
use Rattle.std.specs.Prelude.{if◌then◌else◌}
use mathlib.Core.Path.{◌≡◌, refl}
use mathlib.Core.Bool.{Bool}
use mathlib.Core.List.{List, [], ◌∷◌, ◌++◌, map}
use Prim.Native.Nat.{ℕ, zero, suc}
use lib.ListN.{length, replicate}
use Rattle.rules.specs.declared.Event.{Event}
use Rattle.rules.specs.declared.Arrival.{Arrival}
use Rattle.rules.specs.Numbers.{base_slots, base_sems}
use Rattle.rules.specs.Rules.{start, all_at, answers, run, rule_book}
use Rattle.rules.proofs.Alarms.{high, low, yields, ends, tick}
use Rattle.ledger.specs.History.{beginning, past, slots_in}
use Rattle.ledger.specs.Ids.{counting}
use Rattle.ledger.specs.Waits.{high_line, low_line, in_time, with_before}

-- the least number, from n on and below n + j, that passes
abbrev least : ℕ → ℕ → (ℕ → Bool) → ℕ
least zero n t = n
least (suc j) n t = if t n then n else least j (suc n) t

-- so many processors, events, and further events
record Story : Type 0 where
  processors : ℕ
  events : List Arrival
  later : List Arrival
  -- of who then has 0, 1, .. before it in the high line, and in the low line, the choices that it waits
  waits : List ℕ × List ℕ

abbrev found : Story → List ℕ × List ℕ
found s =
    let m = start base_slots s.processors 0 (replicate base_sems 0) (base_slots ∷ replicate 8 0) in
    let h = past (beginning s.processors 0) s.events (answers m s.events) in
    let rs = answers (run m s.events) s.later in
    let waits : List ℕ → List ℕ = λ line. map (λ k. least 20 0 (λ n. in_time n (with_before k line) h s.later rs)) (counting 0 (length line)) in
    (waits (high_line h), waits (low_line h))

abbrev on : ℕ → Event → Arrival
on k e = record { processor = k; event = e }

stories : List Story
stories =
    -- id 2, high, was chosen four times in a row while id 3, low, waited, and has made five high ones; all yield. The
    -- first of the five waits for a low one and itself, 2 × (0 + 1); the others wait 3, 4, 5 and, as the fifth choice
    -- after a low one is a low one's again, 7: k + 2 + k / 4
    record {
      processors = 1;
      events = all_at 0 (high ∷ low ∷ replicate 4 yields ++ replicate 5 high);
      later = all_at 0 (replicate 8 yields);
      waits = (2 ∷ 3 ∷ 4 ∷ 5 ∷ 7 ∷ [], 1 ∷ 6 ∷ []);
    }
    -- a high one and two low ones behind it, the count at nought; all yield: the low ones wait 5 × (k + 1)
    ∷ record {
      processors = 1;
      events = all_at 0 (high ∷ low ∷ low ∷ []);
      later = all_at 0 (replicate 11 yields);
      waits = (1 ∷ [], 5 ∷ 10 ∷ []);
    }
    -- choices of all processors together: two are made on processor 1, two on processor 2, and the fifth, on processor
    -- 0, is the low one's
    ∷ record {
      processors = 3;
      events = all_at 0 (high ∷ high ∷ low ∷ []);
      later = on 1 tick ∷ on 2 tick ∷ on 1 yields ∷ on 2 yields ∷ on 0 yields ∷ on 0 yields ∷ [];
      waits = (1 ∷ 2 ∷ [], 5 ∷ []);
    }
    -- the last of three high ones ends by the first choice, that of its killer
    ∷ record {
      processors = 1;
      events = all_at 0 (replicate 3 high);
      later = all_at 0 (ends 4 ∷ replicate 3 yields);
      waits = (1 ∷ 2 ∷ 1 ∷ [], []);
    }
    -- all end, and the machine halts: no choice is made
    ∷ record {
      processors = 1;
      events = all_at 0 (high ∷ low ∷ []);
      later = all_at 0 (ends 0 ∷ yields ∷ []);
      waits = (1 ∷ [], 1 ∷ []);
    }
    ∷ []

as_long : map found stories ≡ map (λ s. s.waits) stories
unfolding rule_book slots_in stories
as_long = refl
