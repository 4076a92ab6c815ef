-- WHAT IS PROMISED OF THE DESK WITH ITS SLEEPERS, over any list of what happens, refused events included.
-- Assumes nothing.
use Rattle.std.proofs.Common.{None, ◌≡◌, ℕ, ◌+◌, ◌≤◌, List, [], length, sym, refl, ap, subst, arith}
use Rattle.rules.specs.Words.{count}
use Rattle.rules.specs.Starts.{start_refusal}
use Rattle.rules.specs.Machine.{Machine}
use Rattle.rules.specs.Rules as rules
use Rattle.rules.specs.Rules.{start}
use Rattle.ledger.specs.History.{mask_bits, beginning, accepted_gap, tally_at}
use Rattle.ledger.proofs.After.{begun_tables, end_linked}
use Rattle.sleeps.specs.declared.Sleeper.{Sleeper}
use Rattle.sleeps.specs.Rules as sleeps-rules
use Rattle.sleeps.specs.Rules.{State, Reply, nobody}
use Rattle.sleeps.specs.Told as Told
use Rattle.sleeps.specs.Told.{grants, granted, woken, ended, foretold, told}
use Rattle.sleeps.proofs.Moments.{Asleep}
use Rattle.sleeps.proofs.Promises as promises
use Rattle.sleep_desk.specs.Rules.{timing_processor, Pair}
use Rattle.sleep_desk.specs.Told.{Happening, run, replies, answers, arrivals, operations}
use Rattle.sleep_desk.proofs.Apart.{desk_answers, desk_machine, sleepers_told, counted}
use Rattle.sleep_desk.proofs.Timing.{timed_all}

-- ── From any machine, with nobody asleep ──

module _ (m : Machine) (hs : List Happening) where
  abbrev begun : Pair
  begun = record { machine = m; sleepers = nobody }

  abbrev now : Pair
  now = run hs begun

  abbrev said : List Reply
  said = replies hs begun

  -- the desk answers as it does alone, and comes to the same machine
  pub alone : (answers hs begun ≡ rules.answers m (arrivals hs)) × (now.machine ≡ rules.run m (arrivals hs))
  alone = (desk_answers hs begun, desk_machine hs begun)

  -- the sleepers are the sleepers' rule book run on exactly what they are told. So every law of crates/sleeps, of
  -- whatever operations, is one of the pair
  pub as_told : now.sleepers ≡ sleeps-rules.run (operations hs m) nobody
  as_told = sleepers_told hs begun

  pub carried : (P : State → Type 0) → P (sleeps-rules.run (operations hs m) nobody) → P now.sleepers
  carried P = subst P (sym as_told)

  -- "three counts, each taken from the events, that add up to the sleeps granted", by the answers that the host gets
  pub counts : granted said ≡ woken said + (ended said + length now.sleepers.asleep)
  counts =
      omega (
        arith,
        counted (λ (r : Reply). count (grants r.follows)) (λ n. refl) hs begun,
        counted (λ (r : Reply). length r.woken) (λ n. refl) hs begun,
        counted (λ (r : Reply). count (Told.ends r.follows)) (λ n. refl) hs begun,
        promises.counts (operations hs m),
        ap (λ (s : State). length s.asleep) as_told,
      )

  -- whoever sleeps, whatever happens: woken at the first tick at which its wake time is not above the sum, and not
  -- before, unless it ended first
  pub moment : (x : Sleeper) → Asleep x now.sleepers → (more : List Happening) → let os = operations more now.machine in
      told x.number 0 os (sleeps-rules.replies os now.sleepers) ≡ foretold x.wake x.number 0 now.sleepers.sum os
  moment x w more = carried (λ (s : State). Asleep x s → told x.number 0 (operations more now.machine) (sleeps-rules.replies (operations more now.machine) s) ≡ foretold x.wake x.number 0 s.sum (operations more now.machine))
      (λ v. promises.moment (operations hs m) x v (operations more now.machine)) w

-- ── From an accepted start ──

-- "Sleep is timed by processor 0's gaps alone": the sum is that of the accepted gaps there, as events and answers tell
-- them, and all of them have passed
pub timed : (slots number at : ℕ) (values ceilings : List ℕ) (hs : List Happening) → slots ≤ mask_bits → start_refusal slots number values ceilings ≡ None
    → let m = start slots number at values ceilings in
    (run hs (record { machine = m; sleepers = nobody })).sleepers.sum ≡ tally_at timing_processor accepted_gap (beginning number at) (arrivals hs) (rules.answers m (arrivals hs))
unfolding rules.run
timed slots number at values ceilings hs few ok =
    let m = start slots number at values ceilings in
    let grows = timed_all slots (length values) (length ceilings) number hs (beginning number at) m nobody (record {
      tables = begun_tables slots number at values ceilings [] few ok;
      linked = end_linked slots number at values ceilings [] few ok;
      within = omega arith;
    }) in
    omega (arith, ap (λ (s : State). s.sum) (as_told m hs), grows)
