-- The pair taken apart: the desk goes its way as if it were alone, and the sleepers theirs, by what they are told.
-- Assumes nothing.
use Rattle.std.proofs.Common.{◌≡◌, Option, Some, None, ℕ, ◌+◌, leb, List, [], ◌∷◌, ◌++◌, sym, refl, ap, ◌∙◌, arith}
use Rattle.rules.specs.declared.Event.{Event}
use Rattle.rules.specs.declared.Arrival.{Arrival}
use Rattle.rules.specs.declared.Action.{Action}
use Rattle.rules.specs.declared.Answer.{Answer}
use Rattle.rules.specs.Words.{sum, Single}
use Rattle.rules.specs.Numbers.{time_limit}
use Rattle.rules.specs.Rules as desk
use Rattle.rules.specs.Rules.{arrive}
use Rattle.rules.proofs.Cases.{if_cases}
use Rattle.sleeps.specs.declared.Operation.{Operation}
use Rattle.sleeps.specs.declared.Refusal.{Refusal}
use Rattle.sleeps.specs.declared.Refusal.TheVariants.{TimeFull}
use Rattle.sleeps.specs.declared.Follows.TheVariants.{Nothing}
use Rattle.sleeps.specs.Rules as sleeps
use Rattle.sleeps.specs.Rules.{State, Reply, Outcome, pass, step}
use Rattle.sleep_desk.specs.Rules.{gap_told, asked, heard, quiet, through, Pair, gap_of, serve}
use Rattle.sleep_desk.specs.Told.{Happening, comes, ends, next, run, replies, answers, arrivals, operations}
use Rattle.sleep_desk.proofs.Heard.{heard_cases, gap_cases, asked_cases}

-- ── The desk ──

pub desk_answers : (hs : List Happening) (p : Pair) → answers hs p ≡ desk.answers p.machine (arrivals hs)
unfolding answers desk.answers serve
desk_answers [] p = refl
desk_answers (comes u x ∷ hs) p = ap (λ (ds : List Answer). (arrive p.machine x).answer ∷ ds) (desk_answers hs (next (comes u x) p))
desk_answers (ends n ∷ hs) p = desk_answers hs (next (ends n) p)

pub desk_machine : (hs : List Happening) (p : Pair) → (run hs p).machine ≡ desk.run p.machine (arrivals hs)
unfolding run desk.run serve
desk_machine [] p = refl
desk_machine (comes u x ∷ hs) p = desk_machine hs (next (comes u x) p)
desk_machine (ends n ∷ hs) p = desk_machine hs (next (ends n) p)

-- ── The sleepers ──

pub run_through : (os : List Operation) (o : Outcome) → (through os o).after ≡ sleeps.run os o.after
unfolding through sleeps.run
run_through [] o = refl
run_through (x ∷ os) o = run_through os (step x o.after)

pub run_append : (xs ys : List Operation) (s : State) → sleeps.run (xs ++ ys) s ≡ sleeps.run ys (sleeps.run xs s)
unfolding sleeps.run
run_append [] ys s = refl
run_append (x ∷ xs) ys s = run_append xs ys (step x s).after

pub sleepers_told : (hs : List Happening) (p : Pair) → (run hs p).sleepers ≡ sleeps.run (operations hs p.machine) p.sleepers
unfolding run operations sleeps.run serve
sleepers_told [] p = refl
sleepers_told (comes u x ∷ hs) p =
    let m = p.machine in
    let os = heard u x (gap_of x m) (arrive m x).answer in
    let rest = operations hs (arrive m x).after in
    sleepers_told hs (next (comes u x) p) ∙ ap (sleeps.run rest) (run_through os (quiet p.sleepers)) ∙ sym (run_append os rest p.sleepers)
sleepers_told (ends n ∷ hs) p = sleepers_told hs (next (ends n) p)

-- ── Their answers ──

replies_append : (f : Reply → ℕ) (xs ys : List Operation) (s : State) → sum f (sleeps.replies (xs ++ ys) s) ≡ sum f (sleeps.replies xs s) + sum f (sleeps.replies ys (sleeps.run xs s))
unfolding sleeps.replies sleeps.run
replies_append f [] ys s = omega arith
replies_append f (x ∷ xs) ys s = omega (arith, replies_append f xs ys (step x s).after)

-- at most one operation beside the gap
asked_one : (u : ℕ) (e : Event) (a : Action) → Single (asked u e a)
asked_one u e a = asked_cases (λ os. Single os) u e a (λ a1. refl) refl tt

-- f counts nothing of an answer in which nobody is woken and nothing follows
abbrev pub Silent : (Reply → ℕ) → Type 0
Silent f = (r : Option Refusal) → f (record { refusal = r; follows = Nothing; woken = [] }) ≡ 0

module _ (f : Reply → ℕ) (silent : Silent f) where
  -- of a gap and one operation more the last answer counts for both
  last_one : (ys : List Operation) (o : Outcome) → Single ys → f o.reply ≡ 0 → sum f (sleeps.replies ys o.after) ≡ f (through ys o).reply
  unfolding sleeps.replies through
  last_one [] o h z = sym z
  last_one (y ∷ ys) o h z = rw h (omega arith)

  gap_silent : (g : ℕ) (s : State) → f (pass g s).reply ≡ 0
  unfolding pass
  gap_silent g s = if_cases (λ (o : Outcome). f o.reply ≡ 0) (leb (s.sum + g) time_limit) (λ _. silent None) (λ _. silent (Some TimeFull))

  last_two : (k g : ℕ) (ys : List Operation) (s : State) → Single ys → sum f (sleeps.replies (gap_told k g ++ ys) s) ≡ f (through (gap_told k g ++ ys) (quiet s)).reply
  unfolding sleeps.replies through step
  last_two k g ys s h =
      gap_cases (λ os. sum f (sleeps.replies (os ++ ys) s) ≡ f (through (os ++ ys) (quiet s)).reply) k g
      (λ _. omega (arith, gap_silent g s, last_one ys (pass g s) h (gap_silent g s))) (λ _. last_one ys (quiet s) h (silent None))

  heard_once : (u g : ℕ) (x : Arrival) (a : Answer) (s : State) → sum f (sleeps.replies (heard u x g a) s) ≡ f (through (heard u x g a) (quiet s)).reply
  unfolding sleeps.replies through
  heard_once u g x a s =
      heard_cases (λ os. sum f (sleeps.replies os s) ≡ f (through os (quiet s)).reply) u g x a
      (λ _. last_two x.processor g (asked u x.event a.action) s (asked_one u x.event a.action)) (λ _. sym (silent None))

  -- whatever f counts in the answers that the host gets, it counts in those of the operations
  pub counted : (hs : List Happening) (p : Pair) → sum f (replies hs p) ≡ sum f (sleeps.replies (operations hs p.machine) p.sleepers)
  unfolding replies operations sleeps.replies serve
  counted [] p = refl
  counted (comes u x ∷ hs) p =
      let m = p.machine in
      let s = p.sleepers in
      let os = heard u x (gap_of x m) (arrive m x).answer in
      let rest = operations hs (arrive m x).after in
      let here = heard_once u (gap_of x m) x (arrive m x).answer s in
      let on = counted hs (next (comes u x) p) ∙ ap (λ (t : State). sum f (sleeps.replies rest t)) (run_through os (quiet s)) in
      omega (arith, here, on, replies_append f os rest s)
  counted (ends n ∷ hs) p = omega (arith, counted hs (next (ends n) p))
