-- HOW LONG ONE WAITS, 02, (vii): the one measure that every choice lowers and no other event raises, of a high one and
-- of a low one alike. By it whoever is ready is run or has ended before it is nought.
use Rattle.std.specs.Prelude.{if◌then◌else◌}
use mathlib.Core.Path.{◌≡◌, refl, ◌∙◌, ap, subst}
use mathlib.Core.Logic.{◌⊎◌, inl, inr}
use mathlib.Core.Bool.{Bool, true, false, not}
use mathlib.Core.List.{List, [], ◌∷◌, ◌++◌}
use Prim.Native.Nat.{ℕ, zero, suc, ◌+◌, ◌-◌, ◌*◌, ◌/◌, ◌≤◌}
use native.Mathlib.Omega.{arith}
use lib.Dec.{eqb, leb, ltb}
use borrow.Author.Tests.{eq-eqb, leb-true, leb-false}
use Rattle.rules.specs.declared.Event.{Event}
use Rattle.rules.specs.declared.Action.{Action}
use Rattle.rules.specs.declared.Action.TheVariants.{CarryOn, Run, Wait, Halt, Panic, PassUp, Nothing}
use Rattle.rules.specs.declared.Answer.{Answer}
use Rattle.rules.specs.Words.{those, front, rest, sum, count, many, Single}
use Rattle.rules.specs.Numbers.{most_in_a_row}
use Rattle.rules.specs.Machine.{Process, Machine, Status, Halted, Panicked, low_turn, next_of, counted, next_line, ready, living, with_status, back, block, dispatch, wake, wake_all, family, family_of, kill, birth, charge, turn}
use Rattle.rules.specs.Answers.{Outcome, plain, doing}
use Rattle.rules.specs.Tables.{Sound, with_id}
use Rattle.rules.specs.Rules
use Rattle.rules.specs.Rules.{step}
use Rattle.rules.proofs.Cases.{maybe_cases}
use Rattle.rules.proofs.Sums.{sum_append, part_sum}
use Rattle.rules.proofs.Lines.{count_le}
use Rattle.rules.proofs.Living.{living_sum, same_dispatch, same_back, sum_killed, status_living}
use Rattle.rules.proofs.Walk
use Rattle.rules.proofs.Walk.{Walk, WalkSems, charge_single}
use Rattle.rules.proofs.Sound.{sound_charged}
use Rattle.rules.proofs.Turns.{turn_cases}

-- ── A line ──

-- x stands in the line, with k before it
abbrev pub Stands : ℕ → ℕ → List Process → Type 0
Stands x k [] = ⊥
Stands x zero (p ∷ ps) = p.id ≡ x
Stands x (suc k) (p ∷ ps) = Stands x k ps

-- others come behind
behind : (x k : ℕ) (ps qs : List Process) → Stands x k ps → Stands x k (ps ++ qs)
behind x k [] qs h = absurd h
behind x zero (p ∷ ps) qs h = h
behind x (suc k) (p ∷ ps) qs h = behind x k ps qs h

-- of those who leave by the test, one for each that has the id
abbrev leaves : (Process → Bool) → ℕ → Process → ℕ
leaves t x p = if t p then count (eqb x p.id) else 0

-- x stands in what is kept of the line, with no more than k before it, or is one of those lost
abbrev Stays : ℕ → ℕ → List Process → ℕ → Type 0
Stays x k kept lost = ((j : ℕ) × ((j ≤ k) × Stands x j kept)) ⊎ (1 ≤ lost)

spared : (t : Process → Bool) (x k : ℕ) (ps : List Process) → Stands x k ps → Stays x k (those (λ p. not (t p)) ps) (sum (leaves t x) ps)
spared t x k [] h = absurd h
spared t x zero (p ∷ ps) h = go (t p) (those (λ p. not (t p)) ps) (sum (leaves t x) ps)
  where
    go : (b : Bool) (kept : List Process) (lost : ℕ) → Stays x 0 (if not b then p ∷ kept else kept) ((if b then count (eqb x p.id) else 0) + lost)
    go true kept lost = inr (rw (h, eq-eqb x x refl) (omega arith))
    go false kept lost = inl (0, (omega arith, h))
spared t x (suc k) (p ∷ ps) h = go (t p) (those (λ p. not (t p)) ps) (sum (leaves t x) ps) (spared t x k ps h)
  where
    go : (b : Bool) (kept : List Process) (lost : ℕ) → Stays x k kept lost → Stays x (suc k) (if not b then p ∷ kept else kept) ((if b then count (eqb x p.id) else 0) + lost)
    go true kept lost (inl i) = inl (i.0, (omega (arith, i.1.0), i.1.1))
    go false kept lost (inl i) = inl (suc i.0, (omega (arith, i.1.0), i.1.1))
    go b kept lost (inr i) = inr (omega (arith, i))

-- ── What is left of a wait ──

-- the line of a high one, or of a low one
abbrev pub own : Bool → List Process → List Process → List Process
own true hs ls = hs
own false hs ls = ls

own_those : (t : Process → Bool) (high : Bool) (hs ls : List Process) → those t (own high hs ls) ≡ own high (those t hs) (those t ls)
own_those t true hs ls = refl
own_those t false hs ls = refl

-- with k before it and this count of four, it is run by the choice of this number at the latest: of five choices in a
-- row one may be a low one's, and while a low one waits one is
abbrev pub left : Bool → ℕ → ℕ → ℕ
left true k four = k + 1 + (k + four) / most_in_a_row
left false k four = suc most_in_a_row * (k + 1) - four

-- x stands in its line, and at most n choices are left to it
pub record Waits (high : Bool) (x n : ℕ) (hs ls : List Process) (four : ℕ) : Type 0 where
  pub before : ℕ
  pub stands : Stands x before (own high hs ls)
  pub few : left high before four ≤ n
  pub in_a_row : four ≤ most_in_a_row

-- less than n is left of the wait
abbrev Nearer : Bool → ℕ → ℕ → (hs ls : List Process) → ℕ → Type 0
Nearer high x n hs ls four = (j : ℕ) × ((suc j ≤ n) × Waits high x j hs ls four)

nearer : (high : Bool) (x k n : ℕ) (hs ls : List Process) (four : ℕ) → Stands x k (own high hs ls) → suc (left high k four) ≤ n → four ≤ most_in_a_row → Nearer high x n hs ls four
nearer high x k n hs ls four h less m = (left high k four, (less, record { before = k; stands = h; few = omega arith; in_a_row = m }))

-- after a choice less is left; or x is the first of the line whose first is chosen
abbrev After : Bool → ℕ → ℕ → (hs ls : List Process) → ℕ → Type 0
After high x n hs ls four =
    Nearer high x n (if low_turn hs ls four then hs else rest hs) (if low_turn hs ls four then rest ls else ls) (counted hs ls four)
    ⊎ Stands x 0 (next_of hs ls four)

-- somebody stands in each line: whose turn it is goes by the count of four
by_count : (high : Bool) (x k : ℕ) (p l : Process) (hs ls : List Process) (four : ℕ) → Stands x k (own high (p ∷ hs) (l ∷ ls)) → four ≤ most_in_a_row → (b : Bool) → leb most_in_a_row four ≡ b
    → After high x (left high k four) (p ∷ hs) (l ∷ ls) four
by_count true x k p l hs ls four h m true e = rw e (inl (nearer true x k _ _ _ _ h (omega (arith, leb-true most_in_a_row four e)) (omega arith)))
by_count true x zero p l hs ls four h m false e = rw e (inr h)
by_count true x (suc k) p l hs ls four h m false e = rw e (inl (nearer true x k _ _ _ _ h (omega arith) (omega (arith, leb-false most_in_a_row four e))))
by_count false x zero p l hs ls four h m true e = rw e (inr h)
by_count false x (suc k) p l hs ls four h m true e = rw e (inl (nearer false x k _ _ _ _ h (omega (arith, m)) (omega arith)))
by_count false x k p l hs ls four h m false e = let z = leb-false most_in_a_row four e in rw e (inl (nearer false x k _ _ _ _ h (omega (arith, z)) (omega (arith, z))))

-- EVERY CHOICE LOWERS IT, or is x's
choice : (high : Bool) (x k : ℕ) (hs ls : List Process) (four : ℕ) → Stands x k (own high hs ls) → four ≤ most_in_a_row
    → After high x (left high k four) hs ls four
choice true x k [] ls four h m = absurd h
choice true x zero (p ∷ hs) [] four h m = inr h
choice true x (suc k) (p ∷ hs) [] four h m = inl (nearer true x k _ _ _ _ h (omega arith) (omega arith))
choice true x k (p ∷ hs) (l ∷ ls) four h m = by_count true x k p l hs ls four h m (leb most_in_a_row four) refl
choice false x k hs [] four h m = absurd h
choice false x zero [] (l ∷ ls) four h m = inr h
choice false x (suc k) [] (l ∷ ls) four h m = inl (nearer false x k _ _ _ _ h (omega (arith, m)) (omega arith))
choice false x k (p ∷ hs) (l ∷ ls) four h m = by_count false x k p l hs ls four h m (leb most_in_a_row four) refl

-- ── An event ──

-- 1 for a choice: "a choice is an answer whose action is run"
abbrev pub chosen : Action → ℕ
chosen (CarryOn s) = 0
chosen (Run s) = 1
chosen Wait = 0
chosen Halt = 0
chosen Panic = 0
chosen (PassUp s k) = 0
chosen Nothing = 0

abbrev pub Waiting : Bool → ℕ → ℕ → Machine → Type 0
Waiting high x n m = Waits high x n m.high m.low m.four

-- the answer runs it, and it runs
pub record RunNow (x : ℕ) (a : Answer) (m : Machine) : Type 0 where
  pub it : Process
  pub says : a.action ≡ Run it.slot
  pub runs : m.running ≡ it ∷ []
  pub is_x : it.id ≡ x

-- after the event it waits with less left, where that was a choice; or the answer runs it; or it has ended
abbrev pub Fate : Bool → ℕ → ℕ → Answer → Machine → Type 0
Fate high x n a m = ((j : ℕ) × ((j + chosen a.action ≤ n) × Waiting high x j m)) ⊎ (RunNow x a m ⊎ (with_id x m ≡ 0))

-- those in a ready line are among the living
own_sum : (f : Process → ℕ) (high : Bool) (m : Machine) → sum f (own high m.high m.low) ≤ sum f (living m)
own_sum f true m = omega (arith, living_sum f m, sum_append f m.high m.low)
own_sum f false m = omega (arith, living_sum f m, sum_append f m.high m.low)

-- whoever stands in one is alive
stands_sum : (x k : ℕ) (ps : List Process) → Stands x k ps → 1 ≤ many (λ p. eqb x p.id) ps
stands_sum x k [] h = absurd h
stands_sum x zero (p ∷ ps) h = rw (h, eq-eqb x x refl) (omega arith)
stands_sum x (suc k) (p ∷ ps) h = omega (arith, stands_sum x k ps h)

pub waits_alive : (high : Bool) (x n : ℕ) (m : Machine) → Waiting high x n m → 1 ≤ with_id x m
waits_alive high x n m w = omega (arith, stands_sum x w.before (own high m.high m.low) w.stands, own_sum (λ p. count (eqb x p.id)) high m)

module _ (high : Bool) (x n : ℕ) where
  B : Machine → Type 0
  B m = Sound m × Waiting high x n m

  S : Answer → Machine → Type 0
  S a m = Waiting high x n m ⊎ (with_id x m ≡ 0)

  -- nobody is chosen
  still : (a : Answer) (m : Machine) → chosen a.action ≡ 0 → S a m → Fate high x n a m
  unfolding S
  still a m e (inl w) = inl (n, (omega (arith, e), w))
  still a m e (inr g) = inr (inr g)

  -- these come, each at the end of its own line
  joins : (hs ls ps qs : List Process) (four : ℕ) → Waits high x n hs ls four → Waits high x n (hs ++ ps) (ls ++ qs) four
  joins hs ls ps qs four w = record { before = w.before; stands = go high w.stands; few = w.few; in_a_row = w.in_a_row }
    where
      go : (high : Bool) → Stands x w.before (own high hs ls) → Stands x w.before (own high (hs ++ ps) (ls ++ qs))
      go true h = behind x w.before hs ps h
      go false h = behind x w.before ls qs h

  -- nobody is ready: whoever waited has ended
  nobody : (m : Machine) → ready m ≡ [] → Waiting high x n m → ⊥
  nobody m e w = go high m.high m.low e w.stands
    where
      go : (high : Bool) (hs ls : List Process) → hs ++ ls ≡ [] → Stands x w.before (own high hs ls) → ⊥
      go true [] ls e h = h
      go true (p ∷ hs) ls e h = let z : ◌≡◌ {A = ℕ} 0 1 = cc in omega arith
      go false [] [] e h = h
      go false [] (l ∷ ls) e h = let z : ◌≡◌ {A = ℕ} 0 1 = cc in omega arith
      go false (p ∷ hs) ls e h = let z : ◌≡◌ {A = ℕ} 0 1 = cc in omega arith

  ended : (a : Answer) (m : Machine) → ready m ≡ [] → S a m → with_id x m ≡ 0
  unfolding S
  ended a m e (inl w) = absurd (nobody m e w)
  ended a m e (inr g) = g

  stopped : (s : Status) (m : Machine) → with_id x m ≡ 0 → with_id x (with_status s m) ≡ 0
  stopped s m e = ap (many (λ p. eqb x p.id)) (status_living s m) ∙ e

  -- the next is chosen
  chooses : (a : Answer) (p : Process) (ys : List Process) (m : Machine) → m.running ≡ [] → next_line m ≡ p ∷ ys → S a m → Fate high x n (doing (Run p.slot) a) (dispatch m)
  unfolding S dispatch
  chooses a p ys m r e (inr g) = inr (inr ((same_dispatch m r).sums (λ p. count (eqb x p.id)) ∙ g))
  chooses a p ys m r e (inl w) = go (choice high x w.before m.high m.low m.four w.stands w.in_a_row)
    where
      go : After high x (left high w.before m.four) m.high m.low m.four → Fate high x n (doing (Run p.slot) a) (dispatch m)
      go (inl c) = inl (c.0, (omega (arith, c.1.0, w.few), c.1.1))
      go (inr h) = inr (inl (record { it = p; says = refl; runs = ap front e; is_x = subst (Stands x 0) e h }))

  -- some end
  lower : (high : Bool) (j k four : ℕ) → j ≤ k → left high j four ≤ left high k four
  lower true j k four h = omega arith
  lower false j k four h = omega arith

  killed : (k : ℕ) (m : Machine) → Sound m → Waiting high x n m → Waiting high x n (kill k m) ⊎ (with_id x (kill k m) ≡ 0)
  unfolding kill family_of
  killed k m s w = go (spared (family k) x w.before line w.stands)
    where
      line : List Process
      line = own high m.high m.low

      go : Stays x w.before (those (λ p. not (family k p)) line) (sum (leaves (family k) x) line) → Waiting high x n (kill k m) ⊎ (with_id x (kill k m) ≡ 0)
      go (inl i) = inl (record {
        before = i.0;
        stands = subst (Stands x i.0) (own_those (λ p. not (family k p)) high m.high m.low) i.1.1;
        few = omega (arith, w.few, lower high i.0 w.before m.four i.1.0);
        in_a_row = w.in_a_row;
      })
      go (inr i) =
          let f : Process → ℕ = λ p. count (eqb x p.id) in
          inr (omega (arith, i, own_sum (leaves (family k) x) high m, part_sum f (family k) (living m), sum_killed f k m, s.ids x, count_le (ltb x m.next)))

  fates : Walk B S (Fate high x n)
  unfolding B S back block wake wake_all birth
  fates = record {
    begins = λ m h. inl h.1;
    runs = λ a p ys m r e h. chooses a p ys m r e h;
    halts = λ a m r e h. inr (inr (stopped Halted m (ap (many (λ p. eqb x p.id)) e)));
    waits = λ a m r e f h. inr (inr (ended a m e h));
    panics = λ a p ys m r e f g h. inr (inr (stopped Panicked m (ended a m f h)));
    carries = λ a p m r h. still (doing (CarryOn p.slot) a) m refl h;
    passes = λ k p m r h. still (doing (PassUp p.slot k) plain) m refl (inl h.1);
    yields = λ a p m r h. returns m h;
    blocks = λ l p m e r h. inl h.1;
    kills = λ k p m a r h. killed k m h.0 h.1;
    births = λ a2 a3 p m e r h. inl (joins m.high m.low _ _ m.four h.1);
    wakes = λ l q ys m e h. inl (joins m.high m.low _ _ m.four h.1);
    ticks = λ m h. inl (joins m.high m.low _ _ m.four h.1);
    gives = λ r a m e h. h;
    names = λ d a m h. h;
  }
    where
      returns : (m : Machine) → Waiting high x n m ⊎ (with_id x m ≡ 0) → Waiting high x n (back m) ⊎ (with_id x (back m) ≡ 0)
      returns m (inl w) = inl (joins m.high m.low _ _ m.four w)
      returns m (inr g) = inr ((same_back m).sums (λ p. count (eqb x p.id)) ∙ g)

  sems : WalkSems B S
  unfolding B S
  sems = record { falls = λ i m e f h. inl h.1; rises = λ i m e f h. inl h.1 }

  -- NO OTHER EVENT RAISES IT
  pub waits_on : (m : Machine) (e : Event) → Sound m → Single m.running → Waiting high x n m → Fate high x n (step m e).answer (step m e).after
  unfolding step Rules.refused charge B
  waits_on m e s one w =
      maybe_cases (λ (o : Outcome). Fate high x n o.answer o.after) (Rules.refusal m e)
      (λ _. Walk.perform B S (Fate high x n) fates sems e (charge (Rules.clock e) m) (charge_single (Rules.clock e) m one) (sound_charged (Rules.clock e) m s, w))
      (λ r no. inl (n, (omega arith, w)))

  pub waits_turned : (k : ℕ) (m : Machine) → Waiting high x n m → Waiting high x n (turn k m)
  waits_turned k m w = turn_cases (Waiting high x n) k m w (λ l. w)
