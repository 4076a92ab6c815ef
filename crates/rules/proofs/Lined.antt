-- 02, (vi): everyone ready is in the line of their own priority, and the count of four is at most four.
use Rattle.std.specs.Prelude.{if◌then◌else◌}
use mathlib.Core.Path.{◌≡◌, refl}
use mathlib.Core.Bool.{Bool, true, false, not}
use mathlib.Core.List.{List, [], ◌∷◌}
use Prim.Native.Nat.{ℕ, suc, ◌≤◌}
use native.Mathlib.Omega.{arith}
use lib.Dec.{leb}
use borrow.Author.Tests.{leb-false}
use Rattle.rules.specs.declared.Event.{Event}
use Rattle.rules.specs.declared.Line.TheVariants.{PseudoClock}
use Rattle.rules.specs.Words.{those, front, rest, Single, All}
use Rattle.rules.specs.Numbers.{most_in_a_row}
use Rattle.rules.specs.Machine.{Process, Machine, is_high, joined, counted, takes_low, line, back, block, dispatch, wake, wake_all, family, kill, newborn, birth, charge}
use Rattle.rules.specs.Tables.{InOwnLine}
use Rattle.rules.specs.Rules.{step}
use Rattle.rules.proofs.Cases.{All-those, All-append, All-rest}
use Rattle.rules.proofs.Walk.{Walk, WalkSems, step_walks}

pub record Lined (m : Machine) : Type 0 where
  pub own_line : InOwnLine m.high m.low
  pub in_a_row : m.four ≤ most_in_a_row

abbrev High : Process → Type 0
High p = is_high p ≡ true

abbrev Low : Process → Type 0
Low p = is_high p ≡ false

-- the high ones of a list are high, and the others low
highs : (ps : List Process) → All High (those is_high ps)
highs [] = tt
highs (p ∷ ps) = go (is_high p) refl (highs ps)
  where
    go : (b : Bool) → is_high p ≡ b → All High (those is_high ps) → All High (if b then p ∷ those is_high ps else those is_high ps)
    go true e h = (e, h)
    go false e h = h

lows : (ps : List Process) → All Low (those (λ p. not (is_high p)) ps)
lows [] = tt
lows (p ∷ ps) = go (is_high p) refl (lows ps)
  where
    go : (b : Bool) → is_high p ≡ b → All Low (those (λ p. not (is_high p)) ps) → All Low (if not b then p ∷ those (λ p. not (is_high p)) ps else those (λ p. not (is_high p)) ps)
    go true e h = h
    go false e h = (e, h)

-- these join, each its own line
pub joins_own : (ps : List Process) (m : Machine) → InOwnLine m.high m.low → InOwnLine (joined ps m).high (joined ps m).low
joins_own ps m h = (All-append High m.high _ h.0 (highs ps), All-append Low m.low _ h.1 (lows ps))

-- the count after a choice
counts : (high low : List Process) (four : ℕ) → four ≤ most_in_a_row → counted high low four ≤ most_in_a_row
counts high [] four k = omega arith
counts [] (l ∷ low) four k = omega arith
counts (h ∷ high) (l ∷ low) four k = go (leb most_in_a_row four) refl
  where
    go : (b : Bool) → leb most_in_a_row four ≡ b → (if b then 0 else suc four) ≤ most_in_a_row
    go true e = omega arith
    go false e = omega (arith, leb-false most_in_a_row four e)

chosen : (m : Machine) → Lined m → Lined (dispatch m)
unfolding dispatch
chosen m h = record { own_line = go (takes_low m) h.own_line; in_a_row = counts m.high m.low m.four h.in_a_row }
  where
    go : (b : Bool) → InOwnLine m.high m.low → InOwnLine (if b then m.high else rest m.high) (if b then rest m.low else m.low)
    go true k = (k.0, All-rest Low m.low k.1)
    go false k = (All-rest High m.high k.0, k.1)

walk : Walk Lined (λ x. Lined) (λ a. Lined)
unfolding back block wake wake_all kill birth
walk = record {
  begins = λ m h. h;
  runs = λ x p ys m r e h. chosen m h;
  halts = λ x m r e h. record { own_line = h.own_line; in_a_row = h.in_a_row };
  waits = λ x m r e f h. h;
  panics = λ x p ys m r e f g h. record { own_line = h.own_line; in_a_row = h.in_a_row };
  carries = λ x p m r h. h;
  passes = λ k p m r h. h;
  yields = λ x p m r h. record { own_line = joins_own m.running m h.own_line; in_a_row = h.in_a_row };
  blocks = λ l p m e r h. record { own_line = h.own_line; in_a_row = h.in_a_row };
  kills = λ n p m a r h. record {
    own_line = (All-those High (λ p. not (family n p)) m.high h.own_line.0, All-those Low (λ p. not (family n p)) m.low h.own_line.1);
    in_a_row = h.in_a_row;
  };
  births = λ a2 a3 p m e r h. record { own_line = joins_own (newborn p a2 a3 m ∷ []) m h.own_line; in_a_row = h.in_a_row };
  wakes = λ l q ys m e h. record { own_line = joins_own (front (line l m)) m h.own_line; in_a_row = h.in_a_row };
  ticks = λ m h. record { own_line = joins_own (line PseudoClock m) m h.own_line; in_a_row = h.in_a_row };
  gives = λ r x m e h. h;
  names = λ d x m h. h;
}

sems : WalkSems Lined (λ x. Lined)
sems = record {
  falls = λ i m e f h. record { own_line = h.own_line; in_a_row = h.in_a_row };
  rises = λ i m e f h. record { own_line = h.own_line; in_a_row = h.in_a_row };
}

-- every event keeps it
pub stays_lined : (m : Machine) (e : Event) → Single m.running → Lined m → Lined (step m e).after
unfolding charge
stays_lined m e s h = step_walks Lined walk sems m e s (λ _. record { own_line = h.own_line; in_a_row = h.in_a_row }) h
