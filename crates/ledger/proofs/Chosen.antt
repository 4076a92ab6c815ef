-- What a choice makes of the lists: four ways, and what follows of sums, of what holds for each, and of each line.
use Rattle.std.specs.Prelude.{if◌then◌else◌}
use mathlib.Core.Path.{◌≡◌, refl}
use mathlib.Core.Bool.{Bool, true, false}
use mathlib.Core.List.{List, [], ◌∷◌}
use Prim.Native.Nat.{ℕ, suc, ◌+◌}
use native.Mathlib.Omega.{arith}
use Rattle.rules.specs.Words.{first, rest, sum, All}
use Rattle.rules.proofs.Cases.{first_cases}
use Rattle.rules.specs.Machine.{Process, low_turn, next_of}
use Rattle.rules.proofs.Walk.{none_next}
use Rattle.ledger.specs.Choices.{Lists, chosen}

-- somebody keeps running; nobody is ready; the first low one is chosen, or the first high one
pub chosen_cases {κ} : (Q : Lists → Type κ) (l : Lists)
    → ((p : Process) (ps : List Process) → l.on ≡ p ∷ ps → Q l)
    → (l.on ≡ [] → l.high ≡ [] → l.low ≡ [] → Q l)
    → ((p : Process) (ps : List Process) → l.on ≡ [] → l.low ≡ p ∷ ps → Q (record { on = p ∷ []; high = l.high; low = rest l.low; four = 0; waiting = l.waiting }))
    → ((p : Process) (ps : List Process) → l.on ≡ [] → l.high ≡ p ∷ ps
    → Q (record { on = p ∷ []; high = rest l.high; low = l.low; four = first l.low 0 (λ q. suc l.four); waiting = l.waiting }))
    → Q (chosen l)
chosen_cases Q l stays nobody low high =
    first_cases Q l.on (λ none. first_cases Q (next_of l.high l.low l.four)
    (λ e. let k = none_next l.high l.low l.four e in nobody none k.0 k.1)
    (λ p ps e. go p ps none (low_turn l.high l.low l.four) e)) stays
  where
    go : (p : Process) (ps : List Process) → l.on ≡ [] → (b : Bool) → (if b then l.low else l.high) ≡ p ∷ ps
        → Q (record {
          on = p ∷ [];
          high = if b then l.high else rest l.high;
          low = if b then rest l.low else l.low;
          four = if b then 0 else first l.low 0 (λ q. suc l.four);
          waiting = l.waiting;
        })
    go p ps none true e = low p ps none e
    go p ps none false e = high p ps none e

pub still_waiting : (l : Lists) → (chosen l).waiting ≡ l.waiting
still_waiting l = chosen_cases (λ (k : Lists). k.waiting ≡ l.waiting) l (λ p ps e. refl) (λ a b c. refl) (λ p ps a b. refl) (λ p ps a b. refl)

pub chosen_sum : (f : Process → ℕ) (l : Lists) → sum f (chosen l).on + (sum f (chosen l).high + sum f (chosen l).low) ≡ sum f l.on + (sum f l.high + sum f l.low)
chosen_sum f l =
    chosen_cases (λ (k : Lists). sum f k.on + (sum f k.high + sum f k.low) ≡ sum f l.on + (sum f l.high + sum f l.low)) l
    (λ p ps e. refl) (λ a b c. refl)
    (λ p ps a b. rw (a, b) (omega arith)) (λ p ps a b. rw (a, b) (omega arith))

pub chosen_each : (P : Process → Type 0) (l : Lists) → All P l.on → All P l.high → All P l.low → All P (chosen l).on × All P (chosen l).high × All P (chosen l).low
chosen_each P l on high low =
    chosen_cases (λ (k : Lists). All P k.on × All P k.high × All P k.low) l
    (λ p ps e. (on, high, low)) (λ a b c. (on, high, low))
    (λ p ps a b. let k = rw b at low in ((k.0, tt), high, rw b k.1))
    (λ p ps a b. let k = rw b at high in ((k.0, tt), rw b k.1, low))

-- and back
pub unchosen_each : (P : Process → Type 0) (l : Lists) → All P (chosen l).on → All P (chosen l).high → All P (chosen l).low → All P l.on × All P l.high × All P l.low
unchosen_each P l =
    chosen_cases (λ (k : Lists). All P k.on → All P k.high → All P k.low → All P l.on × All P l.high × All P l.low) l
    (λ p ps e a b c. (a, b, c)) (λ d e f a b c. (a, b, c))
    (λ p ps d e a b c. (rw d tt, b, rw e (a.0, rw e at c)))
    (λ p ps d e a b c. (rw d tt, rw e (a.0, rw e at b), c))
