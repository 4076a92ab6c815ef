-- One answer and one state for each operation; a refusal changes nothing.
-- Assumes nothing.
use mathlib.Core.Path.{◌≡◌, sym, ap, ◌∙◌}
use mathlib.Core.List.{List, ◌++◌}
use Prim.Native.Nat.{ℕ, ◌-◌, ◌≤◌}
use native.Mathlib.Omega.{arith}
use lib.ListN.{length, take, drop, replicate, take-append-drop}
use lib.Seq.{length-take-le}
use Rattle.sleeps.specs.Numbers.{places}
use Rattle.sleeps.specs.declared.Operation.{Operation}
use Rattle.sleeps.specs.declared.Refusal.{Refusal}
use Rattle.sleeps.specs.declared.Follows.{Follows}
use Rattle.std.proofs.Common.{Option, Some}
use Rattle.sleeps.specs.declared.Sleeper.{Sleeper}
use Rattle.sleeps.specs.declared.Sleepers.{Sleepers}
use Rattle.sleeps.specs.declared.Answer.{Answer}
use Rattle.sleeps.specs.declared.Turn.{Turn}
use Rattle.sleeps.specs.Rules.{State, Reply, Outcome, step}
use Rattle.sleeps.proofs.Refusals.{refusal_keeps}
use Rattle.sleeping.specs.Promised.{view, Good, told, Whole, Comes}

-- an array is known by what stands in front, where the others are all alike
array_unique : {A : Type 0} (d : A) (p q : List A) (n m : ℕ) → length p ≡ places → length q ≡ places → n ≤ places → m ≤ places
    → drop n p ≡ replicate (places - n) d → drop m q ≡ replicate (places - m) d → take n p ≡ take m q → (p ≡ q) × (n ≡ m)
array_unique {A} d p q n m lp lq hn hm bp bq e =
    let s : n ≡ m = sym (length-take-le n p (omega arith)) ∙ ap length e ∙ length-take-le m q (omega arith) in (
      sym (take-append-drop n p)
          ∙ ap (λ (r : List A). take n p ++ r) (bp ∙ ap (λ (j : ℕ). replicate (places - j) d) s ∙ sym bq)
          ∙ ap (λ (r : List A). r ++ drop m q) e
          ∙ take-append-drop m q,
      s,
    )

-- a struct is known by its fields
fields : (s t c d : ℕ) (r q : List Sleeper) → s ≡ t → c ≡ d → r ≡ q → ◌≡◌ {A = Sleepers} (record { sum = s; count = c; rows = r }) (record { sum = t; count = d; rows = q })
fields s t c d r q a b e = rw (a, b, e)

parts : (n m : Option Refusal) (f g : Follows) (c d : ℕ) (w v : List ℕ) → n ≡ m → f ≡ g → c ≡ d → w ≡ v
    → ◌≡◌ {A = Answer} (record { refusal = n; follows = f; count = c; woken = w }) (record { refusal = m; follows = g; count = d; woken = v })
parts n m f g c d w v p q a b = rw (p, q, a, b)

both : (a b : Answer) (s t : Sleepers) → a ≡ b → s ≡ t → ◌≡◌ {A = Turn} (record { answer = a; sleepers = s }) (record { answer = b; sleepers = t })
both a b s t p q = rw (p, q)

-- sleepers that stand for the same are the same
pub sleepers_unique : (a b : Sleepers) → Good a → Good b → view a ≡ view b → a ≡ b
sleepers_unique a b g h e =
    let r = array_unique (record { wake = 0; number = 0 }) a.rows b.rows a.count b.count g.long h.long g.room h.room g.rest h.rest (ap (λ (s : State). s.asleep) e) in
    fields a.sum b.sum a.count b.count a.rows b.rows (ap (λ (s : State). s.sum) e) r.1 r.0

pub answer_unique : (a b : Answer) → Whole a → Whole b → told a ≡ told b → a ≡ b
answer_unique a b g h e =
    let r = array_unique 0 a.woken b.woken a.count b.count g.long h.long g.room h.room g.rest h.rest (ap (λ (s : Reply). s.woken) e) in
    parts a.refusal b.refusal a.follows b.follows a.count b.count a.woken b.woken (ap (λ (s : Reply). s.refusal) e) (ap (λ (s : Reply). s.follows) e) r.1 r.0

-- an operation has one answer and one state
pub turn_unique : {o : Outcome} {r q : Turn} → Comes o r → Comes o q → r ≡ q
turn_unique {o} {r} {q} c d =
    both r.answer q.answer r.sleepers q.sleepers (answer_unique r.answer q.answer c.whole d.whole (c.said ∙ sym d.said)) (sleepers_unique r.sleepers q.sleepers c.good d.good (c.seen ∙ sym d.seen))

-- a refusal hands the same sleepers back
pub refused_same : (o : Operation) (m : Sleepers) (r : Turn) (n : Refusal) → Good m → Comes (step o (view m)) r → r.answer.refusal ≡ Some n → r.sleepers ≡ m
refused_same o m r n g c e =
    sleepers_unique r.sleepers m c.good g (c.seen ∙ refusal_keeps o (view m) n (sym (ap (λ (s : Reply). s.refusal) c.said) ∙ e))
