-- Who ends by a trap or by call −2, over machines alone.
-- Assumes nothing.
use Rattle.std.specs.Prelude.{None, Option, ℤ}
use Rattle.std.proofs.Common.{◌≡◌, ℕ, ◌<◌, true, get_or, sym, refl, ap, ◌∙◌, eq-eqb, ne_eqb}
use Rattle.rules.specs.declared.Cause.{Cause}
use Rattle.rules.specs.declared.Action.TheVariants.{PassUp}
use Rattle.rules.specs.declared.Answer.{Answer}
use Rattle.rules.specs.Numbers.{base_slots}
use Rattle.rules.specs.Machine as book
use Rattle.rules.specs.Machine.{Process, family_of, kill}
use Rattle.rules.specs.Answers.{Outcome, mask, left_idle, plain, doing}
use Rattle.rules.specs.Rules.{schedule, die, pass_up_or_die}
use Rattle.tables.specs.declared.Tables.{Tables}
use Rattle.tables.specs.declared.Settled.{Settled}
use Rattle.tables.specs.declared.Killed.{Killed}
use Rattle.tables.specs.View.{row, view, Shape}
use Rattle.kin.specs.Families.{kin}
use Rattle.answers.specs.Parts.{ended_told}
use Rattle.tables.specs.Promised.{Comes, Kills}
use Rattle.tables.proofs.Seats.{runner_seat}
use Rattle.kin.proofs.Climbs.{kin_here}
use Rattle.tables.proofs.Choosing.{comes_by}

-- what follows a kill, said of the machine that is left
pub after_kill : (f : Answer → book.Machine → Outcome) (z : Option ℤ) (n : ℕ) (m : Tables) (k : Killed) → Kills n m k → (x : Answer) → x ≡ ended_told z k.ended k.idled
    → f (ended_told z (mask (family_of n (view m))) (left_idle n (view m))) (kill n (view m)) ≡ f x (view k.tables)
after_kill f z n m k t x e = (λ i. f (ended_told z (sym t.told i) (sym t.told_idle i)) (sym t.seen i)) ∙ ap (λ (y : Answer). f y (view k.tables)) (sym e)

-- the named end with whoever runs, and schedule
pub dies : (n : ℕ) (m : Tables) (k : Killed) → Kills n m k → (x : Answer) → x ≡ ended_told None k.ended k.idled → (r : Settled) → Comes (schedule x (view k.tables)) r → Comes (die n (view m)) r
unfolding die
dies n m k t x e r c = comes_by _ _ r (after_kill schedule None n m k t x e) c

abbrev pub caller : Tables → Process
caller m = row m m.running

module _ (m : Tables) (g : Shape m) (runs : m.running < base_slots) where
  pub own_id : 0 < get_or m.ids m.running 0
  own_id = (runner_seat m g runs).alive

  -- whoever runs is of its own family
  pub own_kin : kin m.parents m.ids (get_or m.ids m.running 0) m.running ≡ true
  own_kin = kin_here m.parents m.ids g.parent (get_or m.ids m.running 0) m.running refl

  -- ---- pass up or die
  module _ (cause : Cause) where
    pub up_dies : get_or m.handles m.running 0 ≡ 0 → (r : Settled) → Comes (die (get_or m.ids m.running 0) (view m)) r → Comes (pass_up_or_die cause (caller m) (view m)) r
    unfolding pass_up_or_die
    up_dies e r c = rw (eq-eqb (get_or m.handles m.running 0) 0 e) c

    pub up_passes : (get_or m.handles m.running 0 ≡ 0 → ⊥) → Comes (pass_up_or_die cause (caller m) (view m)) (record { tables = m; answer = doing (PassUp m.running cause) plain })
    unfolding pass_up_or_die
    up_passes h = record { seen = rw (ne_eqb (get_or m.handles m.running 0) 0 h); shape = g }
