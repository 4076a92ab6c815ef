-- Who ends by call −2, over tables alone.
-- Assumes nothing.
use Rattle.std.specs.Prelude.{cond, if◌then◌else◌, Some, None}
use mathlib.Core.Path.{◌≡◌, refl, sym, ap, ◌∙◌}
use mathlib.Core.Bool.{Bool, true, false, ◌&&◌, ◌||◌}
use mathlib.Core.List.{List, [], ◌∷◌}
use Prim.Native.Nat.{ℕ, ◌<◌, ◌≤◌}
use native.Mathlib.Omega.{arith}
use native.Mathlib.Decide.{ℕ_discrete}
use lib.Dec.{eqb}
use lib.IntN.{pos, negsuc}
use lib.ListN.{get_or}
use borrow.Author.Tests.{eq-eqb, ne_eqb, eqb-true, eqb-false}
use Rattle.rules.specs.declared.Answer.{Answer}
use Rattle.rules.specs.Words.{first, those, any, All}
use Rattle.rules.proofs.Cases.{or_true, and_left, and_intro}
use Rattle.rules.specs.Numbers.{base_slots}
use Rattle.rules.specs.Machine as book
use Rattle.rules.specs.Machine.{Process, living, named, family, kill, back}
use Rattle.rules.specs.Answers.{Outcome, plain, giving, ending}
use Rattle.rules.specs.Rules.{schedule, carry_on, die, may_name, terminate}
use Rattle.lines.specs.Lines.{first_where, is_id, occ}
use Rattle.lines.proofs.Occ.{one_other}
use Rattle.lines.proofs.Laws.{first_in}
use Rattle.lines.proofs.Bridge.{any_map, any_same, found_passes, found_not}
use Rattle.tables.specs.declared.Tables.{Tables}
use Rattle.tables.specs.declared.Settled.{Settled}
use Rattle.tables.specs.declared.Killed.{Killed}
use Rattle.answers.specs.Parts.{ended_told, with_result}
use Rattle.tables.proofs.Endings.{after_kill, dies, caller, own_id}
use Rattle.tables.specs.View.{row, seats, view, Shape}
use Rattle.kin.specs.Families.{kin, may_name_at}
use Rattle.tables.specs.Promised.{Comes, Kills}
use Rattle.tables.proofs.Seats.{Seat, seats_living, seated, living_seat}
use Rattle.tables.proofs.Choosing.{comes_by}

-- ---- −2: by id, in the rule book alone
-- who has the id, and passes a test
abbrev whom : ℕ → (Process → Bool) → Process → Bool
whom n u q = named n q && u q

-- who is first of those with the id that pass has the id
by_id {κ} : {B : Type κ} (f : ℕ → B) (none : B) (n : ℕ) (u : Process → Bool) (ps : List Process) → first (those (whom n u) ps) none (λ q. f q.id) ≡ (cond (any (whom n u) ps) (f n) none)
unfolding named
by_id f none n u [] = refl
by_id f none n u (p ∷ ps) = go (whom n u p) refl (by_id f none n u ps)
  where
    go : (b : Bool) → whom n u p ≡ b → first (those (whom n u) ps) none (λ q. f q.id) ≡ (cond (any (whom n u) ps) (f n) none)
        → first (cond b (p ∷ those (whom n u) ps) (those (whom n u) ps)) none (λ q. f q.id) ≡ (cond (b || any (whom n u) ps) (f n) none)
    go true e ih = ap f (sym (eqb-true n p.id (and_left (eqb n p.id) (u p) e)))
    go false e ih = ih

-- what becomes of the caller where who has the id ends
abbrev ends_with : ℕ → Process → book.Machine → Outcome
ends_with n p m = if family n p then die n m else schedule (giving (pos 0) (ending n m plain)) (back (kill n m))

terminate_by : (p : Process) (a1 n : ℕ) (m : book.Machine) → n ≡ (if eqb a1 0 then p.id else a1)
    → terminate p a1 0 0 m ≡ (if any (whom n (may_name p)) (living m) then ends_with n p m else carry_on p (giving (negsuc 0) plain) m)
unfolding terminate
terminate_by p a1 n m e =
    ap (λ j. first (those (whom j (may_name p)) (living m)) (carry_on p (giving (negsuc 0) plain) m) (λ q. ends_with q.id p m)) (sym e)
    ∙ by_id (λ j. ends_with j p m) (carry_on p (giving (negsuc 0) plain) m) n (may_name p) (living m)

-- somebody who occurs passes; nobody does
any_occurs : (t : ℕ → Bool) (l : List ℕ) (s : ℕ) → 1 ≤ occ s l → t s ≡ true → any t l ≡ true
unfolding occ
any_occurs t [] s b e = absurd (omega arith)
any_occurs t (x ∷ l) s b e = go (ℕ_discrete x s) (λ c. any_occurs t l s c e)
  where
    go : Dec (x ≡ s) → (1 ≤ occ s l → any t l ≡ true) → (t x || any t l) ≡ true
    go (yes q) ih = rw (ap t q ∙ e)
    go (no d) ih = rw (ih (omega (arith, one_other x s d))) (or_true (t x))

any_never : (P : ℕ → Type 0) (t : ℕ → Bool) → ((x : ℕ) → P x → t x ≡ false) → (l : List ℕ) → All P l → any t l ≡ false
any_never P t h l p = any_same P t (λ x. false) h l p ∙ never l
  where
    never : (l : List ℕ) → any (λ x. false) l ≡ false
    never [] = refl
    never (x ∷ l) = never l

module _ (m : Tables) (g : Shape m) (n : ℕ) (u : Process → Bool) where
  -- the test by slot
  t : ℕ → Bool
  t s = eqb n (get_or m.ids s 0) && u (row m s)

  living_named : any (whom n u) (living (view m)) ≡ any t (seats m)
  unfolding named t
  living_named = ap (any (whom n u)) (seats_living m g) ∙ any_map (whom n u) (row m) (seats m)

  -- who has an id is found by it: the test is asked of that one alone
  found_named : 0 < n → (i : ℕ) → first_where (is_id n) 0 m.ids ≡ Some i → any (whom n u) (living (view m)) ≡ u (row m i)
  unfolding t
  found_named some i e = living_named ∙ go (u (row m i)) refl
    where
      b : i < base_slots
      b = omega (arith, first_in (is_id n) m.ids 0 i e, g.ids_long)

      is : get_or m.ids i 0 ≡ n
      is = eqb-true (get_or m.ids i 0) n (found_passes (is_id n) m.ids i e)

      here : Seat m i
      here = living_seat m g i b (omega (arith, is))

      only : (s : ℕ) → Seat m s → u (row m i) ≡ false → t s ≡ false
      only s p f = step (eqb n (get_or m.ids s 0)) refl
        where
          step : (d : Bool) → eqb n (get_or m.ids s 0) ≡ d → (d && u (row m s)) ≡ false
          step true q = let y : i ≡ s = g.once i s b p.slot (omega (arith, is)) (is ∙ eqb-true n (get_or m.ids s 0) q) in ap (λ x. u (row m x)) (sym y) ∙ f
          step false q = refl

      go : (d : Bool) → u (row m i) ≡ d → any t (seats m) ≡ d
      go true f = any_occurs t (seats m) i (omega (arith, here.once)) (and_intro _ _ (eq-eqb n (get_or m.ids i 0) (sym is)) f)
      go false f = any_never (Seat m) t (λ s p. only s p f) (seats m) (seated m g)

  -- "an id that names nobody alive"
  nobody_named : first_where (is_id n) 0 m.ids ≡ None → any (whom n u) (living (view m)) ≡ false
  unfolding t
  nobody_named e = living_named ∙ any_never (Seat m) t none (seats m) (seated m g)
    where
      none : (s : ℕ) → Seat m s → t s ≡ false
      none s p = rw (ne_eqb n (get_or m.ids s 0) (λ q. eqb-false (get_or m.ids s 0) n (found_not (is_id n) m.ids 0 e s (omega (arith, g.ids_long, p.slot))) (sym q)))

module _ (m : Tables) (g : Shape m) (runs : m.running < base_slots) (a1 n : ℕ) (e : n ≡ (if eqb a1 0 then get_or m.ids m.running 0 else a1)) where
  -- "a1 = 0 means the caller, otherwise an id": never 0
  pub named_pos : 0 < n
  named_pos = go (ℕ_discrete a1 0)
    where
      go : Dec (a1 ≡ 0) → 0 < n
      go (yes z) = let y : n ≡ get_or m.ids m.running 0 = e ∙ rw (eq-eqb a1 0 z) in omega (arith, own_id m g runs)
      go (no d) = let y : n ≡ a1 = e ∙ rw (ne_eqb a1 0 d) in omega arith

  pub ends_nobody : first_where (is_id n) 0 m.ids ≡ None → (r : Settled) → Comes (carry_on (caller m) (with_result (Some (negsuc 0))) (view m)) r
      → Comes (terminate (caller m) a1 0 0 (view m)) r
  ends_nobody h r c = comes_by _ _ r (terminate_by (caller m) a1 n (view m) e ∙ rw (nobody_named m g n (may_name (caller m)) h)) c

  -- whether the caller may name who is in a slot, by its rows
  abbrev may : ℕ → Bool
  may i = may_name_at m.customers m.parents m.ids m.running i

  as_rows : (i : ℕ) → may_name (caller m) (row m i) ≡ may i
  unfolding may_name family
  as_rows i = refl

  -- 02, (xi): "any other id gives −1"
  pub ends_forbidden : (i : ℕ) → first_where (is_id n) 0 m.ids ≡ Some i → may i ≡ false → (r : Settled) → Comes (carry_on (caller m) (with_result (Some (negsuc 0))) (view m)) r
      → Comes (terminate (caller m) a1 0 0 (view m)) r
  ends_forbidden i h forbids r c = comes_by _ _ r (terminate_by (caller m) a1 n (view m) e ∙ rw (found_named m g n (may_name (caller m)) named_pos i h, as_rows i, forbids)) c

  module _ (i : ℕ) (h : first_where (is_id n) 0 m.ids ≡ Some i) (allows : may i ≡ true) (k : Killed) (t : Kills n m k) (x : Answer) (r : Settled) where
    ends_found : terminate (caller m) a1 0 0 (view m) ≡ ends_with n (caller m) (view m)
    ends_found = terminate_by (caller m) a1 n (view m) e ∙ rw (found_named m g n (may_name (caller m)) named_pos i h, as_rows i, allows)

    -- 02, (ix): "a surviving caller with a valid target goes to the end of its ready line with result 0, then schedule"
    pub ends_other : k.tables.running < base_slots → x ≡ ended_told (Some (pos 0)) k.ended k.idled → Comes (schedule x (back (view k.tables))) r
        → Comes (terminate (caller m) a1 0 0 (view m)) r
    unfolding family
    ends_other b q c = go (kin m.parents m.ids n m.running) refl
      where
        go : (d : Bool) → kin m.parents m.ids n m.running ≡ d → Comes (terminate (caller m) a1 0 0 (view m)) r
        go true f = absurd (omega (arith, t.gone f))
        go false f = comes_by _ _ r (ends_found ∙ rw f (after_kill (λ y l. schedule y (back l)) (Some (pos 0)) n m k t x q)) c

    -- "if the caller ends, schedule"
    pub ends_caller : base_slots ≤ k.tables.running → x ≡ ended_told None k.ended k.idled → Comes (schedule x (view k.tables)) r
        → Comes (terminate (caller m) a1 0 0 (view m)) r
    unfolding family
    ends_caller b q c = go (kin m.parents m.ids n m.running) refl
      where
        go : (d : Bool) → kin m.parents m.ids n m.running ≡ d → Comes (terminate (caller m) a1 0 0 (view m)) r
        go true f = comes_by _ _ r (ends_found ∙ rw f) (dies n m k t x q r c)
        go false f = absurd (omega (arith, t.stays f))
