-- Who runs on the other processors, by their seats.
-- Assumes nothing.
use Rattle.std.specs.Prelude.{Option, Some, None}
use Rattle.std.proofs.Common.{◌≡◌, ℕ, zero, suc, ◌+◌, ◌<◌, ◌≤◌, Bool, true, false, ltb, List, [], ◌∷◌, ◌++◌, map, length, get_or, set, sym, refl, ap, ◌∙◌, ap₂, arith, ltb-true, lt-ltb, if◌then◌else◌}
use mathlib.Core.List.{map-append}
use Rattle.rules.specs.Words.{those}
use Rattle.rules.proofs.Lines.{those_append}
use Rattle.rules.specs.Numbers.{base_slots}
use Rattle.rules.specs.Machine.{Process, Seat, seated_in}
use Rattle.lines.specs.Lines.{InSlots, occ, marked, alive, blanked}
use Rattle.lines.proofs.Occ.{occ_append, one_same}
use Rattle.lines.proofs.Bridge.{slots_append}
use Rattle.seats.specs.Seats.{table, held_slot, seat, IsSeat, InSeats, held_by, leaving_of}
use Rattle.seats.proofs.Tabled.{table_same}
use Rattle.tables.specs.View.{occupant, away, seated, slot_of}

occ_one : (s : ℕ) → occ s (s ∷ []) ≡ 1
unfolding occ
occ_one s = omega (arith, one_same s)

abbrev one_seat : Process → ℕ → ℕ → Seat
one_seat p l i = record { running = p ∷ []; last = l; idle = i }

-- ---- who runs, here and in a seat
-- a seat and what is here name the same slot
pub occupant_slot : (c : Option ℕ) → IsSeat c → occupant (slot_of c) ≡ held_slot c
occupant_slot None h = refl
occupant_slot (Some s) h = rw (lt-ltb s base_slots h)

pub held_seated : (r : ℕ) → held_slot (seated r) ≡ occupant r
held_seated r = go (ltb r base_slots)
  where
    go : (b : Bool) → held_slot (if b then Some r else None) ≡ (if b then r ∷ [] else [])
    go true = refl
    go false = refl

pub seated_low : (r : ℕ) → IsSeat (seated r)
seated_low r = go (ltb r base_slots) refl
  where
    go : (b : Bool) → ltb r base_slots ≡ b → IsSeat (if b then Some r else None)
    go true e = ltb-true r base_slots e
    go false e = tt

pub slot_low : (c : Option ℕ) → IsSeat c → slot_of c ≤ base_slots
slot_low None h = omega arith
slot_low (Some s) h = omega (arith, h)

-- ---- the living that run elsewhere
away_none : (cs : List (Option ℕ)) → ((k : ℕ) → get_or cs k None ≡ None) → away cs ≡ []
away_none [] h = refl
away_none (c ∷ cs) h = ap₂ (λ (a b : List ℕ). a ++ b) (ap held_slot (h 0)) (away_none cs (λ k. h (suc k)))

nobody_in : (row : ℕ → Process) (n : ℕ) (l i : ℕ → ℕ) → seated_in (table n (λ k. seat row None (l k) (i k))) ≡ []
nobody_in row zero l i = refl
nobody_in row (suc n) l i = nobody_in row n (λ k. l (suc k)) (λ k. i (suc k))

pub seated_away : (row : ℕ → Process) (cs : List (Option ℕ)) (n : ℕ) (l i : ℕ → ℕ) → ((k : ℕ) → n ≤ k → get_or cs k None ≡ None) → seated_in (table n (λ k. seat row (get_or cs k None) (l k) (i k))) ≡ map row (away cs)
seated_away row [] n l i none = nobody_in row n l i
seated_away row (c ∷ cs) zero l i none = sym (ap (map row) (away_none (c ∷ cs) (λ k. none k (omega arith))))
seated_away row (c ∷ cs) (suc n) l i none =
    ap (λ (ps : List Process). map row (held_slot c) ++ ps) (seated_away row cs n (λ k. l (suc k)) (λ k. i (suc k)) (λ k h. none (suc k) (omega (arith, h))))
    ∙ sym (map-append row (held_slot c) (away cs))

-- whoever has a seat is among them
pub held_there : (cs : List (Option ℕ)) (k s : ℕ) → get_or cs k None ≡ Some s → 1 ≤ occ s (away cs)
held_there [] k s e = let z : ◌≡◌ {A = ℕ} 0 1 = cc in absurd (omega arith)
held_there (c ∷ cs) zero s e = omega (arith, occ_append s (held_slot c) (away cs), ap (λ x. occ s (held_slot x)) e ∙ occ_one s)
held_there (c ∷ cs) (suc k) s e = omega (arith, occ_append s (held_slot c) (away cs), held_there cs k s e)

-- the same seats, where the rows of those who have one are the same
pub seats_alike : (row row' : ℕ → Process) (cs : List (Option ℕ)) → ((s : ℕ) → 1 ≤ occ s (away cs) → row s ≡ row' s)
    → (n : ℕ) (l i : ℕ → ℕ) → table n (λ k. seat row (get_or cs k None) (l k) (i k)) ≡ table n (λ k. seat row' (get_or cs k None) (l k) (i k))
seats_alike row row' cs same n l i = table_same n _ _ (λ k _. go k (get_or cs k None) refl)
  where
    go : (k : ℕ) (c : Option ℕ) → get_or cs k None ≡ c → seat row c (l k) (i k) ≡ seat row' c (l k) (i k)
    go k None e = refl
    go k (Some s) e = ap (λ (p : Process). one_seat p (l k) (i k)) (same s (held_there cs k s e))

-- ---- slots
held_slots : (c : Option ℕ) → IsSeat c → InSlots base_slots (held_slot c)
held_slots None h i b = absurd (omega arith)
held_slots (Some s) h zero b = h
held_slots (Some s) h (suc i) b = absurd (omega arith)

pub away_slots : (cs : List (Option ℕ)) → InSeats cs → InSlots base_slots (away cs)
away_slots [] h i b = absurd (omega arith)
away_slots (c ∷ cs) h i b = slots_append base_slots (held_slot c) (away cs) (held_slots c (h 0)) (away_slots cs (λ k. h (suc k))) i b

-- ---- a seat is taken, and those who end leave theirs
pub away_set : (x : ℕ) (cs : List (Option ℕ)) (k : ℕ) (c : Option ℕ) → k < length cs → occ x (away (set cs k c)) + occ x (held_slot (get_or cs k None)) ≡ occ x (away cs) + occ x (held_slot c)
away_set x [] k c h = absurd (omega arith)
away_set x (d ∷ cs) zero c h = omega (arith, occ_append x (held_slot c) (away cs), occ_append x (held_slot d) (away cs))
away_set x (d ∷ cs) (suc k) c h = omega (arith, occ_append x (held_slot d) (away (set cs k c)), occ_append x (held_slot d) (away cs), away_set x cs k c (omega (arith, h)))

pub away_struck : (ds : List Bool) (cs : List (Option ℕ)) → away (blanked None (leaving_of ds cs) cs) ≡ those (alive ds) (away cs)
unfolding leaving_of blanked
away_struck ds [] = refl
away_struck ds (c ∷ cs) =
    ap₂ (λ (a b : List ℕ). a ++ b) (held c) (away_struck ds cs)
    ∙ sym (those_append (alive ds) (held_slot c) (away cs))
  where
    one_left : (s : ℕ) (b : Bool) → marked ds s ≡ b → held_slot (if b then None else Some s) ≡ those (alive ds) (s ∷ [])
    one_left s true e = rw e
    one_left s false e = rw e

    held : (c : Option ℕ) → held_slot (if held_by ds c then None else c) ≡ those (alive ds) (held_slot c)
    held None = refl
    held (Some s) = one_left s (marked ds s) refl
