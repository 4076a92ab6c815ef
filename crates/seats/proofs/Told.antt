-- The mask of processors, summed by their numbers, is the rule book's.
use Rattle.std.specs.Prelude.{Option, Some, None, if◌then◌else◌}
use Rattle.std.specs.List.{list_any}
use mathlib.Core.Path.{◌≡◌, refl, sym, ◌∙◌, ap}
use mathlib.Core.Bool.{Bool, true, false, ◌||◌}
use mathlib.Core.List.{List, [], ◌∷◌, map}
use Prim.Native.Nat.{ℕ, zero, suc, ◌+◌, ◌^◌, ◌≤◌, ◌<◌}
use native.Mathlib.Nat.{zero-add}
use native.Mathlib.Omega.{arith}
use lib.Dec.{eqb}
use lib.ListN.{get_or}
use borrow.Author.Tests.{eqb-true, eqb-false}
use Rattle.rules.specs.Words.{first, any}
use Rattle.rules.specs.Numbers.{base_slots, most_processors}
use Rattle.rules.specs.Machine.{Process, Seat, seated_in, family, rid_of}
use Rattle.rules.specs.Answers.{processors_of}
use Rattle.lines.specs.Lines.{marked, tally, blanked}
use Rattle.lines.proofs.Occ.{tally_front, tally_same}
use Rattle.lines.proofs.Marks.{get_or_blanked}
use Rattle.seats.specs.Seats.{table, held_slot, seat, IsSeat, InSeats, held_by, leaving_of, runs_somewhere}
use Rattle.seats.proofs.Leave.{get_or_leaving}

abbrev weight : (Process → Bool) → ℕ → (ℕ → Seat) → ℕ → ℕ
weight t b g k = if any t (g k).running then 2 ^ (b + k) else 0

pub named_tally : (t : Process → Bool) (n b : ℕ) (g : ℕ → Seat) → processors_of t b (table n g) ≡ tally (weight t b g) n
unfolding tally
named_tally t zero b g = refl
named_tally t (suc n) b g =
    let rest : tally (weight t (suc b) (λ k. g (suc k))) n ≡ tally (λ k. weight t b g (suc k)) n = tally_same _ _ n (λ k _. let e : suc b + k ≡ b + suc k = omega arith in ap (λ (i : ℕ). if any t (g (suc k)).running then 2 ^ i else 0) e) in
    let head : (if any t (g 0).running then 2 ^ b else 0) ≡ weight t b g 0 = let e : b ≡ b + 0 = omega arith in ap (λ (i : ℕ). if any t (g 0).running then 2 ^ i else 0) e in
    omega (arith, head, rest, named_tally t n (suc b) (λ k. g (suc k)), tally_front (weight t b g) n)

-- nothing is counted past a number
pub tally_stop : (h : ℕ → ℕ) (n m : ℕ) → n ≤ m → ((k : ℕ) → n ≤ k → h k ≡ 0) → tally h m ≡ tally h n
unfolding tally
tally_stop h n zero l e = let z : n ≡ 0 = omega arith in rw z refl
tally_stop h n (suc m) l e = go (eqb n (suc m)) refl (λ low. tally_stop h n m low e)
  where
    go : (b : Bool) → eqb n (suc m) ≡ b → (n ≤ m → tally h m ≡ tally h n) → tally h (suc m) ≡ tally h n
    go true q f = let z = eqb-true n (suc m) q in rw z refl
    go false q f = let z = eqb-false n (suc m) q in let low : n ≤ m = omega (arith, l, z) in omega (arith, e m low, f low)

-- ── Marks by slot, and by processor ──

module _ (t : Process → Bool) (row : ℕ → Process) (ds : List Bool) (agree : (s : ℕ) → s < base_slots → marked ds s ≡ t (row s)) where
  held_any : (c : Option ℕ) → IsSeat c → held_by ds c ≡ any t (map row (held_slot c))
  held_any None h = refl
  held_any (Some s) h = agree s h ∙ go (t (row s))
    where
      go : (b : Bool) → b ≡ b || false
      go true = refl
      go false = refl

  -- the mask that the desk sums is the rule book's
  pub mask_told : (n : ℕ) (cs : List (Option ℕ)) (l i : ℕ → ℕ) → n ≤ most_processors → InSeats cs → ((k : ℕ) → n ≤ k → get_or cs k None ≡ None)
      → tally (λ k. if marked (leaving_of ds cs) k then 2 ^ k else 0) most_processors ≡ processors_of t 0 (table n (λ k. seat row (get_or cs k None) (l k) (i k)))
  mask_told n cs l i few low none =
      tally_stop _ n most_processors few (λ k h. rw (get_or_leaving ds cs k, none k h) refl)
      ∙ tally_same _ _ n (λ k _. rw (get_or_leaving ds cs k, held_any (get_or cs k None) (low k), zero-add k) refl)
      ∙ sym (named_tally t n 0 (λ k. seat row (get_or cs k None) (l k) (i k)))

-- ── Somebody runs elsewhere ──

-- the library's `any` is the rule book's
pub any_listed : {A : Type 0} (t : A → Bool) (l : List A) → list_any t l ≡ any t l
any_listed t [] = refl
any_listed t (x ∷ l) = ap (λ b. t x || b) (any_listed t l)

nobody_seated : (row : ℕ → Process) (n : ℕ) (l i : ℕ → ℕ) → seated_in (table n (λ k. seat row None (l k) (i k))) ≡ []
nobody_seated row zero l i = refl
nobody_seated row (suc n) l i = nobody_seated row n (λ k. l (suc k)) (λ k. i (suc k))

nobody_there : (cs : List (Option ℕ)) → ((k : ℕ) → get_or cs k None ≡ None) → runs_somewhere cs ≡ false
nobody_there [] h = refl
nobody_there (c ∷ cs) h = rw (h 0) (nobody_there cs (λ k. h (suc k)))

pub runs_told : (row : ℕ → Process) (cs : List (Option ℕ)) (n : ℕ) (l i : ℕ → ℕ) → ((k : ℕ) → n ≤ k → get_or cs k None ≡ None)
    → runs_somewhere cs ≡ first (seated_in (table n (λ k. seat row (get_or cs k None) (l k) (i k)))) false (λ p. true)
runs_told row [] n l i none = rw (nobody_seated row n l i) refl
runs_told row (c ∷ cs) zero l i none = nobody_there (c ∷ cs) (λ k. none k (omega arith))
runs_told row (None ∷ cs) (suc n) l i none = runs_told row cs n (λ k. l (suc k)) (λ k. i (suc k)) (λ k h. none (suc k) (omega (arith, h)))
runs_told row (Some s ∷ cs) (suc n) l i none = refl

-- ── Who is rid of whom ──

-- a seat after the end of the family n: its place empty where whoever runs is marked; the rows of the others are as
-- they were
pub rid_told : (n : ℕ) (row row' : ℕ → Process) (ds : List Bool) → ((s : ℕ) → s < base_slots → marked ds s ≡ family n (row s))
    → ((s : ℕ) → s < base_slots → marked ds s ≡ false → row' s ≡ row s)
    → (cs : List (Option ℕ)) (k l i : ℕ) → IsSeat (get_or cs k None) → seat row' (get_or (blanked None (leaving_of ds cs) cs) k None) l i ≡ rid_of n (seat row (get_or cs k None) l i)
rid_told n row row' ds agree same cs k l i low = rw (get_or_blanked None (leaving_of ds cs) cs k, get_or_leaving ds cs k) (go (get_or cs k None) low)
  where
    one : (s : ℕ) → s < base_slots → (b : Bool) → marked ds s ≡ b → seat row' (if b then None else Some s) l i ≡ rid_of n (seat row (Some s) l i)
    one s h true e = rw (sym (agree s h) ∙ e) refl
    one s h false e = rw (sym (agree s h) ∙ e, same s h e) refl

    go : (c : Option ℕ) → IsSeat c → seat row' (if held_by ds c then None else c) l i ≡ rid_of n (seat row c l i)
    go None h = refl
    go (Some s) h = one s h (marked ds s) refl
