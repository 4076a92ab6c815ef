-- The call −1, over machines alone: which slot is the lowest free one, that there is one for a customer below its
-- ceiling, and what the call comes to.
-- Assumes nothing.
use Rattle.std.specs.Prelude.{if◌then◌else◌, Some, None}
use mathlib.Core.Path.{◌≡◌, refl, sym, ap, ◌∙◌}
use mathlib.Core.Bool.{Bool, true, false, not, ◌||◌}
use mathlib.Core.List.{List, [], ◌∷◌, map}
use Prim.Native.Nat.{ℕ, ◌+◌, ◌<◌, ◌≤◌}
use native.Mathlib.Omega.{arith}
use native.Mathlib.Decide.{ℕ_discrete}
use lib.Dec.{eqb, leb, ltb}
use lib.IntN.{pos, negsuc}
use lib.ListN.{length, get_or, length-map}
use borrow.Author.Tests.{eq-eqb, ne_eqb, eqb-true, leb-false, lt-ltb, le-ltb}
use Rattle.rules.specs.Words.{among}
use Rattle.rules.specs.Numbers.{base_slots, base_customers, top}
use Rattle.rules.specs.Machine.{Process, living, child_of, lowest_free, birth}
use Rattle.rules.specs.Answers.{giving, bearing, plain}
use Rattle.rules.specs.Rules.{create, carry_on, denied}
use Rattle.rules.proofs.Cases.{or_true}
use Rattle.rules.specs.Tables.{Sound}
use Rattle.rules.proofs.Sound.{or_right, below_ceiling, room}
use Rattle.lines.specs.Lines.{first_where, is_zero, occ, one, members_of}
use Rattle.lines.proofs.Occ.{room_none}
use Rattle.lines.proofs.Laws.{first_in}
use Rattle.lines.proofs.Bridge.{found_passes, found_not}
use Rattle.lines.proofs.Lowest.{lowest_is}
use Rattle.tables.specs.declared.Tables.{Tables}
use Rattle.tables.specs.View.{row, seats, view, Shape}
use Rattle.kin.specs.Families.{at_ceiling}
use Rattle.tables.specs.Promised.{Step}
use Rattle.answers.specs.Parts.{with_result}
use Rattle.tables.proofs.Seats.{seats_living, seats_slots, members}
use Rattle.calls.proofs.Newborns.{born, born_shape, birth_step}

abbrev pub at_its_ceiling : Tables → ℕ → Bool
at_its_ceiling m c = at_ceiling m.ids m.customers m.ceilings c

-- the customer of a child of whoever runs
abbrev pub child : Tables → ℕ → ℕ
child m priority = child_of (get_or m.customers m.running 0) priority

-- ---- the lowest free slot
-- the slots that rows hold
abbrev held : Tables → List ℕ → List ℕ
held m l = map (λ (p : Process). p.slot) (map (row m) l)

held_among : (m : Tables) (s : ℕ) (l : List ℕ) → among s (held m l) ≡ not (eqb (occ s l) 0)
unfolding occ
held_among m s [] = refl
held_among m s (x ∷ l) = go (ℕ_discrete x s) (held_among m s l)
  where
    go : Dec (x ≡ s) → among s (held m l) ≡ not (eqb (occ s l) 0) → (eqb s x || among s (held m l)) ≡ not (eqb (one x s + occ s l) 0)
    go (yes e) h = rw (eq-eqb s x (sym e), eq-eqb x s e, ne_eqb (1 + occ s l) 0 (λ z. let y : ⊥ = omega arith in y))
    go (no n) h = let z : 0 + occ s l ≡ occ s l = omega arith in rw (ne_eqb s x (λ e. n (sym e)), ne_eqb x s n, z) h

module _ (m : Tables) (g : Shape m) where
  -- a slot is held exactly where its id is not zero
  taken : (s : ℕ) → s < base_slots → among s (held m (seats m)) ≡ not (is_zero (get_or m.ids s 0))
  taken s b = held_among m s (seats m) ∙ rw (g.homes s b) (go (eqb (get_or m.ids s 0) 0))
    where
      go : (t : Bool) → not (eqb (if t then 0 else 1) 0) ≡ not t
      go true = refl
      go false = refl

  size : length (living (view m)) ≡ length (seats m)
  size = ap length (seats_living m g) ∙ length-map (seats m) (row m)

  -- "the child's customer is at its ceiling, the named customer is above 8, or ids have run out": the first two by the
  -- rows and the ceilings
  pub denied_is : (c : ℕ) → denied c (view m) ≡ (at_its_ceiling m c || ltb top m.next)
  unfolding denied
  denied_is c = rw (members m g c)

  -- no row is free
  none_left : first_where is_zero 0 m.ids ≡ None → length (seats m) ≡ base_slots
  none_left e =
      room_none base_slots (seats m) (seats_slots m g)
      (λ s b. g.homes s b ∙ ap (λ t. if t then 0 else 1) (found_not is_zero m.ids 0 e s (omega (arith, g.ids_long))))

  module _ (s : ℕ) (e : first_where is_zero 0 m.ids ≡ Some s) where
    pub found_slot : s < base_slots
    found_slot = omega (arith, first_in is_zero m.ids 0 s e, g.ids_long)

    pub found_free : get_or m.ids s 0 ≡ 0
    found_free = eqb-true (get_or m.ids s 0) 0 (found_passes is_zero m.ids s e)

    lowest_found : lowest_free (view m) ≡ s
    unfolding lowest_free
    lowest_found = rw (seats_living m g) (lowest_is base_slots (held m (seats m)) m.ids g.ids_long taken s e)

  module _ (priority handle : ℕ) where
    -- "create now gives −1 exactly when .."
    refused : denied (child m priority) (view m) ≡ true → create (row m m.running) 0 priority handle (view m) ≡ carry_on (row m m.running) (with_result (Some (negsuc 0))) (view m)
    unfolding create
    refused e = rw e

    pub create_ids : top < m.next → create (row m m.running) 0 priority handle (view m) ≡ carry_on (row m m.running) (with_result (Some (negsuc 0))) (view m)
    create_ids k = refused (denied_is (child m priority) ∙ rw (lt-ltb top m.next k) (or_true (at_its_ceiling m (child m priority))))

    pub create_ceiling : at_its_ceiling m (child m priority) ≡ true → create (row m m.running) 0 priority handle (view m) ≡ carry_on (row m m.running) (with_result (Some (negsuc 0))) (view m)
    create_ceiling e = refused (denied_is (child m priority) ∙ rw e)

    pub create_shape : m.running < base_slots → (s : ℕ) → first_where is_zero 0 m.ids ≡ Some s → Shape (born m s (child m priority) priority handle)
    create_shape h s e = born_shape m g h s (child m priority) priority handle (found_slot s e) (found_free s e)

    -- below the ceiling, with ids left
    module _ (below : at_its_ceiling m (child m priority) ≡ false) (k : m.next ≤ top) where
      granted : denied (child m priority) (view m) ≡ false
      granted = denied_is (child m priority) ∙ rw (below, le-ltb top m.next k)

      -- "0 to 8"
      pub create_customer : child m priority < base_customers
      create_customer =
          omega (
            arith,
            leb-false (length m.ceilings) (child m priority)
                (or_right (leb (get_or m.ceilings (child m priority) 0) (members_of base_slots m.ids m.customers (child m priority))) (leb (length m.ceilings) (child m priority)) below),
            g.ceilings_long,
          )

      -- a slot is free: that none is left cannot be
      pub create_slots : Sound (view m) → first_where is_zero 0 m.ids ≡ None → ⊥
      create_slots sound e = omega (arith, room (child m priority) (view m) sound (below_ceiling (child m priority) (view m) granted), size, none_left e)

      pub create_born : m.running < base_slots → (s : ℕ) → first_where is_zero 0 m.ids ≡ Some s
          → create (row m m.running) 0 priority handle (view m)
          ≡ carry_on (row (born m s (child m priority) priority handle) m.running) (giving (pos m.next) (bearing s plain)) (view (born m s (child m priority) priority handle))
      unfolding create carry_on
      create_born h s e =
          let low = lowest_found s e in
          let st : Step (birth (row m m.running) priority handle) m (born m s (child m priority) priority handle) =
          birth_step m g h s (child m priority) priority handle (found_slot s e) (found_free s e) low refl in
          rw (granted, low) (ap (carry_on (row m m.running) (giving (pos m.next) (bearing s plain))) (sym st.seen))
