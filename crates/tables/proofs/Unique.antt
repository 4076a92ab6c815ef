-- ONE MACHINE: tables that obey the rule and stand for one machine of the rule book are one; so a promise by `view`
-- fixes the whole result.
-- Assumes nothing.
use Rattle.std.specs.Prelude.{Option, Some, None}
use Rattle.std.proofs.Common.{◌≡◌, ℕ, ◌<◌, ◌≤◌, Bool, true, false, ltb, List, [], ◌∷◌, ◌++◌, map, length, get_or, sym, refl, ap, ◌∙◌, ap₂, arith, ext_get_or, ltb-false, ltb-true, if◌then◌else◌}
use native.Mathlib.Decide.{ℕ_discrete}
use Rattle.rules.specs.Words.{first}
use Rattle.rules.specs.Numbers.{base_slots, most_processors}
use Rattle.rules.specs.Machine as book
use Rattle.rules.specs.Machine.{Process, Waiter, living, blank}
use Rattle.lines.specs.Lines.{occ, mask_of_taken}
use Rattle.lines.proofs.Laws.{line_unique}
use Rattle.lines.proofs.Bridge.{row_at}
use Rattle.tables.specs.declared.Tables.{Tables}
use Rattle.tables.specs.Codes.{encode}
use Rattle.tables.specs.View.{row, waiter, occupant, away, seat_at, highs, lows, waiters, seats, view, live, Shape}
use Rattle.seats.specs.Seats.{held_slot}
use Rattle.seats.proofs.Tabled.{table_long, table_get}
use Rattle.kin.specs.Families.{elders}
use Rattle.tables.proofs.Coding.{encode_decode}
use Rattle.kin.proofs.Climbs.{elders_top, elders_up}
use Rattle.tables.proofs.Seats.{Seat, Waits, seat, living_seat, waits_seat, seats_living, pos_live}

slots_of {ℓ} : {A : Type ℓ} (g : A → ℕ) (f : ℕ → A) → ((s : ℕ) → g (f s) ≡ s) → (l : List ℕ) → map g (map f l) ≡ l
slots_of g f h [] = refl
slots_of g f h (x ∷ l) = ap₂ (λ y (ys : List ℕ). y ∷ ys) (h x) (slots_of g f h l)

slot : Process → ℕ
slot p = p.slot

waiter_slot : Waiter → ℕ
waiter_slot w = w.process.slot

-- who runs, from the list of none or one
occupant_one : (a b : ℕ) → a ≤ base_slots → b ≤ base_slots → occupant a ≡ occupant b → a ≡ b
occupant_one a b ha hb = go (ltb a base_slots) refl (ltb b base_slots) refl
  where
    go : (x : Bool) → ltb a base_slots ≡ x → (y : Bool) → ltb b base_slots ≡ y → (if x then a ∷ [] else []) ≡ (if y then b ∷ [] else []) → a ≡ b
    go true p true q e = ap (λ (l : List ℕ). first l 0 (λ n. n)) e
    go true p false q e = let z : ◌≡◌ {A = ℕ} 0 1 = cc in absurd (omega arith)
    go false p true q e = let z : ◌≡◌ {A = ℕ} 0 1 = cc in absurd (omega arith)
    go false p false q e = omega (arith, ltb-false a base_slots p, ltb-false b base_slots q)

-- who runs in a seat, from the list of none or one
held_one : (a b : Option ℕ) → held_slot a ≡ held_slot b → a ≡ b
held_one None None e = refl
held_one None (Some y) e = let z : ◌≡◌ {A = ℕ} 0 1 = cc in absurd (omega arith)
held_one (Some x) None e = let z : ◌≡◌ {A = ℕ} 0 1 = cc in absurd (omega arith)
held_one (Some x) (Some y) e = ap (λ (l : List ℕ). Some (first l 0 (λ n. n))) e

module _ (a b : Tables) (g : Shape a) (h : Shape b) (e : view a ≡ view b) where
  running_same : a.running ≡ b.running
  unfolding slot
  running_same =
      occupant_one a.running b.running g.runner h.runner
      (sym (slots_of slot (row a) (λ s. refl) (occupant a.running)) ∙ ap (λ (m : book.Machine). map slot m.running) e ∙ slots_of slot (row b) (λ s. refl) (occupant b.running))

  highs_same : highs a ≡ highs b
  unfolding slot
  highs_same = sym (slots_of slot (row a) (λ s. refl) (highs a)) ∙ ap (λ (m : book.Machine). map slot m.high) e ∙ slots_of slot (row b) (λ s. refl) (highs b)

  lows_same : lows a ≡ lows b
  unfolding slot
  lows_same = sym (slots_of slot (row a) (λ s. refl) (lows a)) ∙ ap (λ (m : book.Machine). map slot m.low) e ∙ slots_of slot (row b) (λ s. refl) (lows b)

  waiters_same : waiters a ≡ waiters b
  unfolding waiter_slot
  waiters_same = sym (slots_of waiter_slot (waiter a) (λ s. refl) (waiters a)) ∙ ap (λ (m : book.Machine). map waiter_slot m.waiting) e ∙ slots_of waiter_slot (waiter b) (λ s. refl) (waiters b)

  -- ---- the seats
  processors_same : a.processors ≡ b.processors
  processors_same = sym (table_long a.processors (seat_at a)) ∙ ap (λ (m : book.Machine). length m.elsewhere) e ∙ table_long b.processors (seat_at b)

  seat_same : (k : ℕ) → k < a.processors → seat_at a k ≡ seat_at b k
  seat_same k l =
      sym (table_get a.processors k (seat_at a) blank l)
      ∙ ap (λ (m : book.Machine). get_or m.elsewhere k blank) e
      ∙ table_get b.processors k (seat_at b) blank (omega (arith, l, processors_same))

  bench : {A : Type 0} (d : A) (l r : List A) → length l ≡ most_processors → length r ≡ most_processors → ((k : ℕ) → k < a.processors → get_or l k d ≡ get_or r k d)
      → ((k : ℕ) → a.processors ≤ k → get_or l k d ≡ d) → ((k : ℕ) → b.processors ≤ k → get_or r k d ≡ d) → l ≡ r
  bench d l r x y some none₁ none₂ = ext_get_or d l r (x ∙ sym y) (λ k _. go k (ltb k a.processors) refl)
    where
      go : (k : ℕ) (t : Bool) → ltb k a.processors ≡ t → get_or l k d ≡ get_or r k d
      go k true q = some k (ltb-true k a.processors q)
      go k false q = let past = ltb-false k a.processors q in none₁ k past ∙ sym (none₂ k (omega (arith, past, processors_same)))

  runners_same : a.runners ≡ b.runners
  unfolding slot
  runners_same = bench None a.runners b.runners g.runners_long h.runners_long one g.no_runner h.no_runner
    where
      one : (k : ℕ) → k < a.processors → get_or a.runners k None ≡ get_or b.runners k None
      one k l = held_one (get_or a.runners k None) (get_or b.runners k None) (
          sym (slots_of slot (row a) (λ s. refl) (held_slot (get_or a.runners k None)))
          ∙ ap (λ (s : book.Seat). map slot s.running) (seat_same k l)
          ∙ slots_of slot (row b) (λ s. refl) (held_slot (get_or b.runners k None))
          )

  lasts_same : a.lasts ≡ b.lasts
  lasts_same = bench 0 a.lasts b.lasts g.lasts_long h.lasts_long (λ k l. ap (λ (s : book.Seat). s.last) (seat_same k l)) g.no_last h.no_last

  idles_same : a.idles ≡ b.idles
  idles_same = bench 0 a.idles b.idles g.idles_long h.idles_long (λ k l. ap (λ (s : book.Seat). s.idle) (seat_same k l)) g.no_idle h.no_idle

  seats_same : seats a ≡ seats b
  seats_same = λ i. occupant (running_same i) ++ (away (runners_same i) ++ (highs_same i ++ lows_same i ++ waiters_same i))

  living_same : map (row a) (seats a) ≡ map (row b) (seats b)
  living_same = sym (seats_living a g) ∙ ap living e ∙ seats_living b h

  row_same : (s : ℕ) → Seat a s → row a s ≡ row b s
  row_same s p = row_at (row a) (row b) (seats a) (living_same ∙ ap (map (row b)) (sym seats_same)) s (omega (arith, p.once))

  seat_too : (s : ℕ) → Seat a s → Seat b s
  seat_too s p = seat b h s (omega (arith, p.once, ap (occ s) seats_same))

  -- one fact of each slot: for the living by their rows, for the free by zeros
  each : (Q : ℕ → Type 0) → ((s : ℕ) → Seat a s → Seat b s → row a s ≡ row b s → Q s) → ((s : ℕ) → s < base_slots → get_or a.ids s 0 ≡ 0 → get_or b.ids s 0 ≡ 0 → Q s) → (s : ℕ) → s < base_slots → Q s
  each Q some none s k = go (ℕ_discrete (get_or a.ids s 0) 0) (ℕ_discrete (get_or b.ids s 0) 0)
    where
      go : Dec (get_or a.ids s 0 ≡ 0) → Dec (get_or b.ids s 0 ≡ 0) → Q s
      go (yes x) (yes y) = none s k x y
      go (yes x) (no y) = absurd (omega (arith, (living_seat b h s k (omega arith)).once, ap (occ s) seats_same, g.homes s k, ap live x))
      go (no x) y = let p = living_seat a g s k (omega arith) in some s p (seat_too s p) (row_same s p)

  array_of : {A : Type 0} (d : A) (l r : List A) → length l ≡ base_slots → length r ≡ base_slots → ((s : ℕ) → s < base_slots → get_or l s d ≡ get_or r s d) → l ≡ r
  array_of d l r x y f = ext_get_or d l r (x ∙ sym y) (λ i c. f i (omega arith))

  array : (l r : List ℕ) → length l ≡ base_slots → length r ≡ base_slots → ((s : ℕ) → s < base_slots → get_or l s 0 ≡ get_or r s 0) → l ≡ r
  array = array_of 0

  ids_same : (s : ℕ) → s < base_slots → get_or a.ids s 0 ≡ get_or b.ids s 0
  ids_same = each _ (λ s p q r. ap (λ (x : Process). x.id) r) (λ s k x y. x ∙ sym y)

  -- who waits has a code, and nobody else
  lines_same : (s : ℕ) → s < base_slots → get_or a.lines s 0 ≡ get_or b.lines s 0
  lines_same s k = go (ℕ_discrete (get_or a.lines s 0) 0) (ℕ_discrete (get_or b.lines s 0) 0)
    where
      waits_a : (get_or a.lines s 0 ≡ 0 → ⊥) → Waits a s
      waits_a n = waits_seat a g s (omega (arith, g.coded s k, pos_live (get_or a.lines s 0) (omega arith)))

      waits_b : (get_or b.lines s 0 ≡ 0 → ⊥) → Waits b s
      waits_b n = waits_seat b h s (omega (arith, h.coded s k, pos_live (get_or b.lines s 0) (omega arith)))

      go : Dec (get_or a.lines s 0 ≡ 0) → Dec (get_or b.lines s 0 ≡ 0) → get_or a.lines s 0 ≡ get_or b.lines s 0
      go (yes x) (yes y) = x ∙ sym y
      go (yes x) (no y) = absurd (omega (arith, g.coded s k, ap live x, h.coded s k, pos_live (get_or b.lines s 0) (omega arith), ap (occ s) waiters_same))
      go (no x) (yes y) = absurd (omega (arith, h.coded s k, ap live y, g.coded s k, pos_live (get_or a.lines s 0) (omega arith), ap (occ s) waiters_same))
      go (no x) (no y) =
          let p = waits_a x in
          let q = waits_b y in
          let w : waiter a s ≡ waiter b s = row_at (waiter a) (waiter b) (waiters a) (ap (λ (m : book.Machine). m.waiting) e ∙ ap (map (waiter b)) (sym waiters_same)) s (omega (arith, g.coded s k, pos_live (get_or a.lines s 0) (omega arith))) in
          sym (encode_decode (get_or a.lines s 0) p.there p.known) ∙ ap (λ (x : Waiter). encode x.line) w ∙ encode_decode (get_or b.lines s 0) q.there q.known

  no_parent : (m : Tables) → Shape m → (s : ℕ) → s < base_slots → get_or m.ids s 0 ≡ 0 → get_or m.parents s None ≡ None
  no_parent m w s k z = go (get_or m.parents s None) refl
    where
      go : (u : Option ℕ) → get_or m.parents s None ≡ u → u ≡ None
      go None q = refl
      go (Some p) q = absurd (omega (arith, (w.parent s p k q).older, z))

  parents_same : (s : ℕ) → s < base_slots → get_or a.parents s None ≡ get_or b.parents s None
  parents_same = each _ (λ s p q r. go s p (ap (λ (x : Process). x.ancestors) r) (get_or a.parents s None) refl (get_or b.parents s None) refl) (λ s k x y. no_parent a g s k x ∙ sym (no_parent b h s k y))
    where
      go : (s : ℕ) → Seat a s → elders a.parents a.ids s ≡ elders b.parents b.ids s → (u : Option ℕ) → get_or a.parents s None ≡ u → (v : Option ℕ) → get_or b.parents s None ≡ v → u ≡ v
      go s p r None x None y = refl
      go s p r None x (Some q) y =
          let z : [] ≡ get_or b.ids q 0 ∷ elders b.parents b.ids q = sym (elders_top a.parents a.ids g.parent s p.slot x) ∙ r ∙ elders_up b.parents b.ids h.parent s q p.slot y in
          let w : ◌≡◌ {A = ℕ} 0 1 = cc in absurd (omega arith)
      go s p r (Some q) x None y =
          let z : get_or a.ids q 0 ∷ elders a.parents a.ids q ≡ [] = sym (elders_up a.parents a.ids g.parent s q p.slot x) ∙ r ∙ elders_top b.parents b.ids h.parent s p.slot y in
          let w : ◌≡◌ {A = ℕ} 0 1 = cc in absurd (omega arith)
      go s p r (Some t) x (Some q) y =
          let z : get_or a.ids t 0 ∷ elders a.parents a.ids t ≡ get_or b.ids q 0 ∷ elders b.parents b.ids q =
          sym (elders_up a.parents a.ids g.parent s t p.slot x) ∙ r ∙ elders_up b.parents b.ids h.parent s q p.slot y in
          let w : get_or a.ids t 0 ≡ get_or b.ids q 0 = ap (λ (l : List ℕ). first l 0 (λ n. n)) z in
          let u = g.parent s t p.slot x in
          let v = h.parent s q p.slot y in
          ap Some (g.once t q u.slot v.slot u.alive (w ∙ sym (ids_same q v.slot)))

  pub view_unique : a ≡ b
  view_unique =
      let high = line_unique g.high_line h.high_line highs_same in
      let low = line_unique g.low_line h.low_line lows_same in
      let waits = line_unique g.waits_line h.waits_line waiters_same in
      let ids = array a.ids b.ids g.ids_long h.ids_long ids_same in
      let taken : a.taken ≡ b.taken = g.taken_mask ∙ ap (mask_of_taken base_slots) ids ∙ sym h.taken_mask in
      let parents = array_of None a.parents b.parents g.parents_long h.parents_long parents_same in
      let customers = array a.customers b.customers g.customers_long h.customers_long (each _ (λ s p q r. ap (λ (x : Process). x.customer) r) (λ s k x y. g.no_customer s k x ∙ sym (h.no_customer s k y))) in
      let priorities = array a.priorities b.priorities g.priorities_long h.priorities_long (each _ (λ s p q r. ap (λ (x : Process). x.priority) r) (λ s k x y. g.no_priority s k x ∙ sym (h.no_priority s k y))) in
      let handles = array a.handles b.handles g.handles_long h.handles_long (each _ (λ s p q r. ap (λ (x : Process). x.handle) r) (λ s k x y. g.no_handle s k x ∙ sym (h.no_handle s k y))) in
      let times = array a.times b.times g.times_long h.times_long (each _ (λ s p q r. ap (λ (x : Process). x.time) r) (λ s k x y. g.no_time s k x ∙ sym (h.no_time s k y))) in
      let lines = array a.lines b.lines g.lines_long h.lines_long lines_same in
      let status = ap (λ (m : book.Machine). m.status) e in
      λ i. record {
        ids = ids i;
        taken = taken i;
        parents = parents i;
        customers = customers i;
        priorities = priorities i;
        handles = handles i;
        times = times i;
        lines = lines i;
        high = record { slots = high.0 i; count = high.1 i };
        low = record { slots = low.0 i; count = low.1 i };
        four = (e i).four;
        waits = record { slots = waits.0 i; count = waits.1 i };
        running = running_same i;
        sems = (e i).sems;
        ceilings = (e i).ceilings;
        next = (e i).next;
        status = status i;
        last = (e i).last;
        total = (e i).total;
        idle = (e i).idle;
        ended = (e i).ended;
        runners = runners_same i;
        lasts = lasts_same i;
        idles = idles_same i;
        processors = processors_same i;
      }
