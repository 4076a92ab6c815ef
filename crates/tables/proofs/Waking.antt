-- The first in a line becomes ready, over machines alone.
-- Assumes nothing.
use Rattle.std.proofs.Common.{◌≡◌, ℕ, ◌+◌, ◌^◌, ◌<◌, ◌≤◌, Bool, List, [], ◌∷◌, map, length, get_or, set, sym, refl, ap, ◌∙◌, ap₂, append-nil, arith, length-set, get_or-set_other, get_or-take, get_or-set_same}
use native.Mathlib.Decide.{ℕ_discrete}
use Rattle.rules.specs.Words.{those, front, without}
use Rattle.rules.specs.Numbers.{base_slots}
use Rattle.rules.specs.Machine as book
use Rattle.rules.specs.Machine.{Process, Waiter, with_places, with_ready, at, line, wake}
use Rattle.rules.specs.Answers.{mask}
use Rattle.lines.specs.Lines.{InSlots, occ, one, taken_out, first_where, in_lines}
use Rattle.std.specs.Prelude.{Some, None}
use Rattle.lines.specs.Queues as queue
use Rattle.lines.proofs.Occ.{one_same, one_other, occ_taken_out}
use Rattle.lines.proofs.Laws.{line_size, removed_view, removed_line, first_in}
use Rattle.lines.proofs.Bridge.{without_map, without_same, front_map, occ_at, map_apart, found_front, found_without, found_nobody, found_none}
use Rattle.tables.specs.declared.Tables.{Tables}
use Rattle.tables.specs.Codes.{decode, last_code}
use Rattle.tables.specs.View.{row, waiter, waiters, view, live, Shape}
use Rattle.tables.specs.Promised.{lined_up, Wakes}
use Rattle.tables.proofs.Coding.{one_code}
use Rattle.tables.proofs.Seats.{Waits, occ_seats, waits_seat, waiting, room_both, at_line, line_of}
use Rattle.tables.proofs.Lining.{high_lined, low_lined, occ_lined, lined_seen}
use Rattle.tables.proofs.Moves.{put_waits, moved_shape, one_slot, occ_alone}

-- the machine with place i of the waiting taken out, and then made ready
abbrev pub drawn : Tables → ℕ → Tables
drawn m i = put_waits (queue.without i m.waits) (set m.lines (get_or m.waits.slots i 0) 0) m

abbrev pub awake : Tables → ℕ → Tables
awake m i = lined_up (get_or m.waits.slots i 0 ∷ []) (drawn m i)

module _ (m : Tables) (g : Shape m) (c : ℕ) (lo : 1 ≤ c) (hi : c ≤ last_code) where
  abbrev in_line : ℕ → Bool
  in_line = in_lines m.lines c c

  waits_at : (s : ℕ) → Waits m s → at (decode c) (waiter m s) ≡ in_line s
  waits_at s w = at_line m g c lo hi s w ∙ sym (one_code c (get_or m.lines s 0))

  -- the waiting of the rule book without the first in a line, by slots
  waits_without : without (at (decode c)) (view m).waiting ≡ map (waiter m) (without in_line (waiters m))
  waits_without =
      without_map (at (decode c)) (waiter m) (waiters m)
      ∙ ap (map (waiter m)) (without_same (Waits m) (λ s. at (decode c) (waiter m s)) in_line waits_at (waiters m) (waiting m g))

  pub wake_none : first_where in_line 0 (waiters m) ≡ None → Wakes (decode c) m (record { tables = m; woken = 0 })
  unfolding wake mask
  wake_none e =
      let none : line (decode c) (view m) ≡ [] = line_of m g (decode c) in_line waits_at ∙ ap (map (row m)) (found_none in_line (waiters m) 0 e) in
      record {
        seen = sym (
            ap₂ (λ (ps : List Process) (w : List Waiter). book.joined (front ps) (with_places (view m).running w (view m)))
            none (waits_without ∙ ap (map (waiter m)) (found_nobody in_line (waiters m) 0 e))
            ∙ ap₂ (λ (h l : List Process). with_ready h l m.four (view m)) (append-nil (view m).high) (append-nil (view m).low)
            );
        told = sym (ap (λ (l : List Process). mask (front l)) none);
        still = refl;
        shape = g;
      }

  module _ (i : ℕ) (e : first_where in_line 0 (waiters m) ≡ Some i) where
    abbrev s : ℕ
    s = get_or m.waits.slots i 0

    abbrev r : Tables
    r = awake m i

    pub found_place : i < m.waits.count
    found_place = omega (arith, first_in in_line (waiters m) 0 i e, line_size g.waits_line)

    long : i < length (waiters m)
    long = omega (arith, found_place, line_size g.waits_line)

    read : get_or (waiters m) i 0 ≡ s
    read = get_or-take m.waits.count m.waits.slots i 0 found_place

    here : 1 ≤ occ s (waiters m)
    here = rw read at (occ_at (waiters m) i long)

    waits_here : Waits m s
    waits_here = waits_seat m g s here

    pub found_slot : s < base_slots
    found_slot = waits_here.seat.slot

    -- whoever waits is not ready as well: there is room
    pub wake_room : m.high.count + m.low.count + 1 ≤ base_slots
    wake_room = omega (arith, room_both m g, found_place)

    abbrev d : Tables
    d = drawn m i

    slots : InSlots base_slots (s ∷ [])
    slots = one_slot s found_slot

    leaves : waiters r ≡ taken_out i (waiters m)
    leaves = removed_view base_slots m.waits.slots m.waits.count i g.waits_line found_place

    counted : (x : ℕ) → occ x (waiters r) + one s x ≡ occ x (waiters m)
    counted x = omega (arith, ap (occ x) leaves, occ_taken_out x i (waiters m) long, ap (λ y. one y x) read)

    gone : occ s (waiters r) ≡ 0
    gone = omega (arith, counted s, one_same s, waits_here.seat.once, occ_seats m s)

    first_one : front (line (decode c) (view m)) ≡ row m s ∷ []
    first_one =
        ap front (line_of m g (decode c) in_line waits_at)
        ∙ front_map (row m) (those in_line (waiters m))
        ∙ ap (map (row m)) (found_front in_line (waiters m) i e)
        ∙ ap (λ x. row m x ∷ []) read

    code_other : (x : ℕ) → (x ≡ s → ⊥) → get_or (set m.lines s 0) x 0 ≡ get_or m.lines x 0
    code_other x n = get_or-set_other m.lines s x 0 0 n

    code_own : get_or (set m.lines s 0) s 0 ≡ 0
    code_own = get_or-set_same m.lines s 0 0 (omega (arith, g.lines_long, found_slot))

    rest_stay : map (waiter r) (waiters r) ≡ without (at (decode c)) (view m).waiting
    rest_stay =
        map_apart s (waiter r) (waiter m) (λ x n. ap (λ v. at_code v (row m x)) (code_other x n)) (waiters r) gone
        ∙ ap (map (waiter m)) (leaves ∙ sym (found_without in_line (waiters m) i e))
        ∙ sym waits_without
      where
        at_code : ℕ → Process → Waiter
        at_code v p = record { process = p; line = decode v }

    pub wake_some : Wakes (decode c) m (record { tables = r; woken = 2 ^ s })
    unfolding wake mask
    wake_some = record {
      seen =
          lined_seen d g.high_line g.low_line (s ∷ []) wake_room
          ∙ ap₂ (λ (ps : List Process) (w : List Waiter). book.joined ps (with_places (view m).running w (view m))) (sym first_one) rest_stay;
      told = sym (ap mask first_one ∙ add0 (2 ^ s));
      still = refl;
      shape = moved_shape m g m.running m.four _ _ _ _ g.runner (high_lined d g.high_line g.low_line (s ∷ []) wake_room slots) (low_lined d g.high_line g.low_line (s ∷ []) wake_room slots) (removed_line base_slots m.waits.slots m.waits.count i g.waits_line found_place) (simp length-set g.lines_long)
          (λ x b. omega (arith, occ_seats m x, occ_seats r x, occ_lined d g.high_line g.low_line (s ∷ []) wake_room x, occ_alone x s, counted x))
          (λ x b. coded_now x b (ℕ_discrete x s));
    }
      where
        add0 : (n : ℕ) → n + 0 ≡ n
        add0 n = omega arith

        coded_now : (x : ℕ) → x < base_slots → Dec (x ≡ s) → (live (get_or (set m.lines s 0) x 0) ≡ occ x (waiters r)) × (get_or (set m.lines s 0) x 0 ≤ last_code)
        coded_now x b (yes q) = rw (q, code_own) (sym gone, omega arith)
        coded_now x b (no n) = rw (code_other x n) (omega (arith, g.coded x b, counted x, one_other s x (λ q. n (sym q))), g.codes x b)
