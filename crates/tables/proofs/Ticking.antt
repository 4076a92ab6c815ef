-- All who wait for the pseudo-clock become ready, over machines alone.
-- Assumes nothing.
use Rattle.std.proofs.Common.{◌≡◌, ℕ, ◌+◌, ◌^◌, ◌<◌, ◌≤◌, Bool, true, false, not, ◌&&◌, eqb, List, [], ◌∷◌, map, length, get_or, sym, refl, ap, ◌∙◌, subst, ap₂, arith, eqb-true, if◌then◌else◌}
use Rattle.rules.specs.declared.Line.TheVariants.{PseudoClock}
use Rattle.rules.specs.Words.{those}
use Rattle.rules.proofs.Sums.{sum_over}
use Rattle.rules.specs.Numbers.{base_slots}
use Rattle.rules.specs.Machine as book
use Rattle.rules.specs.Machine.{Process, Waiter, with_places, at, line, wake_all}
use Rattle.rules.specs.Answers.{mask}
use Rattle.lines.specs.Lines.{InSlots, occ, marked, alive, joining, struck, tally}
use Rattle.lines.specs.Queues.{longer, only}
use Rattle.lines.proofs.Occ.{occ_keep, sum_marked}
use Rattle.lines.proofs.Marks.{get_or_struck, length_struck}
use Rattle.lines.proofs.Laws.{line_size, keep_le, kept_view, kept_line, slots_keep}
use Rattle.lines.proofs.Bridge.{those_map, those_same, map_same, passing, part_sizes}
use Rattle.tables.specs.declared.Tables.{Tables}
use Rattle.tables.specs.Codes.{decode, last_code}
use Rattle.tables.specs.View.{row, waiter, readies, waiters, view, live, Shape}
use Rattle.tables.specs.Promised.{put_ready, own_line, lined_up, Ticks}
use Rattle.tables.proofs.Coding.{decode_clock}
use Rattle.tables.proofs.Seats.{Waits, occ_seats, pos_live, waiting, room_both, at_line, line_of}
use Rattle.tables.proofs.Lining.{high_lined, low_lined, occ_lined, lined_seen}
use Rattle.tables.proofs.Moves.{put_waits, moved_shape}

-- the machine with the marked of the waiting taken out, and then made ready
abbrev pub left_over : Tables → List Bool → Tables
left_over m ds = put_waits (only (alive ds) m.waits) (struck ds m.lines) m

abbrev pub ticked : Tables → List Bool → Tables
ticked m ds = lined_up (those (marked ds) (waiters m)) (left_over m ds)

not_true_is : (b : Bool) → not b ≡ true → b ≡ false
not_true_is true e = sym e
not_true_is false e = refl

module _ (m : Tables) (g : Shape m) (ds : List Bool) (is : (s : ℕ) → s < base_slots → marked ds s ≡ eqb (get_or m.lines s 0) last_code) where
  abbrev r : Tables
  r = ticked m ds

  sizes : length (those (alive ds) (waiters m)) + length (those (marked ds) (waiters m)) ≡ m.waits.count
  sizes = part_sizes (marked ds) (waiters m) ∙ line_size g.waits_line

  pub tick_room : m.high.count + m.low.count + length (those (marked ds) (waiters m)) ≤ base_slots
  tick_room = omega (arith, sizes, room_both m g)

  stays : waiters r ≡ those (alive ds) (waiters m)
  stays = kept_view base_slots (alive ds) m.waits.slots m.waits.count g.waits_line

  slots : InSlots base_slots (those (marked ds) (waiters m))
  slots = slots_keep base_slots (marked ds) (waiters m) g.waits_line.slots

  -- the marked are those in the line
  on : (x : ℕ) → Waits m x → at PseudoClock (waiter m x) ≡ marked ds x
  on x w = ap (λ l. at l (waiter m x)) (sym decode_clock) ∙ at_line m g last_code (omega arith) (omega arith) x w ∙ sym (is x w.seat.slot)

  line_now : line PseudoClock (view m) ≡ map (row m) (those (marked ds) (waiters m))
  line_now = line_of m g PseudoClock (marked ds) on

  spared_code : (x : ℕ) → marked ds x ≡ false → get_or (struck ds m.lines) x 0 ≡ get_or m.lines x 0
  spared_code x e = get_or_struck ds m.lines x ∙ rw e

  rest_stay : map (waiter r) (waiters r) ≡ those (λ w. not (at PseudoClock w)) (view m).waiting
  rest_stay =
      ap (map (waiter r)) stays
      ∙ map_same (λ x. Waits m x × (alive ds x ≡ true)) (waiter r) (waiter m) (λ x p. ap (λ v. at_code v (row m x)) (spared_code x (not_true_is (marked ds x) p.1))) (those (alive ds) (waiters m)) (passing (Waits m) (alive ds) (waiters m) (waiting m g))
      ∙ sym (those_map (λ w. not (at PseudoClock w)) (waiter m) (waiters m)
      ∙ ap (map (waiter m)) (those_same (Waits m) (λ x. not (at PseudoClock (waiter m x))) (alive ds) (λ x w. ap not (on x w)) (waiters m) (waiting m g)))
    where
      at_code : ℕ → Process → Waiter
      at_code v p = record { process = p; line = decode v }

  mask_now : tally (λ s. if marked ds s then 2 ^ s else 0) base_slots ≡ mask (line PseudoClock (view m))
  unfolding mask
  mask_now =
      sym (ap mask line_now
      ∙ sum_over (λ (p : Process). 2 ^ p.slot) (row m) (those (marked ds) (waiters m))
      ∙ sum_marked base_slots (λ s. 2 ^ s) ds (waiters m) g.waits_line.slots (λ s b. go s b (marked ds s) refl))
    where
      go : (s : ℕ) → s < base_slots → (t : Bool) → marked ds s ≡ t → (if t then occ s (waiters m) else 0) ≡ (if t then 1 else 0)
      go s b true e =
          let c : get_or m.lines s 0 ≡ last_code = eqb-true (get_or m.lines s 0) last_code (sym (is s b) ∙ e) in
          sym (g.coded s b) ∙ pos_live (get_or m.lines s 0) (omega (arith, c))
      go s b false e = refl

  homes_now : (x : ℕ) → x < base_slots → occ x (readies r) + occ x (waiters r) ≡ occ x (readies m) + occ x (waiters m)
  homes_now x b = omega (arith, occ_lined (left_over m ds) g.high_line g.low_line (those (marked ds) (waiters m)) tick_room x, ap (occ x) stays, both (marked ds x) (occ_keep (alive ds) x (waiters m)) (occ_keep (marked ds) x (waiters m)))
    where
      both : (t : Bool) → occ x (those (alive ds) (waiters m)) ≡ (if not t then occ x (waiters m) else 0) → occ x (those (marked ds) (waiters m)) ≡ (if t then occ x (waiters m) else 0) → occ x (those (alive ds) (waiters m)) + occ x (those (marked ds) (waiters m)) ≡ occ x (waiters m)
      both true p q = omega arith
      both false p q = omega arith

  coded_now : (x : ℕ) → x < base_slots → (live (get_or (struck ds m.lines) x 0) ≡ occ x (waiters r)) × (get_or (struck ds m.lines) x 0 ≤ last_code)
  coded_now x b = rw (stays, occ_keep (alive ds) x (waiters m), get_or_struck ds m.lines x) (go (marked ds x))
    where
      go : (t : Bool) → (live (if t then 0 else get_or m.lines x 0) ≡ (if not t then occ x (waiters m) else 0)) × ((if t then 0 else get_or m.lines x 0) ≤ last_code)
      go true = (refl, omega arith)
      go false = (g.coded x b, g.codes x b)

  ticked_is : Ticks m (record { tables = r; woken = tally (λ s. if marked ds s then 2 ^ s else 0) base_slots })
  unfolding wake_all
  ticked_is = record {
    seen =
        lined_seen (left_over m ds) g.high_line g.low_line (those (marked ds) (waiters m)) tick_room
        ∙ ap₂ (λ (ps : List Process) (w : List Waiter). book.joined ps (with_places (view m).running w (view m))) (sym line_now) rest_stay;
    told = mask_now;
    still = refl;
    shape = moved_shape m g m.running m.four _ _ _ _ g.runner (high_lined (left_over m ds) g.high_line g.low_line (those (marked ds) (waiters m)) tick_room slots) (low_lined (left_over m ds) g.high_line g.low_line (those (marked ds) (waiters m)) tick_room slots) (kept_line base_slots (alive ds) m.waits.slots m.waits.count g.waits_line) (length_struck ds m.lines ∙ g.lines_long)
        (λ x b. omega (arith, occ_seats m x, occ_seats r x, homes_now x b))
        coded_now;
  }

  -- ---- as the code leaves it: the marked whose line it is, taken from the waiting for each line by itself
  those_both : (u t : ℕ → Bool) (l : List ℕ) → those (λ x. u x && t x) l ≡ those t (those u l)
  those_both u t [] = refl
  those_both u t (x ∷ l) = go (u x) (t x) refl (those_both u t l)
    where
      go : (a b : Bool) → t x ≡ b → those (λ x. u x && t x) l ≡ those t (those u l)
          → (if a && b then x ∷ those (λ x. u x && t x) l else those (λ x. u x && t x) l) ≡ those t (if a then x ∷ those u l else those u l)
      go true true e h = rw e (ap (λ (k : List ℕ). x ∷ k) h)
      go true false e h = rw e h
      go false b e h = h

  abbrev up : Bool → List ℕ
  up high = those (joining ds m.priorities high) (waiters m)

  up_is : (high : Bool) → up high ≡ those (own_line high m) (those (marked ds) (waiters m))
  up_is high = those_both (marked ds) (own_line high m) (waiters m)

  pub up_room : (m.high.count + length (up true) ≤ base_slots) × (m.low.count + length (up false) ≤ base_slots)
  up_room =
      let high = keep_le (own_line true m) (those (marked ds) (waiters m)) in
      let low = keep_le (own_line false m) (those (marked ds) (waiters m)) in
      (omega (arith, tick_room, ap length (up_is true), high), omega (arith, tick_room, ap length (up_is false), low))

  abbrev with_both : List ℕ → List ℕ → Tables
  with_both hs ls = put_ready (longer hs m.high) (longer ls m.low) (left_over m ds)

  pub tick_is : Ticks m (record { tables = with_both (up true) (up false); woken = tally (λ s. if marked ds s then 2 ^ s else 0) base_slots })
  tick_is =
      subst (λ (t : Tables). Ticks m (record { tables = t; woken = tally (λ s. if marked ds s then 2 ^ s else 0) base_slots }))
      (ap₂ with_both (sym (up_is true)) (sym (up_is false))) ticked_is
