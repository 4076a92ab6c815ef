-- Some join their ready lines, each at the end of its own, over tables alone: one law for a newborn, for who is woken
-- and for who goes back.
-- Assumes nothing.
use Rattle.std.proofs.Common.{◌≡◌, ℕ, ◌+◌, ◌<◌, ◌≤◌, Bool, true, false, not, List, [], ◌∷◌, ◌++◌, map, length, take, set, sym, ap, ◌∙◌, ap₂, arith, if◌then◌else◌}
use mathlib.Core.List.{map-append}
use Rattle.rules.specs.Words.{those}
use Rattle.rules.specs.Numbers.{base_slots}
use Rattle.rules.specs.Machine as book
use Rattle.rules.specs.Machine.{Process, with_ready, is_high}
use Rattle.lines.specs.Lines.{InSlots, Line, joined, occ}
use Rattle.lines.specs.declared.queue.Queue.{Queue}
use Rattle.lines.specs.Queues.{longer, pushed}
use Rattle.lines.proofs.Occ.{occ_append, occ_keep}
use Rattle.lines.proofs.Laws.{keep_le, slots_keep}
use Rattle.lines.proofs.Turns.{join_more, join_none}
use Rattle.lines.proofs.Bridge.{those_map, join_view, join_line}
use Rattle.tables.specs.declared.Tables.{Tables}
use Rattle.tables.specs.View.{row, highs, lows, readies, view}
use Rattle.tables.specs.Promised.{put_ready, own_line, lined_up}

-- ---- one line, high or low, and those of the joining whose own it is
module _ (q : List ℕ) (n : ℕ) (l : Line base_slots q n) (t : ℕ → Bool) (us : List ℕ) (room : n + length us ≤ base_slots) where
  fits : n + length (those t us) ≤ base_slots
  fits = omega (arith, keep_le t us)

  longer_view : take (n + length (those t us)) (joined q n (those t us)) ≡ take n q ++ those t us
  longer_view = join_view base_slots q n l (those t us) fits

  longer_line : InSlots base_slots us → Line base_slots (joined q n (those t us)) (n + length (those t us))
  longer_line s = join_line base_slots q n l (those t us) fits (slots_keep base_slots t us s)

-- everyone is of one line
occ_parts : (t : ℕ → Bool) (x : ℕ) (l : List ℕ) → occ x (those t l) + occ x (those (λ s. not (t s)) l) ≡ occ x l
occ_parts t x l = go (t x) (occ_keep t x l) (occ_keep (λ s. not (t s)) x l)
  where
    go : (b : Bool) → occ x (those t l) ≡ (if b then occ x l else 0) → occ x (those (λ s. not (t s)) l) ≡ (if not b then occ x l else 0) → occ x (those t l) + occ x (those (λ s. not (t s)) l) ≡ occ x l
    go true p q = omega arith
    go false p q = omega arith

-- ---- both lines
module _ (m : Tables) (high : Line base_slots m.high.slots m.high.count) (low : Line base_slots m.low.slots m.low.count) (us : List ℕ) (room : m.high.count + m.low.count + length us ≤ base_slots) where
  abbrev r : Tables
  r = lined_up us m

  room_high : m.high.count + length us ≤ base_slots
  room_high = omega (arith, room)

  room_low : m.low.count + length us ≤ base_slots
  room_low = omega (arith, room)

  highs_lined : highs r ≡ highs m ++ those (own_line true m) us
  highs_lined = longer_view m.high.slots m.high.count high (own_line true m) us room_high

  lows_lined : lows r ≡ lows m ++ those (own_line false m) us
  lows_lined = longer_view m.low.slots m.low.count low (own_line false m) us room_low

  pub high_lined : InSlots base_slots us → Line base_slots r.high.slots r.high.count
  high_lined = longer_line m.high.slots m.high.count high (own_line true m) us room_high

  pub low_lined : InSlots base_slots us → Line base_slots r.low.slots r.low.count
  low_lined = longer_line m.low.slots m.low.count low (own_line false m) us room_low

  pub occ_lined : (x : ℕ) → occ x (readies r) ≡ occ x (readies m) + occ x us
  occ_lined x =
      omega (
        arith,
        occ_append x (highs r) (lows r),
        occ_append x (highs m) (lows m),
        ap (occ x) highs_lined,
        occ_append x (highs m) (those (own_line true m) us),
        ap (occ x) lows_lined,
        occ_append x (lows m) (those (own_line false m) us),
        occ_parts (own_line true m) x us,
      )

  pub lined_seen : view r ≡ book.joined (map (row m) us) (view m)
  lined_seen =
      ap₂ (λ (h l : List Process). with_ready h l m.four (view m))
      (ap (map (row m)) highs_lined ∙ rows (highs m) is_high)
      (ap (map (row m)) lows_lined ∙ rows (lows m) (λ p. not (is_high p)))
    where
      rows : (l : List ℕ) (t : Process → Bool) → map (row m) (l ++ those (λ s. t (row m s)) us) ≡ map (row m) l ++ those t (map (row m) us)
      rows l t = map-append (row m) l (those (λ s. t (row m s)) us) ∙ ap (λ (ps : List Process). map (row m) l ++ ps) (sym (those_map t (row m) us))

-- ---- one joins: the line that is its own is one longer, and the other is as it was
one_more : (q : Queue) (s : ℕ) → q.count < length q.slots → pushed s q ≡ longer (s ∷ []) q
one_more q s h =
    let n = q.count in
    let e = ap (λ (l : List ℕ). set l n s) (sym (join_none q.slots n (omega (arith, h)))) ∙ join_more q.slots n n [] s (omega arith) h in
    λ i. record { slots = e i; count = n + 1 }

none_more : (q : Queue) → q.count ≤ length q.slots → q ≡ longer [] q
none_more q h =
    let e = sym (join_none q.slots q.count h) in
    let k : q.count ≡ q.count + 0 = omega arith in
    λ i. record { slots = e i; count = k i }

module _ (m : Tables) (s : ℕ) (high : m.high.count < length m.high.slots) (low : m.low.count < length m.low.slots) where
  -- the lines, where it is known which one is its own
  abbrev by_own : Bool → Tables
  by_own b =
      let h = if b then s ∷ [] else [] in
      let l = if not b then s ∷ [] else [] in
      put_ready (longer h m.high) (longer l m.low) m

  pub joins_high : own_line true m s ≡ true → put_ready (pushed s m.high) m.low m ≡ lined_up (s ∷ []) m
  joins_high e =
      (λ i. put_ready (one_more m.high s high i) (none_more m.low (omega (arith, low)) i) m) ∙ ap by_own (sym e)

  pub joins_low : own_line true m s ≡ false → put_ready m.high (pushed s m.low) m ≡ lined_up (s ∷ []) m
  joins_low e =
      (λ i. put_ready (none_more m.high (omega (arith, high)) i) (one_more m.low s low i) m) ∙ ap by_own (sym e)
