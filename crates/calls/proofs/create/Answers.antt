-- `create` meets its contract.
use Rattle.std.specs.Prelude.{Option, Some, ℤ}
use mathlib.Core.Path.{◌≡◌, sym, ap, ◌∙◌, subst}
use mathlib.Core.Bool.{false}
use mathlib.Core.List.{List, [], ◌∷◌}
use Prim.Native.Nat.{ℕ, ◌<◌}
use native.Mathlib.Omega.{arith}
use Rattle.rules.specs.Numbers.{base_slots}
use lib.ListN.{length}
use Rattle.lines.specs.Lines.{first_where, is_zero, mask_of_taken}
use Rattle.rules.specs.declared.Answer.{Answer}
use Rattle.rules.specs.Rules.{carry_on}
use Rattle.answers.specs.Parts.{newborn_told}
use Rattle.tables.specs.declared.Tables.{Tables}
use Rattle.tables.specs.View.{row, view, Shape}
use Rattle.tables.specs.Promised.{lined_up, Comes}
use Rattle.tables.proofs.Choosing.{comes_by}
use Rattle.tables.proofs.Seats.{room_beside}
use Rattle.calls.proofs.Newborns.{rowed, born, bit_fits}
use Rattle.calls.proofs.Creating.{at_its_ceiling, child, found_slot, found_free, create_ids, create_ceiling, create_slots, create_shape, create_born}
use Rattle.calls.proofs.create.Goals as goal

-- what the search for a free slot says, of the first that it found
found_of : (t : Tables) → Shape t → (s : ℕ) {r : Option ℕ} → ((ids : List ℕ) → length ids ≡ base_slots → t.taken ≡ mask_of_taken base_slots ids → r ≡ first_where is_zero 0 ids) → r ≡ Some s → first_where is_zero 0 t.ids ≡ Some s
found_of t g s said at = sym (said t.ids g.ids_long g.taken_mask) ∙ at

slot_of : (t : Tables) → Shape t → (s : ℕ) {r : Option ℕ} → ((ids : List ℕ) → length ids ≡ base_slots → t.taken ≡ mask_of_taken base_slots ids → r ≡ first_where is_zero 0 ids) → r ≡ Some s → s < base_slots
slot_of t g s said at = found_slot t g s (found_of t g s said at)

pub returns-then-id-gt-TOP : goal.returns-then-id-gt-TOP
returns-then-id-gt-TOP c =
    rw (create_ids c.args.t c.requires.0 c.args.a2 c.args.a3 c.if-id-gt-TOP.true) c.replies.ensures

pub returns-then-at_ceiling : goal.returns-then-at_ceiling
returns-then-at_ceiling c =
    let asked : c.at_ceiling.result ≡ at_its_ceiling c.args.t (child c.args.t c.args.a2) = rw c.child_of-customer.ensures at c.at_ceiling.ensures in
    rw (create_ceiling c.args.t c.requires.0 c.args.a2 c.args.a3 (sym asked ∙ c.if-at_ceiling.true)) c.replies-then-at_ceiling.ensures

pub returns-in_default : goal.returns-in_default
returns-in_default c =
    let asked : c.at_ceiling.result ≡ at_its_ceiling c.args.t (child c.args.t c.args.a2) = rw c.child_of-customer.ensures at c.at_ceiling.ensures in
    let below : at_its_ceiling c.args.t (child c.args.t c.args.a2) ≡ false = sym asked ∙ c.if-at_ceiling.false in
    let some_left : ⊥ = let g = c.requires.0 in
    create_slots c.args.t g c.args.a2 c.args.a3 below c.if-id-gt-TOP.false c.requires.2
    (sym (c.lowest_free.ensures c.args.t.ids g.ids_long g.taken_mask) ∙ c.in_default.is) in
    absurd some_left

pub overflow_cast-slot : goal.overflow_cast-slot
overflow_cast-slot c = omega (arith, slot_of c.args.t c.requires.0 c.in-Some.s c.lowest_free.ensures c.in-Some.is)

pub offset_bounds-t-s : goal.offset_bounds-t-s
offset_bounds-t-s c = omega (arith, slot_of c.args.t c.requires.0 c.in-Some.s c.lowest_free.ensures c.in-Some.is)

pub bounds-t-s : goal.bounds-t-s
bounds-t-s c = slot_of c.args.t c.requires.0 c.in-Some.s c.lowest_free.ensures c.in-Some.is

pub power-requires : goal.power-requires
power-requires c = omega (arith, slot_of c.args.t c.requires.0 c.in-Some.s c.lowest_free.ensures c.in-Some.is)

pub overflow_add-t : goal.overflow_add-t
overflow_add-t c =
    let found = found_of c.args.t c.requires.0 c.in-Some.s c.lowest_free.ensures c.in-Some.is in
    let slot = slot_of c.args.t c.requires.0 c.in-Some.s c.lowest_free.ensures c.in-Some.is in
    let s = c.in-Some.s in
    omega (
      arith,
      c.power.ensures,
      bit_fits c.args.t c.requires.0 c.requires.1 s (child c.args.t c.args.a2) c.args.a2 c.args.a3 slot (found_free c.args.t c.requires.0 s found),
    )

pub bounds-t-s-2 : goal.bounds-t-s-2
bounds-t-s-2 c = slot_of c.args.t c.requires.0 c.in-Some.s c.lowest_free.ensures c.in-Some.is

pub bounds-t-s-3 : goal.bounds-t-s-3
bounds-t-s-3 c = slot_of c.args.t c.requires.0 c.in-Some.s c.lowest_free.ensures c.in-Some.is

pub offset_bounds-t-s-2 : goal.offset_bounds-t-s-2
offset_bounds-t-s-2 c = omega (arith, slot_of c.args.t c.requires.0 c.in-Some.s c.lowest_free.ensures c.in-Some.is)

pub bounds-t-s-4 : goal.bounds-t-s-4
bounds-t-s-4 c = slot_of c.args.t c.requires.0 c.in-Some.s c.lowest_free.ensures c.in-Some.is

pub offset_bounds-t-s-3 : goal.offset_bounds-t-s-3
offset_bounds-t-s-3 c = omega (arith, slot_of c.args.t c.requires.0 c.in-Some.s c.lowest_free.ensures c.in-Some.is)

pub bounds-t-s-5 : goal.bounds-t-s-5
bounds-t-s-5 c = slot_of c.args.t c.requires.0 c.in-Some.s c.lowest_free.ensures c.in-Some.is

pub joins-m-requires : goal.joins-m-requires
joins-m-requires c =
    let slot = slot_of c.args.t c.requires.0 c.in-Some.s c.lowest_free.ensures c.in-Some.is in
    let room = room_beside c.args.t c.requires.0 c.requires.1 in
    (slot, omega (arith, room), omega (arith, room))

pub carries_on-requires : goal.carries_on-requires
carries_on-requires c =
    let found = found_of c.args.t c.requires.0 c.in-Some.s c.lowest_free.ensures c.in-Some.is in
    let born-now : c.joins-m.result ≡ born c.args.t c.in-Some.s (child c.args.t c.args.a2) c.args.a2 c.args.a3 = let s = c.in-Some.s in
    c.joins-m.ensures
    ∙ (λ i. lined_up (s ∷ []) (rowed c.args.t s (c.power.ensures i) (c.child_of-customer.ensures i) c.args.a2 c.args.a3)) in
    let s = c.in-Some.s in
    let born-there = born-now in (
      subst Shape (sym born-there) (create_shape c.args.t c.requires.0 c.args.a2 c.args.a3 c.requires.1 s found),
      subst (λ (t : Tables). t.running < base_slots) (sym born-there) c.requires.1,
    )

pub returns : goal.returns
returns c =
    let found = found_of c.args.t c.requires.0 c.in-Some.s c.lowest_free.ensures c.in-Some.is in
    let asked : c.at_ceiling.result ≡ at_its_ceiling c.args.t (child c.args.t c.args.a2) = rw c.child_of-customer.ensures at c.at_ceiling.ensures in
    let below : at_its_ceiling c.args.t (child c.args.t c.args.a2) ≡ false = sym asked ∙ c.if-at_ceiling.false in
    let born-now : c.joins-m.result ≡ born c.args.t c.in-Some.s (child c.args.t c.args.a2) c.args.a2 c.args.a3 = let s = c.in-Some.s in
    c.joins-m.ensures
    ∙ (λ i. lined_up (s ∷ []) (rowed c.args.t s (c.power.ensures i) (c.child_of-customer.ensures i) c.args.a2 c.args.a3)) in
    let m = c.args.t in
    let s = c.in-Some.s in
    let told = c.bears-x.ensures ∙ ap (λ (z : Option ℤ). newborn_told z s) c.says-result.ensures in
    comes_by _ _ c.carries_on.result
    (create_born m c.requires.0 c.args.a2 c.args.a3 below c.if-id-gt-TOP.false c.requires.1 s found)
    (subst (λ (x : Answer). Comes (carry_on (row (born m s (child m c.args.a2) c.args.a2 c.args.a3) m.running) x (view (born m s (child m c.args.a2) c.args.a2 c.args.a3))) c.carries_on.result) told
    (subst (λ (t : Tables). Comes (carry_on (row t t.running) c.bears-x.result (view t)) c.carries_on.result) born-now c.carries_on.ensures))

pub offset_bounds-t-s-4 : goal.offset_bounds-t-s-4
offset_bounds-t-s-4 c = omega (arith, slot_of c.args.t c.requires.0 c.in-Some.s c.lowest_free.ensures c.in-Some.is)
