-- `Tables::tick` meets its contract.
use Rattle.std.proofs.Common.{◌≡◌, ℕ, ◌<◌, Bool, eqb, List, sym, ap, ◌∙◌, subst, arith}
use Rattle.rules.specs.Numbers.{base_slots}
use Rattle.lines.specs.Lines.{marked, entry}
use Rattle.lines.proofs.Marks.{get_or_marks_of}
use Rattle.tables.specs.Codes.{last_code}
use Rattle.tables.specs.Promised.{put_ready, Ticks}
use Rattle.tables.proofs.Moves.{put_waits}
use Rattle.tables.proofs.Ticking.{up_room, tick_is}
use Rattle.tables.proofs.Tables.tick.Goals as goal

pub append_marked-requires : goal.append_marked-requires
append_marked-requires c =
    let clock-marks : let m = c.args.self in (s : ℕ) → s < base_slots → marked c.marks_at-up.result s ≡ eqb (entry m.lines s) last_code = λ s b. ap (λ (ds : List Bool). marked ds s) c.marks_at-up.ensures ∙ get_or_marks_of c.args.self.lines last_code s (omega (arith, b, c.requires.lines_long)) in
    let g = c.requires in
    ((g.waits_line.room, g.waits_line.slots), (up_room c.args.self g c.marks_at-up.result clock-marks).0)

pub append_marked-requires-2 : goal.append_marked-requires-2
append_marked-requires-2 c =
    let clock-marks : let m = c.args.self in (s : ℕ) → s < base_slots → marked c.marks_at-up.result s ≡ eqb (entry m.lines s) last_code = λ s b. ap (λ (ds : List Bool). marked ds s) c.marks_at-up.ensures ∙ get_or_marks_of c.args.self.lines last_code s (omega (arith, b, c.requires.lines_long)) in
    let g = c.requires in
    ((g.waits_line.room, g.waits_line.slots), (up_room c.args.self g c.marks_at-up.result clock-marks).1)

pub returns : goal.returns
returns c =
    let clock-marks : let m = c.args.self in (s : ℕ) → s < base_slots → marked c.marks_at-up.result s ≡ eqb (entry m.lines s) last_code = λ s b. ap (λ (ds : List Bool). marked ds s) c.marks_at-up.ensures ∙ get_or_marks_of c.args.self.lines last_code s (omega (arith, b, c.requires.lines_long)) in
    let m = c.args.self in
    let h = c.append_marked.ensures in
    let l = c.append_marked-2.ensures in
    let w = c.drop_marked.ensures in
    subst (Ticks m)
    (λ i. record {
      tables = put_ready (sym h i) (sym l i) (put_waits (sym w i) (sym c.strike.ensures i) m);
      woken = sym c.mask-bits.ensures i;
    })
    (tick_is m c.requires c.marks_at-up.result clock-marks)
