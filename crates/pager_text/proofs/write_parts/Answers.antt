-- The parts are put one behind the other, and each has room since no line is longer than the longest.
use native.Mathlib.Omega.{arith}
use Rattle.report.proofs.Laws.{puts_then, wrote}
use Rattle.pager_text.specs.Answers.{line_of}
use Rattle.pager_text.proofs.Lines.{told_within_known, told_room_known}
use Rattle.pager_text.proofs.write_parts.Goals as goal

pub put_decimal-at-requires : goal.put_decimal-at-requires
put_decimal-at-requires c = let a = c.args in omega (arith, told_room_known _ a.number a.refusal a.w a.seen c.ranges.number c.ranges.refusal c.well_formed.1.1.1.1.0)

pub add_number-at-requires : goal.add_number-at-requires
add_number-at-requires c = let a = c.args in omega (arith, told_room_known _ a.number a.refusal a.w a.seen c.ranges.number c.ranges.refusal c.well_formed.1.1.1.1.0)

pub add_name-at-requires : goal.add_name-at-requires
add_name-at-requires c = let a = c.args in omega (arith, told_room_known _ a.number a.refusal a.w a.seen c.ranges.number c.ranges.refusal c.well_formed.1.1.1.1.0)

pub add_shown-at-requires : goal.add_shown-at-requires
add_shown-at-requires c = let a = c.args in omega (arith, told_room_known _ a.number a.refusal a.w a.seen c.ranges.number c.ranges.refusal c.well_formed.1.1.1.1.0)

pub add_shown-at-requires-2 : goal.add_shown-at-requires-2
add_shown-at-requires-2 c = let a = c.args in omega (arith, told_room_known _ a.number a.refusal a.w a.seen c.ranges.number c.ranges.refusal c.well_formed.1.1.1.1.0)

pub add_shown-at-requires-3 : goal.add_shown-at-requires-3
add_shown-at-requires-3 c = let a = c.args in omega (arith, told_room_known _ a.number a.refusal a.w a.seen c.ranges.number c.ranges.refusal c.well_formed.1.1.1.1.0)

pub add_number-at-requires-2 : goal.add_number-at-requires-2
add_number-at-requires-2 c = let a = c.args in omega (arith, told_room_known _ a.number a.refusal a.w a.seen c.ranges.number c.ranges.refusal c.well_formed.1.1.1.1.0)

pub put_byte-at-requires : goal.put_byte-at-requires
put_byte-at-requires c = let a = c.args in omega (arith, told_room_known _ a.number a.refusal a.w a.seen c.ranges.number c.ranges.refusal c.well_formed.1.1.1.1.0)

pub returns : goal.returns
unfolding line_of
returns c =
    let a = c.args in
    wrote
    (omega arith)
    (told_within_known _ a.number a.refusal a.w a.seen c.ranges.number c.ranges.refusal c.well_formed.1.1.1.1.0)
    (puts_then c.put_decimal-at.ensures
    (puts_then c.add_number-at.ensures
    (puts_then c.add_name-at.ensures
    (puts_then c.add_shown-at.ensures
    (puts_then c.add_shown-at-2.ensures
    (puts_then c.add_shown-at-3.ensures
    (puts_then c.add_number-at-2.ensures c.put_byte-at.ensures)))))))
