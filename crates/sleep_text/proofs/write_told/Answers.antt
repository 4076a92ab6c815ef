-- The parts are put one behind the other, and each has room since no line is longer than the longest.
use native.Mathlib.Omega.{arith}
use Rattle.report.proofs.Laws.{puts_then}
use Rattle.words.proofs.Says.{told_all}
use Rattle.sleep_text.specs.Answers.{told_line}
use Rattle.sleep_text.proofs.Spelling.{told_within, told_room}
use Rattle.sleep_text.proofs.write_told.Goals as goal

pub put_decimal-at-requires : goal.put_decimal-at-requires
put_decimal-at-requires c = omega (arith, told_room c.args.number c.args.told c.ranges.number.fits c.well_formed.1.1.0.1.1.0.1 c.requires)

pub add_number-at-requires : goal.add_number-at-requires
add_number-at-requires c = omega (arith, told_room c.args.number c.args.told c.ranges.number.fits c.well_formed.1.1.0.1.1.0.1 c.requires)

pub put_byte-at-requires : goal.put_byte-at-requires
put_byte-at-requires c = omega (arith, told_room c.args.number c.args.told c.ranges.number.fits c.well_formed.1.1.0.1.1.0.1 c.requires)

pub put_verdict-at-requires : goal.put_verdict-at-requires
put_verdict-at-requires c = omega (arith, told_room c.args.number c.args.told c.ranges.number.fits c.well_formed.1.1.0.1.1.0.1 c.requires)

pub put_numbers-at-requires : goal.put_numbers-at-requires
put_numbers-at-requires c = omega (arith, told_room c.args.number c.args.told c.ranges.number.fits c.well_formed.1.1.0.1.1.0.1 c.requires)

pub put_byte-at-requires-2 : goal.put_byte-at-requires-2
put_byte-at-requires-2 c = omega (arith, told_room c.args.number c.args.told c.ranges.number.fits c.well_formed.1.1.0.1.1.0.1 c.requires)

pub returns : goal.returns
unfolding told_line
returns c =
    told_all
    (omega arith)
    (told_within c.args.number c.args.told c.ranges.number.fits c.well_formed.1.1.0.1.1.0.1 c.requires)
    (puts_then c.put_decimal-at.ensures
    (puts_then c.add_number-at.ensures
    (puts_then c.put_byte-at.ensures
    (puts_then c.put_verdict-at.ensures (puts_then c.put_numbers-at.ensures c.put_byte-at-2.ensures)))))
