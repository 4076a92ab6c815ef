-- The parts are put one behind the other, and each has room since no complaint is longer than the room asked for.
use native.Mathlib.Omega.{arith}
use Rattle.report.proofs.Laws.{puts_then}
use Rattle.words.specs.Complaints.{complaint}
use Rattle.words.proofs.Says.{complaint_within, complaint_room, told_all}
use Rattle.words.proofs.complain.Goals as goal

pub put_decimal-at-requires : goal.put_decimal-at-requires
put_decimal-at-requires c = omega (arith, complaint_room c.args.number c.args.word.now c.args.expected.now c.ranges.number.fits)

pub put_bytes-at-requires-2 : goal.put_bytes-at-requires-2
put_bytes-at-requires-2 c = omega (arith, complaint_room c.args.number c.args.word.now c.args.expected.now c.ranges.number.fits)

pub put_shown-at-requires : goal.put_shown-at-requires
put_shown-at-requires c = omega (arith, complaint_room c.args.number c.args.word.now c.args.expected.now c.ranges.number.fits)

pub put_bytes-at-requires-3 : goal.put_bytes-at-requires-3
put_bytes-at-requires-3 c = omega (arith, complaint_room c.args.number c.args.word.now c.args.expected.now c.ranges.number.fits)

pub put_bytes-at-requires-4 : goal.put_bytes-at-requires-4
put_bytes-at-requires-4 c = omega (arith, complaint_room c.args.number c.args.word.now c.args.expected.now c.ranges.number.fits)

pub put_byte-at-requires : goal.put_byte-at-requires
put_byte-at-requires c = omega (arith, complaint_room c.args.number c.args.word.now c.args.expected.now c.ranges.number.fits)

pub returns : goal.returns
unfolding complaint
returns c =
    told_all
    (omega arith)
    (complaint_within c.args.number c.args.word.now c.args.expected.now c.ranges.number.fits)
    (puts_then c.put_bytes-at.ensures
    (puts_then c.put_decimal-at.ensures
    (puts_then c.put_bytes-at-2.ensures
    (puts_then c.put_shown-at.ensures
    (puts_then c.put_bytes-at-3.ensures (puts_then c.put_bytes-at-4.ensures c.put_byte-at.ensures))))))
