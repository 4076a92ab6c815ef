-- `Tables::wake` meets its contract.
use Rattle.std.proofs.Common.{sym, ◌∙◌, arith}
use Rattle.tables.proofs.Waking.{wake_none, wake_some, found_place, found_slot, wake_room}
use Rattle.tables.proofs.Tables.wake.Goals as goal

pub returns-in_default : goal.returns-in_default
returns-in_default c =
    wake_none c.args.self c.requires.0 c.args.code c.requires.1 c.requires.2 (sym c.find_between.ensures ∙ c.in_default.is)

pub remove-slot-requires : goal.remove-slot-requires
remove-slot-requires c =
    let h = found_place c.args.self c.requires.0 c.args.code c.requires.1 c.requires.2 _ (sym c.find_between.ensures ∙ c.in-Some.is) in
    (h, c.requires.0.waits_line.room)

pub bounds-self-s : goal.bounds-self-s
bounds-self-s c =
    rw c.remove-slot.ensures.0 (found_slot c.args.self c.requires.0 c.args.code c.requires.1 c.requires.2 _ (sym c.find_between.ensures ∙ c.in-Some.is))

pub power-bit-requires : goal.power-bit-requires
power-bit-requires c =
    rw c.remove-slot.ensures.0 (found_slot c.args.self c.requires.0 c.args.code c.requires.1 c.requires.2 _ (sym c.find_between.ensures ∙ c.in-Some.is))

pub joins-m-requires : goal.joins-m-requires
joins-m-requires c =
    let found = sym c.find_between.ensures ∙ c.in-Some.is in
    let room = wake_room c.args.self c.requires.0 c.args.code c.requires.1 c.requires.2 _ found in
    (rw c.remove-slot.ensures.0 (found_slot c.args.self c.requires.0 c.args.code c.requires.1 c.requires.2 _ found), omega (arith, room), omega (arith, room))

pub returns : goal.returns
returns c =
    rw (c.joins-m.ensures, c.power-bit.ensures, c.remove-slot.ensures.0, c.remove-slot.ensures.1)
    (wake_some c.args.self c.requires.0 c.args.code c.requires.1 c.requires.2 c.in-Some.i (sym c.find_between.ensures ∙ c.in-Some.is))
