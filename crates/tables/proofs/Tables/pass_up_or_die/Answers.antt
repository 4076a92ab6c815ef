-- `Tables::pass_up_or_die` meets its contract.
use Rattle.tables.proofs.Endings.{own_id, dies, up_dies, up_passes}
use Rattle.tables.proofs.Tables.pass_up_or_die.Goals as goal

pub kill-k-requires : goal.kill-k-requires
kill-k-requires c =
    (c.requires.0, c.requires.1, own_id c.args.self c.requires.0 c.requires.1)

pub returns-then-handle-eq0 : goal.returns-then-handle-eq0
returns-then-handle-eq0 c =
    let k = c.kill-k in
    let x = c.ends-x in
    let s = c.schedule in
    up_dies c.args.self c.requires.0 c.requires.1 c.args.cause c.if-handle-eq0.true s.result
    (dies _ c.args.self k.result k.ensures x.result x.ensures s.result s.ensures)

pub returns : goal.returns
returns c =
    rw (c.does-up.ensures, c.bare-x.ensures) (up_passes c.args.self c.requires.0 c.requires.1 c.args.cause c.if-handle-eq0.false)
