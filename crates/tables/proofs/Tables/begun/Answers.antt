-- `Tables::begun`: the fresh machine, by computing. Assumes nothing.
use Rattle.std.proofs.Common.{rules}
use Rattle.tables.proofs.Begins.{begun_view, begun_shape}
use Rattle.tables.proofs.Tables.begun.Goals as goal

pub returns : goal.returns
returns c =
    rw (c.readings-lasts.ensures, c.new.ensures, c.new-2.ensures, c.new-3.ensures) (
      begun_view c.args.clock c.args.values c.args.ceilings c.args.processors c.requires.0 c.requires.1,
      begun_shape c.args.clock c.args.values c.args.ceilings c.args.processors c.requires.0 c.requires.1 (search rules) (search rules),
    )
