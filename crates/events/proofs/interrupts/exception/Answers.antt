-- `Tables::exception`: a program trap or a TLB exception. Assumes nothing.
use Rattle.tables.proofs.Choosing.{comes_by}
use Rattle.events.proofs.Eventful.{program_traps, tlb_misses}
use Rattle.std.proofs.Common.{rules}
use Rattle.events.proofs.interrupts.exception.Goals as goal

pub returns-then-code-lt24 : goal.returns-then-code-lt24
returns-then-code-lt24 c =
    comes_by _ _ _ (program_traps c.args.t c.requires.0 c.args.code c.requires.1 (search rules)) c.pass_up_or_die.ensures

pub returns : goal.returns
returns c =
    comes_by _ _ _ (tlb_misses c.args.t c.requires.0 c.args.code c.requires.1 (search rules)) c.pass_up_or_die-2.ensures
