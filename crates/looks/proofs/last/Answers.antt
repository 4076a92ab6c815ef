-- `last`: a processor's last clock reading. Assumes nothing.
use Rattle.std.proofs.Common.{◌≡◌, get_or, sym, ◌∙◌, rules}
use Rattle.looks.proofs.Looking.{last_told}
use Rattle.looks.proofs.last.Goals as goal

pub returns : goal.returns
returns c =
    let read : c.unwrap_or.result ≡ get_or c.args.t.lasts c.args.processor 0 = search rules in
    read ∙ sym (last_told c.args.t c.requires.shape c.args.processor)
