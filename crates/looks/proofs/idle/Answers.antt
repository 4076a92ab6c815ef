-- `idle`: a processor's idle time. Assumes nothing.
use Rattle.std.proofs.Common.{◌≡◌, get_or, sym, ◌∙◌, rules}
use Rattle.looks.proofs.Looking.{idle_told}
use Rattle.looks.proofs.idle.Goals as goal

pub returns : goal.returns
returns c =
    let read : c.unwrap_or.result ≡ get_or c.args.t.idles c.args.processor 0 = search rules in
    read ∙ sym (idle_told c.args.t c.requires.shape c.args.processor)
