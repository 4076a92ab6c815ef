use Rattle.std.proofs.Common.{rules, ◌≡◌, length}
use Rattle.lender.specs.Lender.{room, lesser}
use Rattle.lender.proofs.Tables.{resized_is}
use Rattle.lender.proofs.resized.Goals as goal

pub returns : goal.returns
returns c =
    let t = c.args.t in
    let long : length t.rows ≡ room = search rules in
    let least : c.min-kept.result ≡ lesser c.args.n t.count = search rules in
    resized_is c.args.n t c.min-kept.result c.copy_from_slice.new.self long c.requires least c.copy_from_slice.ensures.after
