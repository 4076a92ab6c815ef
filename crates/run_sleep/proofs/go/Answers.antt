use Rattle.std.proofs.Common.{rules, sym, length}
use Rattle.run_sleep.proofs.Verdicts.{stands, stands_wrong}
use Rattle.run_sleep.proofs.go.Goals as goal

pub slice_bounds-complain-count : goal.slice_bounds-complain-count
slice_bounds-complain-count g c = (stands_wrong _ (stands (length c.args.text.now) c.args.text.now 0 1) (sym c.in-Err.ensures)).order

pub slice_bounds-complain-start : goal.slice_bounds-complain-start
slice_bounds-complain-start g c = let s = stands_wrong _ (stands (length c.args.text.now) c.args.text.now 0 1) (sym c.in-Err.ensures) in let h = s.order in search rules

pub slice_bounds-complain-end : goal.slice_bounds-complain-end
slice_bounds-complain-end g c = let s = stands_wrong _ (stands (length c.args.text.now) c.args.text.now 0 1) (sym c.in-Err.ensures) in let h = s.within in search rules
