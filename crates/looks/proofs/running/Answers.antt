-- `running`: who runs on a processor, or nobody. Assumes nothing.
use Rattle.std.specs.Prelude.{Option, Some, None}
use Rattle.std.proofs.Common.{◌≡◌, ℕ, ◌≤◌, length, get_or, sym, ◌∙◌, rules, tests}
use lib.ListN.{get_or-eq_default}
use Rattle.tables.specs.declared.Tables.{Tables}
use Rattle.tables.specs.View.{view, Shape}
use Rattle.looks.specs.Looks.{who_runs}
use Rattle.looks.proofs.Looking.{runs_slot, runs_absent}
use Rattle.looks.proofs.running.Goals as goal

-- whoever has the seat, or none
seat_read : (m : Tables) → Shape m → (k : ℕ) (r : Option ℕ) → get_or m.runners k None ≡ r → r ≡ who_runs k (view m)
seat_read m g k None e = sym (runs_absent m g k e)
seat_read m g k (Some s) e = sym (runs_slot m g k s e)

pub returns-in_err-seat : goal.returns-in_err-seat
returns-in_err-seat c =
    let past : length c.args.t.runners ≤ c.args.processor = search (rules, tests) in
    c.from_residual.ensures ∙ sym (runs_absent c.args.t c.requires.shape c.args.processor (get_or-eq_default c.args.t.runners None past))

pub returns : goal.returns
returns c =
    let there : get_or c.args.t.runners c.args.processor None ≡ c.in_ok-seat.seat.now = search rules in
    seat_read c.args.t c.requires.shape c.args.processor _ there
