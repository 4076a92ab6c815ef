-- `Tables::nobody_ready` meets its contract.
use Rattle.std.proofs.Common.{◌≡◌, ◌<◌, false, sym, ◌∙◌, eqb-true, eq-eqb, pos_of_ne-zero, true≢false}
use Rattle.tables.proofs.Choosing.{beside_comes, halt_comes, wait_comes, panic_comes}
use Rattle.seats.specs.Seats.{runs_somewhere}
use Rattle.tables.proofs.Tables.nobody_ready.Goals as goal

-- somebody runs on another processor
pub returns-then-somebody_runs : goal.returns-then-somebody_runs
returns-then-somebody_runs c =
    rw c.does-wait.ensures (beside_comes c.args.x c.args.self c.requires.0 c.requires.1 (sym c.somebody_runs.ensures ∙ c.if-somebody_runs.true))

pub returns-then-is_empty : goal.returns-then-is_empty
returns-then-is_empty c =
    let alone : runs_somewhere c.args.self.runners ≡ false = sym c.somebody_runs.ensures ∙ c.if-somebody_runs.false in
    rw c.does-halt.ensures (halt_comes c.args.x c.args.self c.requires.0 c.requires.1 c.requires.2 c.requires.3 alone (eqb-true c.args.self.waits.count 0 (sym c.is_empty.ensures ∙ c.if-is_empty.true)))

pub returns-in_default : goal.returns-in_default
returns-in_default c =
    let alone : runs_somewhere c.args.self.runners ≡ false = sym c.somebody_runs.ensures ∙ c.if-somebody_runs.false in
    let some : 0 < c.args.self.waits.count = pos_of_ne-zero (λ e. true≢false (sym (eq-eqb c.args.self.waits.count 0 e) ∙ sym c.is_empty.ensures ∙ c.if-is_empty.false)) in
    rw c.does-panic.ensures (panic_comes c.args.x c.args.self c.requires.0 alone some (sym c.find_between.ensures ∙ c.in_default.is))

pub returns : goal.returns
returns c =
    let alone : runs_somewhere c.args.self.runners ≡ false = sym c.somebody_runs.ensures ∙ c.if-somebody_runs.false in
    let some : 0 < c.args.self.waits.count = pos_of_ne-zero (λ e. true≢false (sym (eq-eqb c.args.self.waits.count 0 e) ∙ sym c.is_empty.ensures ∙ c.if-is_empty.false)) in
    rw c.does-wait-2.ensures (wait_comes c.args.x c.args.self c.requires.0 alone some c.in-Some.field-0 (sym c.find_between.ensures ∙ c.in-Some.is))
