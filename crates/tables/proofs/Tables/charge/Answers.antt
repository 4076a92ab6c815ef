-- `Tables::charge` meets its contract.
use Rattle.std.proofs.Common.{◌≡◌, refl, arith, rules}
use Rattle.tables.proofs.Billing.{gap_is, time_within, charge_busy, charge_idle}
use Rattle.rules.specs.Machine.{gap}
use Rattle.tables.specs.View.{view}
use Rattle.tables.proofs.Tables.charge.Goals as goal

pub overflow_add-self-then-at-lt-SLOTS : goal.overflow_add-self-then-at-lt-SLOTS
overflow_add-self-then-at-lt-SLOTS c =
    let gap_at : c.wrapping_sub_u32-g.result ≡ gap c.args.now (view c.args.self) = gap_is c.args.self c.wrapping_sub_u32-g.result c.args.now (search rules) (search rules) (search rules) c.wrapping_sub_u32-g.ensures.value in
    let m = c.args.self in
    omega (arith, time_within m c.requires.0 m.running c.if-at-lt-SLOTS.true, c.requires.1, gap_at)

pub returns-then-at-lt-SLOTS : goal.returns-then-at-lt-SLOTS
returns-then-at-lt-SLOTS c =
    let gap_at : c.wrapping_sub_u32-g.result ≡ gap c.args.now (view c.args.self) = gap_is c.args.self c.wrapping_sub_u32-g.result c.args.now (search rules) (search rules) (search rules) c.wrapping_sub_u32-g.ensures.value in
    (rw gap_at (charge_busy c.args.self c.requires.0 c.args.now c.requires.1 c.if-at-lt-SLOTS.true), refl)

pub returns-else-at-lt-SLOTS : goal.returns-else-at-lt-SLOTS
returns-else-at-lt-SLOTS c =
    let gap_at : c.wrapping_sub_u32-g.result ≡ gap c.args.now (view c.args.self) = gap_is c.args.self c.wrapping_sub_u32-g.result c.args.now (search rules) (search rules) (search rules) c.wrapping_sub_u32-g.ensures.value in
    (rw gap_at (charge_idle c.args.self c.requires.0 c.args.now c.requires.1 (omega (arith, c.if-at-lt-SLOTS.false))), refl)
