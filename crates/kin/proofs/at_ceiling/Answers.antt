-- `at_ceiling` meets its contract: no more are alive than there are slots, so the count fits 16 bits.
use native.Mathlib.Omega.{arith}
use Rattle.rules.specs.Numbers.{base_slots}
use Rattle.lines.proofs.Members.{members_few}
use Rattle.kin.proofs.at_ceiling.Goals as goal

pub overflow_cast-result : goal.overflow_cast-result
overflow_cast-result c =
    let a = c.args in
    record { fits = omega (arith, c.living_of-alive.ensures, members_few a.ids.now a.customers.now a.customer base_slots) }
