-- Who joins which of the two ready lines, the high one or the low one, by a2.
use Rattle.std.specs.Prelude.{Bool, true, false, not, ℕ}
use Rattle.rules.specs.Machine.{high_by}

abbrev pub of_line : Bool → ℕ → Bool
of_line true a2 = high_by a2
of_line false a2 = not (high_by a2)
