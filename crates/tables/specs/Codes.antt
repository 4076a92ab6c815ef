-- How a waiting line is written in a byte: the one table of codes.
use Rattle.std.specs.Prelude.{ℕ, ◌+◌, ◌-◌, nat_le, nat_lt, if◌then◌else◌}
use Rattle.rules.specs.declared.Line.{Line}
use Rattle.rules.specs.declared.Line.TheVariants.{Semaphore, Device, PseudoClock}
use Rattle.rules.specs.Numbers.{base_sems, sub_devices}

-- 0 is no line; 1 to 32 are the semaphores', 33 to 80 the sub-devices', 81 the pseudo-clock's
abbrev pub last_code : ℕ
last_code = base_sems + sub_devices + 1

abbrev pub encode : Line → ℕ
encode (Semaphore i) = i + 1
encode (Device d) = d + (base_sems + 1)
encode PseudoClock = last_code

unfoldable pub decode : ℕ → Line
decode c =
    if nat_le c base_sems then Semaphore (c - 1)
    else (if nat_lt c last_code then Device (c - (base_sems + 1)) else PseudoClock)
