-- The numbers of 02, (x), each said here and nowhere else.
use Rattle.std.specs.Prelude.{ℕ, ◌^◌, Option, Some, None}
use Rattle.rules.specs.Numbers.{time_full}
use Rattle.sleeps.specs.declared.Refusal.{Refusal}
use Rattle.sleeps.specs.declared.Refusal.TheVariants.{TimeFull, NoSuchProc, AsleepAlready}

-- "a U-proc number outside 1 to 8"
abbrev pub first_proc : ℕ
first_proc = 1

abbrev pub last_proc : ℕ
last_proc = 8

-- "One sleep a U-proc, eight at most"
abbrev pub places : ℕ
places = 8

-- "is refused with 9"
abbrev pub no_such_proc : ℕ
no_such_proc = 9

-- "a second request while asleep, negative too, with 10"
abbrev pub asleep_already : ℕ
asleep_already = 10

-- and 01's own, of a gap
abbrev pub refusal_number : Refusal → ℕ
refusal_number TimeFull = time_full
refusal_number NoSuchProc = no_such_proc
refusal_number AsleepAlready = asleep_already

-- the refusal's number, or 0
abbrev pub told_number : Option Refusal → ℕ
told_number None = 0
told_number (Some r) = refusal_number r

-- "a1 is read as signed": a word of 32 bits from here on is below zero
abbrev pub sign : ℕ
sign = 2 ^ 31

-- "the seconds in microseconds"
abbrev pub second : ℕ
second = 1000000
