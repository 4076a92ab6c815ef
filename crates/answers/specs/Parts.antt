-- An answer so far, with no action yet, by what it tells.
use Rattle.std.specs.Prelude.{ℕ, ℤ, Option, None, Some}
use Rattle.rules.specs.declared.Action.TheVariants.{Nothing}
use Rattle.rules.specs.declared.Answer.{Answer}

abbrev pub so_far : Option ℤ → Option ℕ → Option ℕ → ℕ → ℕ → ℕ → Answer
so_far result newborn device woken ended idled = record { refusal = None; action = Nothing; result = result; newborn = newborn; device = device; woken = woken; ended = ended; idled = idled }

-- a result alone
abbrev pub with_result : Option ℤ → Answer
with_result x = so_far x None None 0 0 0

-- a newborn's slot, and the result that is its id
abbrev pub newborn_told : Option ℤ → ℕ → Answer
newborn_told x s = so_far x (Some s) None 0 0 0

-- the mask of who woke; the same, and the sub-device
abbrev pub woken_told : ℕ → Answer
woken_told w = so_far None None None w 0 0

abbrev pub device_told : ℕ → ℕ → Answer
device_told d w = so_far None None (Some d) w 0 0

-- the masks of who ended and of the processors left idle, and the result for a caller that lives on
abbrev pub ended_told : Option ℤ → ℕ → ℕ → Answer
ended_told x e i = so_far x None None 0 e i
