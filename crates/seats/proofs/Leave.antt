-- Laws of who leaves a seat.
use Rattle.std.specs.Prelude.{Option, None}
use mathlib.Core.Path.{◌≡◌, refl}
use mathlib.Core.Bool.{Bool, false}
use mathlib.Core.List.{List, [], ◌∷◌}
use Prim.Native.Nat.{ℕ, zero, suc}
use lib.ListN.{length, length-map, get_or}
use Rattle.seats.specs.Seats.{held_by, leaving_of}

pub get_or_leaving : (ds : List Bool) (rs : List (Option ℕ)) (k : ℕ) → get_or (leaving_of ds rs) k false ≡ held_by ds (get_or rs k None)
unfolding leaving_of
get_or_leaving ds [] k = refl
get_or_leaving ds (r ∷ rs) zero = refl
get_or_leaving ds (r ∷ rs) (suc k) = get_or_leaving ds rs k

pub length_leaving : (ds : List Bool) (rs : List (Option ℕ)) → length (leaving_of ds rs) ≡ length rs
unfolding leaving_of
length_leaving ds rs = length-map rs (held_by ds)
