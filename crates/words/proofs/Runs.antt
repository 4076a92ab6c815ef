-- A run of bytes and a comparison of two words in the library's words, and a part that goes to the end.
-- Assumes nothing.
use Rattle.std.specs.Prelude.{if◌then◌else◌}
use mathlib.Core.Path.{◌≡◌, refl, ap}
use mathlib.Core.Bool.{Bool, true, false, cond, ◌&&◌}
use mathlib.Core.List.{List, [], ◌∷◌}
use Prim.Native.Nat.{ℕ, suc, ◌+◌, ◌-◌}
use native.Mathlib.Omega.{arith}
use lib.Dec.{eqb}
use lib.ListN.{length, take, drop, length-drop}
use lib.Pointwise.{pointwise}
use lib.Seq.{take_all}
use Rattle.std.specs.List.{prefix_len}
use Rattle.words.specs.Texts.{run, same}

-- the length of a run is that of the longest front that passes
pub run_is : (p : ℕ → Bool) (bs : List ℕ) → run p bs ≡ prefix_len p bs
unfolding run
run_is p [] = refl
run_is p (b ∷ bs) = go (p b) (run_is p bs)
  where
    go : (t : Bool) → run p bs ≡ prefix_len p bs → (if t then suc (run p bs) else 0) ≡ cond t (1 + prefix_len p bs) 0
    go true e = omega (arith, e)
    go false e = refl

-- two words are the same where `==` of the library says so
pub same_is : (xs ys : List ℕ) → same xs ys ≡ pointwise eqb xs ys
unfolding same
same_is [] [] = refl
same_is [] (y ∷ ys) = refl
same_is (x ∷ xs) [] = refl
same_is (x ∷ xs) (y ∷ ys) = ap (λ (t : Bool). eqb x y && t) (same_is xs ys)

-- a part that goes to the end
pub to_the_end : (k : ℕ) (s : List ℕ) → take (length s - k) (drop k s) ≡ drop k s
to_the_end k s = take_all (length s - k) (drop k s) (simp length-drop (omega arith))
