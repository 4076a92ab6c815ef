-- A word as a number, decimal or 0x, and its limit.
use Rattle.std.specs.Prelude.{Option, Some, None, ok_or, MatchResult, if◌then◌else◌}
use Rattle.std.specs.declared.result.Result.{Result}
use mathlib.Core.Path.{◌≡◌, refl, sym, ◌∙◌}
use mathlib.Core.Bool.{Bool, true, false, ◌&&◌}
use mathlib.Core.List.{List}
use Prim.Native.Nat.{ℕ, ◌≤◌}
use native.Mathlib.Omega.{arith}
use lib.Dec.{eqb, leb}
use lib.ListN.{length, get_or, drop}
use Rattle.words.specs.Texts.{nth}
use Rattle.words.specs.Figures.{number_of, decimal_of, hexadecimal_of}
use Rattle.words.proofs.Limits.{number_within, decimal_within}
use Rattle.pager_asks.specs.declared.Expected.{Expected}
use Rattle.pager_asks.specs.declared.Bad.{Bad}
use Rattle.pager_asks.specs.Asks.{bad, or_else, number_at}

hexadecimal_within : (limit : ℕ) (bs : List ℕ) (n : ℕ) → hexadecimal_of limit bs ≡ Some n → n ≤ limit
unfolding hexadecimal_of
hexadecimal_within limit bs n = go (leb 2 (length bs) && eqb (get_or bs 0 0) 48 && eqb (get_or bs 1 0) 120)
  where
    go : (b : Bool) → (if b then number_of 16 limit (drop 2 bs) else None) ≡ Some n → n ≤ limit
    go true e = number_within 16 limit (drop 2 bs) n e
    go false e = let z : ◌≡◌ {A = ℕ} 0 1 = cc in absurd (omega arith)

pub within : (limit : ℕ) (line : List ℕ) (k n : ℕ) → number_at limit line k ≡ Some n → n ≤ limit
unfolding number_at
within limit line k n = go (decimal_of limit (nth line k)) refl
  where
    go : (d : Option ℕ) → decimal_of limit (nth line k) ≡ d → or_else d (hexadecimal_of limit (nth line k)) ≡ Some n → n ≤ limit
    go (Some m) q e = decimal_within limit (nth line k) n (q ∙ e)
    go None q e = hexadecimal_within limit (nth line k) n e

-- what is found of a decimal number, and of another
module _ (limit : ℕ) (line : List ℕ) (k : ℕ) where
  pub number_some : (n : ℕ) → Some n ≡ decimal_of limit (nth line k) → (number_at limit line k ≡ Some n) × (n ≤ limit)
  unfolding number_at
  number_some n q = let e : number_at limit line k ≡ Some n = rw (sym q) refl in (e, within limit line k n e)

  pub number_else : (e : Expected) (o : Option ℕ) → None ≡ decimal_of limit (nth line k) → o ≡ hexadecimal_of limit (nth line k) → (r : Result ℕ Bad) → r ≡ ok_or o (bad k e)
      → MatchResult r (λ n. (number_at limit line k ≡ Some n) × (n ≤ limit)) (λ b. (number_at limit line k ≡ None) × (b ≡ bad k e))
  unfolding number_at
  number_else e o q h r p = rw p (go o (rw (sym q) (sym h)))
    where
      go : (o : Option ℕ) → number_at limit line k ≡ o → MatchResult (ok_or o (bad k e)) (λ n. (number_at limit line k ≡ Some n) × (n ≤ limit)) (λ b. (number_at limit line k ≡ None) × (b ≡ bad k e))
      go (Some n) a = (a, within limit line k n a)
      go None a = (a, refl)
