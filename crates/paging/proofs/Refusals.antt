-- Refusals, and the event that none stops.
use Rattle.std.specs.Prelude.{if◌then◌else◌, Some, None}
use mathlib.Core.Bool.{Bool, true, false}
use mathlib.Core.Path.{◌≡◌, refl, sym, ap}
use Prim.Native.Nat.{ℕ}
use native.Mathlib.Omega.{arith}
use Rattle.pages.specs.declared.Refusal.{Refusal}
use Rattle.pages.specs.declared.Refusal.TheVariants.{NoSuchUproc, OutOfTurn}
use Rattle.pages.specs.declared.Transfer.{Transfer}
use Rattle.pages.specs.declared.Transfer.TheVariants.{Closed, Writing, Reading}
use Rattle.pages.specs.declared.Pager.{Pager}
use Rattle.pages.specs.declared.Turn.{Turn}
use Rattle.pages.specs.Rules.{is_uproc, refusing, closed, of_uproc}
use Rattle.paging.specs.Refusals.{busy, refusal_of}

pub never : {r : Refusal} → Some r ≡ None → ⊥
never e = let z : ◌≡◌ {A = ℕ} 0 1 = cc in omega arith

-- an event that names u
module _ (u : ℕ) (p : Pager) (x : Turn) where
  pub stops : (r : Refusal) → refusal_of u p.transfer ≡ Some r → refusing r p ≡ of_uproc u p x
  stops r = go (is_uproc u) p.transfer
    where
      go : (b : Bool) (t : Transfer) → (if b then busy t else Some NoSuchUproc) ≡ Some r → refusing r p ≡ (if b then closed t p x else refusing NoSuchUproc p)
      go true Closed e = absurd (never (sym e))
      go true (Writing f v g old) e = let y : r ≡ OutOfTurn = cc in ap (λ (n : Refusal). refusing n p) y
      go true (Reading f v g) e = let y : r ≡ OutOfTurn = cc in ap (λ (n : Refusal). refusing n p) y
      go false t e = let y : r ≡ NoSuchUproc = cc in ap (λ (n : Refusal). refusing n p) y

  pub goes_on : refusal_of u p.transfer ≡ None → x ≡ of_uproc u p x
  goes_on = go (is_uproc u) p.transfer
    where
      go : (b : Bool) (t : Transfer) → (if b then busy t else Some NoSuchUproc) ≡ None → x ≡ (if b then closed t p x else refusing NoSuchUproc p)
      go true Closed e = refl
      go true (Writing f v g old) e = absurd (never e)
      go true (Reading f v g) e = absurd (never e)
      go false t e = absurd (never e)
