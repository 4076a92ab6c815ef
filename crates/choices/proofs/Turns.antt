-- Whose turn it is, by how many are in each line and the count of four.
-- Assumes nothing.
use Rattle.std.specs.Prelude.{if◌then◌else◌}
use mathlib.Core.Path.{◌≡◌, refl, sym, ap, ◌∙◌}
use mathlib.Core.Bool.{true, false, true≢false}
use mathlib.Core.List.{List, [], ◌∷◌}
use Prim.Native.Nat.{ℕ, suc, ◌+◌, ◌<◌}
use native.Mathlib.Omega.{arith}
use lib.Dec.{leb}
use lib.ListN.{length}
use borrow.Author.Tests.{leb-false}
use Rattle.rules.specs.Words.{first}
use Rattle.rules.specs.Numbers.{most_in_a_row}
use Rattle.rules.specs.Machine.{Process, low_turn, counted}

pub no_low : (hs ls : List Process) (four : ℕ) → length ls ≡ 0 → low_turn hs ls four ≡ false
no_low hs [] four e = refl
no_low hs (l ∷ ls) four e = absurd (omega (arith, e))

pub no_high : (hs ls : List Process) (four : ℕ) → (length ls ≡ 0 → ⊥) → length hs ≡ 0 → low_turn hs ls four ≡ true
no_high hs [] four some e = absurd (some refl)
no_high [] (l ∷ ls) four some e = refl
no_high (h ∷ hs) (l ∷ ls) four some e = absurd (omega (arith, e))

pub by_count : (hs ls : List Process) (four : ℕ) → (length ls ≡ 0 → ⊥) → (length hs ≡ 0 → ⊥) → low_turn hs ls four ≡ leb most_in_a_row four
by_count hs [] four some more = absurd (some refl)
by_count [] (l ∷ ls) four some more = absurd (more refl)
by_count (h ∷ hs) (l ∷ ls) four some more = refl

-- a low one is chosen where there is one; where no high one is left either there is nobody
pub low_there : (hs ls : List Process) (four : ℕ) → low_turn hs ls four ≡ true → 0 < length ls
low_there hs [] four e = absurd (true≢false (sym e))
low_there hs (l ∷ ls) four e = omega arith

pub nobody_left : (hs ls : List Process) (four : ℕ) → low_turn hs ls four ≡ false → length hs ≡ 0 → length ls ≡ 0
nobody_left hs [] four e z = refl
nobody_left [] (l ∷ ls) four e z = absurd (true≢false e)
nobody_left (h ∷ hs) (l ∷ ls) four e z = absurd (omega (arith, z))

-- a high one is chosen while a low one waits: it is not yet the fifth
pub not_yet : (hs ls : List Process) (four : ℕ) → low_turn hs ls four ≡ false → 0 < length ls → four < most_in_a_row
not_yet hs [] four e some = absurd (omega (arith, some))
not_yet [] (l ∷ ls) four e some = absurd (true≢false e)
not_yet (h ∷ hs) (l ∷ ls) four e some = leb-false most_in_a_row four e

-- ---- the count after the choice
pub counted_low : (hs ls : List Process) (four : ℕ) → low_turn hs ls four ≡ true → counted hs ls four ≡ 0
counted_low hs ls four e = ap (λ b. if b then 0 else first ls 0 (λ p. suc four)) e

pub counted_empty : (hs ls : List Process) (four : ℕ) → length ls ≡ 0 → counted hs ls four ≡ 0
counted_empty hs [] four e = refl
counted_empty hs (l ∷ ls) four e = absurd (omega (arith, e))

pub counted_more : (hs ls : List Process) (four : ℕ) → low_turn hs ls four ≡ false → 0 < length ls → counted hs ls four ≡ four + 1
counted_more hs [] four e some = absurd (omega (arith, some))
counted_more hs (l ∷ ls) four e some = ap (λ b. if b then 0 else suc four) e ∙ let z : suc four ≡ four + 1 = omega arith in z
