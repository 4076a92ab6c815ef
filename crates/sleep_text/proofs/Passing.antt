-- A turn of the walk along the lines of a text.
-- Assumes nothing.
use Rattle.std.specs.Prelude.{if◌then◌else◌}
use mathlib.Core.Path.{◌≡◌, refl, ap, ◌∙◌}
use mathlib.Core.Bool.{Bool, true, false}
use mathlib.Core.List.{List}
use Prim.Native.Nat.{ℕ, zero, suc, ◌+◌, ◌≤◌, ◌<◌}
use native.Mathlib.Omega.{arith}
use lib.Dec.{leb}
use lib.ListN.{length}
use borrow.Author.Tests.{leb-false, le-leb, lt-leb}
use Rattle.words.specs.Texts.{line_at}
use Rattle.words.proofs.Places.{next_further}
use Rattle.std.specs.declared.result.Result.TheVariants.{Ok, Err}
use Rattle.sleep_text.specs.declared.Bad.{Bad}
use Rattle.sleep_text.specs.Lines.{Parsed, Verdict, found, parsed, line_of, bad_from}

-- with room for every line, more room changes nothing
enough : (f g : ℕ) (text : List ℕ) (at number : ℕ) → length text ≤ at + f → length text ≤ at + g → bad_from f text at number ≡ bad_from g text at number
unfolding bad_from
enough zero zero text at number h k = refl
enough zero (suc g) text at number h k = let e : leb (length text) at ≡ true = le-leb (length text) at (omega arith) in rw e
enough (suc f) zero text at number h k = let e : leb (length text) at ≡ true = le-leb (length text) at (omega arith) in rw e
enough (suc f) (suc g) text at number h k = go (leb (length text) at) refl (enough f g text (line_at text at).next (number + 1))
  where
    go : (b : Bool) → leb (length text) at ≡ b
        → (length text ≤ (line_at text at).next + f → length text ≤ (line_at text at).next + g → bad_from f text (line_at text at).next (number + 1) ≡ bad_from g text (line_at text at).next (number + 1))
        → (if b then Ok tt else found number at (line_at text at).end (parsed (line_of text at)) (bad_from f text (line_at text at).next (number + 1)))
        ≡ (if b then Ok tt else found number at (line_at text at).end (parsed (line_of text at)) (bad_from g text (line_at text at).next (number + 1)))
    go true e ih = refl
    go false e ih =
        let n = next_further text at (leb-false (length text) at e) in
        ap (λ (v : Verdict). found number at (line_at text at).end (parsed (line_of text at)) v) (ih (omega arith) (omega arith))

module _ (text : List ℕ) (at number : ℕ) where
  none : bad_from 0 text at number ≡ Ok tt
  unfolding bad_from
  none = refl

  pub walk_end : length text ≤ at → bad_from (length text) text at number ≡ Ok tt
  walk_end h = enough (length text) 0 text at number (omega arith) (omega arith) ∙ none

  -- one line more is looked at
  turn : at < length text → bad_from (suc (length text)) text at number ≡ found number at (line_at text at).end (parsed (line_of text at)) (bad_from (length text) text (line_at text at).next (number + 1))
  unfolding bad_from
  turn h = rw (lt-leb (length text) at h)

  more : bad_from (length text) text at number ≡ bad_from (suc (length text)) text at number
  more = enough (length text) (suc (length text)) text at number (omega arith) (omega arith)

  pub walk_bad : at < length text → (b : Bad) → Err b ≡ parsed (line_of text at) → bad_from (length text) text at number ≡ Err (record { number = number; from = at; to = (line_at text at).end; bad = b })
  walk_bad h b e = more ∙ turn h ∙ rw (← e)

  pub walk_on : at < length text → (said : Parsed) → said ≡ parsed (line_of text at) → ((b : Bad) → said ≡ Err b → ⊥) → bad_from (length text) text at number ≡ bad_from (length text) text (line_at text at).next (number + 1)
  walk_on h (Ok o) e n = more ∙ turn h ∙ rw (← e)
  walk_on h (Err b) e n = absurd (n b refl)
