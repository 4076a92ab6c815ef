-- A bad line stands within its text.
-- Assumes nothing.
use Rattle.std.proofs.Common.{◌≡◌, ℕ, zero, suc, ◌+◌, ◌≤◌, ◌<◌, Bool, true, false, leb, List, length, refl, subst, if◌then◌else◌}
use Rattle.std.proofs.lemmas.Bool.{leb-false}
use Rattle.std.specs.declared.result.Result.TheVariants.{Ok, Err}
use Rattle.words.specs.Texts.{line_at}
use Rattle.words.proofs.Places.{end_place, end_within}
use Rattle.sleep_text.specs.declared.Wrong.{Wrong}
use Rattle.sleep_text.specs.Lines.{Parsed, Verdict, parsed, line_of, found, bad_from}

-- of a verdict on a text
pub record Stands (text : List ℕ) (w : Wrong) : Type 0 where
  pub order : w.from ≤ w.to
  pub within : w.to ≤ length text

abbrev pub Standing : List ℕ → Verdict → Type 0
Standing text (Ok u) = Unit {0}
Standing text (Err w) = Stands text w

one : (text : List ℕ) (at number : ℕ) (v : Verdict) → Standing text v → (b : Bool) (p : Parsed) → leb (length text) at ≡ b
    → Standing text (if b then Ok tt else found number at (line_at text at).end p v)
one text at number v h true p e = tt
one text at number v h false (Ok o) e = h
one text at number v h false (Err d) e =
    let l : at < length text = leb-false (length text) at e in
    record { order = end_place text at l; within = end_within text at l }

pub stands : (f : ℕ) (text : List ℕ) (at number : ℕ) → Standing text (bad_from f text at number)
unfolding bad_from
stands zero text at number = tt
stands (suc f) text at number = one text at number _ (stands f text (line_at text at).next (number + 1)) (leb (length text) at) (parsed (line_of text at)) refl

pub stands_wrong : {text : List ℕ} {w : Wrong} (v : Verdict) → Standing text v → v ≡ Err w → Stands text w
stands_wrong {text} v h e = subst (Standing text) e h
