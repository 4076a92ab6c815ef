-- A complaint as long as it may be, and what is left in the buffer.
-- Assumes nothing.
use mathlib.Core.Path.{◌≡◌, ap, ◌∙◌}
use mathlib.Core.Bool.{true, false}
use mathlib.Core.List.{List, [], ◌∷◌, ◌++◌}
use Prim.Native.Nat.{ℕ, ◌+◌, ◌^◌, ◌≤◌, ◌<◌}
use native.Mathlib.Nat.{zero-add}
use native.Mathlib.Omega.{arith}
use lib.Dec.{leb}
use lib.ListN.{length, drop, length-append, length-take}
use lib.Seq.{sets-eq}
use borrow.Author.Tests.{le-leb, lt-leb}
use Rattle.report.specs.Text.{newline, decimal}
use Rattle.report.proofs.Decimal.{length_within}
use Rattle.report.specs.Buffer.{Puts}
use Rattle.std.specs.declared.option.Option.TheVariants.{Some, None}
use Rattle.words.specs.Complaints.{was_found, was_expected, most_shown, shown, around, complaint, Complains}

shown_within : (word : List ℕ) → length (shown word) ≤ most_shown
shown_within word = rw (length-take most_shown word) (omega arith)

pub complaint_within : (n : ℕ) (word expected : List ℕ) → n < 2 ^ 64 → length (complaint n word expected) ≤ around + length expected
unfolding complaint
complaint_within n word expected h =
    simp length-append (omega (arith, length_within n 19 (omega arith), shown_within word))

-- the same, by the two parts whose length is not fixed: the others have 27 bytes, beside what was expected
pub complaint_room : (n : ℕ) (word expected : List ℕ) → n < 2 ^ 64 → length (decimal n) + length (shown word) + 27 ≤ around
complaint_room n word expected h = omega (arith, length_within n 19 (omega arith), shown_within word)

-- what is left of a complaint behind each of its parts
module _ (n : ℕ) (word expected : List ℕ) where
  abbrev pub end : List ℕ
  end = newline ∷ []

  abbrev pub from_expected : List ℕ
  from_expected = expected ++ end

  abbrev pub from_wanted : List ℕ
  from_wanted = was_expected ++ from_expected

  abbrev pub from_word : List ℕ
  from_word = shown word ++ from_wanted

  abbrev pub from_found : List ℕ
  from_found = was_found ++ from_word

  abbrev pub from_number : List ℕ
  from_number = decimal n ++ from_found

module _ {text before after : List ℕ} {room next : ℕ} where
  pub told_all : room ≤ length before → length text ≤ room → Puts text before 0 after next → Complains text room before after (Some next)
  told_all h fits p =
      let e : leb room (length before) ≡ true = le-leb room (length before) h in
      record {
        bytes = rw e (p.bytes ∙ sets-eq text before 0 (omega arith) ∙ ap (λ (k : ℕ). text ++ drop k before) (zero-add (length text)));
        said = rw e (ap Some (p.place ∙ zero-add (length text)));
      }

pub told_nothing : (text : List ℕ) (room : ℕ) {before : List ℕ} → length before < room → Complains text room before before None
told_nothing text room {before} h =
    let e : leb room (length before) ≡ false = lt-leb room (length before) h in record { bytes = rw e; said = rw e }
