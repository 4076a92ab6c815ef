-- Numbers one behind the other, and how long the line of an answer is.
-- Assumes nothing.
use Rattle.std.specs.Prelude.{if◌then◌else◌}
use mathlib.Core.Path.{◌≡◌, refl, sym, ap, ◌∙◌}
use mathlib.Core.Bool.{Bool, true, false}
use mathlib.Core.List.{List, [], ◌∷◌, ◌++◌, append_assoc, append-nil}
use Prim.Native.Nat.{ℕ, zero, suc, ◌+◌, ◌*◌, ◌^◌, ◌≤◌, ◌<◌}
use native.Mathlib.Numerals.{add-one}
use native.Mathlib.Omega.{arith}
use lib.Dec.{eqb}
use lib.ListN.{length, take, get_or, length-append}
use lib.Seq.{take-suc, length-take-le}
use Rattle.rules.specs.Words.{All}
use Rattle.report.specs.Text.{newline, space, decimal}
use Rattle.report.proofs.Decimal.{length_within}
use Rattle.sleeps.specs.declared.Follows.{Follows}
use Rattle.sleeps.specs.declared.Follows.TheVariants.{Nothing, Sleeps, Ends, Wakes, Ended}
use Rattle.sleeps.specs.Numbers.{last_proc, told_number}
use Rattle.sleeps.specs.declared.Refusal.{Refusal}
use Rattle.sleeps.specs.declared.Refusal.TheVariants.{TimeFull, NoSuchProc, AsleepAlready}
use Rattle.std.specs.declared.option.Option.{Option}
use Rattle.std.specs.declared.option.Option.TheVariants.{Some, None}
use Rattle.sleeps.specs.declared.Answer.{Answer}
use Rattle.sleeping.specs.Promised.{Whole}
use Rattle.sleep_text.specs.declared.Told.{Told}
use Rattle.sleep_text.specs.Answers.{follows_word, none, word_of, spelt, told_of, Tellable, told_line, answer_line, longest}

spelt_append : (a b : List ℕ) → spelt (a ++ b) ≡ spelt a ++ spelt b
unfolding spelt
spelt_append [] b = refl
spelt_append (n ∷ a) b = ap (λ (l : List ℕ). (space ∷ decimal n) ++ l) (spelt_append a b) ∙ sym (append_assoc (space ∷ decimal n) (spelt a) (spelt b))

pub spelt_none : spelt [] ≡ []
unfolding spelt
spelt_none = refl

spelt_one : (n : ℕ) → spelt (n ∷ []) ≡ space ∷ decimal n
unfolding spelt
spelt_one n = append-nil (space ∷ decimal n)

pub spelt_more : (ns : List ℕ) (i : ℕ) → i < length ns → spelt (take (i + 1) ns) ≡ spelt (take i ns) ++ (space ∷ decimal (get_or ns i 0))
spelt_more ns i h =
    ap (λ (k : ℕ). spelt (take k ns)) (add-one i)
    ∙ ap spelt (take-suc ns i 0 h)
    ∙ spelt_append (take i ns) (get_or ns i 0 ∷ [])
    ∙ ap (λ (l : List ℕ). spelt (take i ns) ++ l) (spelt_one (get_or ns i 0))

-- what is put so far is not longer than the whole
pub spelt_grows : (ns : List ℕ) (i n : ℕ) → i ≤ n → n ≤ length ns → length (spelt (take i ns)) ≤ length (spelt (take n ns))
unfolding spelt
spelt_grows ns zero n h k = omega arith
spelt_grows [] (suc i) zero h k = absurd (omega arith)
spelt_grows [] (suc i) (suc n) h k = omega arith
spelt_grows (x ∷ ns) (suc i) zero h k = absurd (omega arith)
spelt_grows (x ∷ ns) (suc i) (suc n) h k =
    omega (arith, length-append (space ∷ decimal x) (spelt (take i ns)), length-append (space ∷ decimal x) (spelt (take n ns)), spelt_grows ns i n (omega arith) (omega arith))

follows_length : (f : Follows) → length (follows_word f) ≤ 5
follows_length Nothing = omega arith
follows_length Sleeps = omega arith
follows_length Ends = omega arith
follows_length Wakes = omega arith
follows_length Ended = omega arith

word_length : (refusal : ℕ) (f : Follows) → length (word_of refusal f) ≤ 5
word_length refusal f = go (eqb refusal 0)
  where
    go : (b : Bool) → length (if b then follows_word f else none) ≤ 5
    go true = follows_length f
    go false = omega arith

spelt_length : (ns : List ℕ) → All (λ (n : ℕ). n ≤ last_proc) ns → length (spelt ns) ≤ 2 * length ns
unfolding spelt
spelt_length [] h = omega arith
spelt_length (n ∷ ns) h = omega (arith, length-append (space ∷ decimal n) (spelt ns), length_within n 0 (omega (arith, h.0)), spelt_length ns h.1)

pub told_within : (n : ℕ) (t : Told) → n < 2 ^ 64 → t.refusal < 2 ^ 8 → Tellable t → length (told_line n t) ≤ longest
unfolding told_line
told_within n t h g w =
    simp length-append (omega (arith, length_within n 19 (omega arith), length_within t.refusal 2 (omega (arith, g)), word_length t.refusal t.follows, spelt_length (take t.count t.woken) w.procs, length-take-le t.count t.woken (omega (arith, w.room, w.long)), w.room))

-- the same, part by part: two blanks and the newline have a byte each
pub told_room : (n : ℕ) (t : Told) → n < 2 ^ 64 → t.refusal < 2 ^ 8 → Tellable t → length (decimal n) + length (decimal t.refusal) + length (word_of t.refusal t.follows) + length (spelt (take t.count t.woken)) + 3 ≤ longest
told_room n t h g w =
    omega (arith, length_within n 19 (omega arith), length_within t.refusal 2 (omega (arith, g)), word_length t.refusal t.follows, spelt_length (take t.count t.woken) w.procs, length-take-le t.count t.woken (omega (arith, w.room, w.long)), w.room)

-- what is left of the line behind each of its parts
module _ (n : ℕ) (t : Told) where
  abbrev pub end : List ℕ
  end = newline ∷ []

  abbrev pub from_woken : List ℕ
  from_woken = spelt (take t.count t.woken) ++ end

  abbrev pub from_word : List ℕ
  from_word = word_of t.refusal t.follows ++ from_woken

  abbrev pub from_blank : List ℕ
  from_blank = (space ∷ []) ++ from_word

  abbrev pub from_refusal : List ℕ
  from_refusal = (space ∷ decimal t.refusal) ++ from_blank

-- an answer that obeys its own rule can be told
pub tellable : (a : Answer) → Whole a → (t : Told) → t ≡ told_of a → Tellable t
tellable a w t e = rw e (record { long = w.long; room = w.room; procs = w.procs })

-- its refusal has a byte for its number
refusal_within : (r : Option Refusal) → told_number r < 2 ^ 8
refusal_within None = omega arith
refusal_within (Some TimeFull) = omega arith
refusal_within (Some NoSuchProc) = omega arith
refusal_within (Some AsleepAlready) = omega arith

-- and "none" for its word
pub refused_word : (r : Refusal) (f : Follows) → word_of (told_number (Some r)) f ≡ none
refused_word TimeFull f = refl
refused_word NoSuchProc f = refl
refused_word AsleepAlready f = refl

-- so its line is no longer than the longest, whole and part by part: for other crates, since the proofs
-- here go by what is told
pub answer_within : (n : ℕ) (a : Answer) → n < 2 ^ 64 → Whole a → length (answer_line n a) ≤ longest
answer_within n a h w = told_within n (told_of a) h (refusal_within a.refusal) (tellable a w (told_of a) refl)

pub answer_room : (n : ℕ) (a : Answer) → n < 2 ^ 64 → Whole a → length (decimal n) + length (decimal (told_number a.refusal)) + length (word_of (told_number a.refusal) a.follows) + length (spelt (take a.count a.woken)) + 3 ≤ longest
answer_room n a h w = told_room n (told_of a) h (refusal_within a.refusal) (tellable a w (told_of a) refl)
