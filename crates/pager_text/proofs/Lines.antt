-- Laws of an answer's line: no line is longer than the longest, since its numbers are within their types.
use Rattle.std.specs.Prelude.{Option, Some, None}
use mathlib.Core.Path.{◌≡◌, refl, ap, ◌∙◌}
use mathlib.Core.List.{List, [], ◌∷◌}
use Prim.Native.Nat.{ℕ, suc, ◌+◌, ◌^◌, ◌≤◌, ◌<◌}
use native.Mathlib.Omega.{arith}
use lib.ListN.{length, length-append}
use mir.Syntax.{w8, w32}
use mir.Val.{Val, Fits}
use denote.Laws.{Is}
use denote.Struct.Declared.{row}
use Rattle.rules.specs.Words.{sum}
use Rattle.report.specs.Text.{decimal, joined}
use Rattle.report.specs.Buffer.{longest}
use Rattle.report.proofs.Decimal.{length_within}
use Rattle.pages.specs.declared.Refusal.{Refusal}
use Rattle.pages.specs.declared.Refusal.TheVariants.{NoSuchUproc, OutOfTurn, AtOdds}
use Rattle.pages.specs.declared.Word.{Word}
use Rattle.pages.specs.declared.Word.TheVariants as word
use Rattle.pages.specs.Numbers.{told_number}
use Rattle.pager_text.specs.declared.Seen.{Seen}
use Rattle.pager_text.specs.contracts.Seen.{the_type}
use Rattle.pager_text.specs.Answers.{name, shown, parts, line_of}

abbrev InByte : Option ℕ → Type 0
InByte None = Unit {0}
InByte (Some n) = n < 2 ^ 8

record Ranged (n : ℕ) (s : Seen) : Type 0 where
  number : n < 2 ^ 32
  u : InByte s.u
  entry : InByte s.entry
  frame : InByte s.frame
  frames : s.frames < 2 ^ 16

-- ── What the types say ──

module _ (vs : List Val) (m : ℕ) where
  abbrev Typed : Option ℕ → Option ℕ → Option ℕ → Type 0
  Typed u e f = Is (row the_type) (record { u = u; entry = e; frame = f; frames = m }) vs

  u_known : (u e f : Option ℕ) → Typed u e f → InByte u
  u_known None e f h = tt
  u_known (Some n) e f h = h.1.1.0.1.1.1.1.0.1

  entry_known : (u e f : Option ℕ) → Typed u e f → InByte e
  entry_known u None f h = tt
  entry_known u (Some n) f h = h.1.1.1.0.1.1.1.1.0.1

  frame_known : (u e f : Option ℕ) → Typed u e f → InByte f
  frame_known u e None h = tt
  frame_known u e (Some n) h = h.1.1.1.1.0.1.1.1.1.0.1

known : (vs : List Val) (n : ℕ) (s : Seen) → Fits w32 n → Is (row the_type) s vs → Ranged n s
known vs n s f h = record {
  number = f.fits;
  u = u_known vs s.frames s.u s.entry s.frame h;
  entry = entry_known vs s.frames s.u s.entry s.frame h;
  frame = frame_known vs s.frames s.u s.entry s.frame h;
  frames = h.1.1.1.1.1.0.1;
}

-- ── How long the parts are ──

shown_length : (o : Option ℕ) → InByte o → length (shown o) ≤ 3
shown_length None h = omega arith
shown_length (Some n) h = length_within n 2 (omega arith)

name_length : (w : Word) → length (name w) ≤ 7
name_length word.None = omega arith
name_length (word.Entry u e v) = omega arith
name_length (word.Refresh u e f) = omega arith
name_length (word.Write f o g) = omega arith
name_length (word.Read f u e) = omega arith
name_length (word.Resume u e f) = omega arith
name_length (word.Trap u) = omega arith
name_length (word.Freed u m) = omega arith

joined_length : (ps : List (List ℕ)) → length (joined ps) ≡ sum (λ p. suc (length p)) ps + 1
joined_length [] = refl
joined_length (p ∷ ps) = ap suc (length-append p (joined ps)) ∙ omega (arith, joined_length ps)

-- where the refusal is any byte
module _ (vs : List Val) (n r : ℕ) (w : Word) (s : Seen) (f : Fits w32 n) (g : Fits w8 r) (h : Is (row the_type) s vs) where
  pub told_within_known : length (line_of n r w s) ≤ longest
  unfolding line_of
  told_within_known =
      let k = known vs n s f h in
      rw (length-append (decimal n), joined_length)
      (omega (arith, k.number, k.frames, g.fits, length_within n 9 (omega arith), length_within r 2 (omega arith), name_length w, shown_length s.u k.u, shown_length s.entry k.entry, shown_length s.frame k.frame, length_within s.frames 4 (omega arith)))

  -- the parts one by one: each has room behind those before it
  pub told_room_known : length (decimal n) + (sum (λ p. suc (length p)) (parts r w s) + 1) ≤ longest
  unfolding line_of
  told_room_known = rw (length-append (decimal n), joined_length) at told_within_known

-- a refusal that there is has a byte for its number
refusal_fits : (r : Option Refusal) → Fits w8 (told_number r)
refusal_fits None = record { fits = omega arith }
refusal_fits (Some NoSuchUproc) = record { fits = omega arith }
refusal_fits (Some OutOfTurn) = record { fits = omega arith }
refusal_fits (Some AtOdds) = record { fits = omega arith }

-- so of an answer nothing is asked of its refusal: for other crates, since the proofs here go by what is told
module _ (vs : List Val) (n : ℕ) (r : Option Refusal) (w : Word) (s : Seen) (f : Fits w32 n) (h : Is (row the_type) s vs) where
  pub within_known : length (line_of n (told_number r) w s) ≤ longest
  within_known = told_within_known vs n (told_number r) w s f (refusal_fits r) h

  pub room_known : length (decimal n) + (sum (λ p. suc (length p)) (parts (told_number r) w s) + 1) ≤ longest
  room_known = told_room_known vs n (told_number r) w s f (refusal_fits r) h
