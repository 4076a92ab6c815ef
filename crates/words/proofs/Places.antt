-- A word and a line stand within their text, and a line takes a byte at least.
-- Assumes nothing.
use Rattle.std.specs.Prelude.{if◌then◌else◌}
use mathlib.Core.Path.{◌≡◌, refl, sym, ◌∙◌}
use mathlib.Core.Bool.{Bool, true, false}
use mathlib.Core.List.{List, [], ◌∷◌}
use Prim.Native.Nat.{ℕ, zero, suc, ◌+◌, ◌-◌, ◌≤◌, ◌<◌}
use native.Mathlib.Omega.{arith}
use lib.Dec.{eqb, ltb}
use lib.ListN.{length, drop, length-drop}
use lib.Seq.{length-take-le}
use borrow.Author.Tests.{eq-eqb, ne_eqb, eqb-true, eqb-false, ltb-true, ltb-false}
use Rattle.words.specs.declared.Word.{Word}
use Rattle.words.specs.Texts.{blank, solid, content, row, run, behind, stop_of, line_at, next_word, word_at, nth}

run_within : (p : ℕ → Bool) (s : List ℕ) → run p s ≤ length s
unfolding run
run_within p [] = omega arith
run_within p (b ∷ s) = go (p b) (run_within p s)
  where
    go : (t : Bool) → run p s ≤ length s → (if t then suc (run p s) else 0) ≤ length (b ∷ s)
    go true ih = omega arith
    go false ih = omega arith

pub behind_within : (p : ℕ → Bool) (text : List ℕ) (at : ℕ) → at ≤ length text → behind p text at ≤ length text
behind_within p text at h = omega (arith, run_within p (drop at text), length-drop at text)

-- ── A word ──

pub record Within (w : Word) (n : ℕ) : Type 0 where
  pub order : w.from ≤ w.to
  pub fits : w.to ≤ n

next_within : (line : List ℕ) (at : ℕ) → at ≤ length line → Within (next_word line at) (length line)
unfolding next_word
next_within line at h = record { order = omega arith; fits = behind_within solid line (behind blank line at) (behind_within blank line at h) }

pub word_within : (line : List ℕ) (k : ℕ) → Within (word_at line k) (length line)
unfolding word_at
word_within line zero = next_within line 0 (omega arith)
word_within line (suc k) = next_within line (word_at line k).to (word_within line k).fits

pub nth_long : (line : List ℕ) (k : ℕ) → length (nth line k) ≡ (word_at line k).to - (word_at line k).from
unfolding nth
nth_long line k = let w = word_within line k in length-take-le ((word_at line k).to - (word_at line k).from) (drop (word_at line k).from line) (omega (arith, length-drop (word_at line k).from line, w.order, w.fits))

-- a word has bytes exactly where its places differ
pub nth_absent : (line : List ℕ) (k : ℕ) → eqb (word_at line k).to (word_at line k).from ≡ eqb (length (nth line k)) 0
nth_absent line k = go (eqb (word_at line k).to (word_at line k).from) refl
  where
    go : (t : Bool) → eqb (word_at line k).to (word_at line k).from ≡ t → t ≡ eqb (length (nth line k)) 0
    go true e = sym (eq-eqb (length (nth line k)) 0 (nth_long line k ∙ omega (arith, eqb-true (word_at line k).to (word_at line k).from e)))
    go false e = let w = word_within line k in sym (ne_eqb (length (nth line k)) 0 (λ z. eqb-false (word_at line k).to (word_at line k).from e (omega (arith, nth_long line k, w.order))))

-- ── A line ──

module _ (text : List ℕ) (at : ℕ) (h : at < length text) where
  pub end_place : at ≤ (line_at text at).end
  unfolding line_at
  end_place = omega arith

  pub end_within : (line_at text at).end ≤ length text
  unfolding line_at
  end_within = behind_within content text at (omega arith)

  stop_within : stop_of text at ≤ length text
  stop_within = behind_within row text (behind content text at) (behind_within content text at (omega arith))

  -- the next line begins further on, and not past the end
  pub next_further : (at < (line_at text at).next) × ((line_at text at).next ≤ length text)
  unfolding line_at
  next_further = go (ltb (stop_of text at) (length text)) refl
    where
      go : (t : Bool) → ltb (stop_of text at) (length text) ≡ t → (at < (if t then stop_of text at + 1 else stop_of text at)) × ((if t then stop_of text at + 1 else stop_of text at) ≤ length text)
      go true e = let l = ltb-true (stop_of text at) (length text) e in (omega arith, omega arith)
      go false e = let l = ltb-false (stop_of text at) (length text) e in (omega arith, stop_within)
