-- Line after line, until one is bad.
-- Assumes nothing.
use Rattle.std.proofs.Common.{◌≡◌, ℕ, zero, suc, ◌+◌, ◌<◌, ◌≤◌, true, false, List, [], length, refl, sym, ◌∙◌, subst, arith, le-leb}
use Rattle.std.proofs.lemmas.Bool.{lt-leb}
use Rattle.words.specs.Texts.{line_at, nth}
use Rattle.words.specs.Complaints.{complaint}
use Rattle.words.proofs.Places.{next_further}
use Rattle.pager_asks.specs.declared.Ask.{Ask}
use Rattle.pager_asks.specs.declared.Bad.{Bad}
use Rattle.std.specs.declared.result.Result.{Result}
use Rattle.std.specs.declared.result.Result.TheVariants.{Ok, Err}
use Rattle.pager_asks.specs.Asks.{ask_of}
use Rattle.run_pager.specs.Told.{expected_text}
use Rattle.run_pager.specs.Said.{line_of, is_good, good_from, good, line_complaint, complaint_from, complaint_of}

-- so many lines were good: what holds from the place on holds of the text
pub record Finding (text : List ℕ) (at n : ℕ) : Type 0 where
  pub lines : ℕ
  pub enough : length text ≤ at + lines
  pub is_good : good_from lines text at ≡ good text
  pub told : complaint_from lines text at n ≡ complaint_of text

pub begins : (text : List ℕ) → Finding text 0 0
begins text = record { lines = length text; enough = omega arith; is_good = refl; told = refl }

all_were : (lines : ℕ) (text : List ℕ) (at n : ℕ) → length text ≤ at → (good_from lines text at ≡ true) × (complaint_from lines text at n ≡ [])
unfolding good_from complaint_from
all_were zero text at n h = (refl, refl)
all_were (suc f) text at n h = rw (le-leb (length text) at h) (refl, refl)

pub ends : (text : List ℕ) (at n : ℕ) → length text ≤ at → Finding text at n → (good text ≡ true) × (complaint_of text ≡ [])
ends text at n h d = let w = all_were d.lines text at n h in (sym d.is_good ∙ w.0, sym d.told ∙ w.1)

module _ (text : List ℕ) (at n : ℕ) (h : at < length text) where
  -- a line that is good, and one that is bad
  passes : (a : Result Ask Bad) → is_good a ≡ true → (line : List ℕ) (further : List ℕ) → line_complaint a (n + 1) line further ≡ further
  passes (Ok a) e line further = refl
  passes (Err b) e line further = cc

  pub one_good : (a : Result Ask Bad) → ((b : Bad) → a ≡ Err b → ⊥) → is_good a ≡ true
  one_good (Ok a) e = refl
  one_good (Err b) e = absurd (e b refl)

  pub moved : {next : ℕ} {a : Result Ask Bad} → a ≡ ask_of (line_of text at) → is_good a ≡ true → next ≡ (line_at text at).next → Finding text at n → Finding text next (n + 1)
  unfolding good_from complaint_from
  moved {next} {a} e g m d = rw m (go d.lines d.enough d.is_good d.told)
    where
      ok : is_good (ask_of (line_of text at)) ≡ true
      ok = subst (λ x. is_good x ≡ true) e g

      go : (f : ℕ) → length text ≤ at + f → good_from f text at ≡ good text → complaint_from f text at n ≡ complaint_of text → Finding text (line_at text at).next (n + 1)
      go zero e b c = absurd (omega arith)
      go (suc f) e b c =
          let next = next_further text at h in
          record {
            lines = f;
            enough = omega (arith, next.0);
            is_good = rw (lt-leb (length text) at h, ok) at b;
            told = sym (passes _ ok (line_of text at) (complaint_from f text (line_at text at).next (n + 1))) ∙ rw (lt-leb (length text) at h) at c;
          }

  pub found : {a : Result Ask Bad} {b : Bad} → a ≡ ask_of (line_of text at) → a ≡ Err b → Finding text at n
      → (good text ≡ false) × (complaint_of text ≡ complaint (n + 1) (nth (line_of text at) b.word) (expected_text b.expected))
  unfolding good_from complaint_from
  found {a} {b} e q d = go d.lines d.enough d.is_good d.told
    where
      is : ask_of (line_of text at) ≡ Err b
      is = sym e ∙ q

      go : (f : ℕ) → length text ≤ at + f → good_from f text at ≡ good text → complaint_from f text at n ≡ complaint_of text
          → (good text ≡ false) × (complaint_of text ≡ complaint (n + 1) (nth (line_of text at) b.word) (expected_text b.expected))
      go zero e x c = absurd (omega arith)
      go (suc f) e x c = (sym (rw (lt-leb (length text) at h, is) at x), sym (rw (lt-leb (length text) at h, is) at c))
