-- Line after line: what is written so far, and what is still to be written.
-- Assumes nothing.
use Rattle.std.proofs.Common.{◌≡◌, ℕ, zero, suc, ◌+◌, ◌<◌, ◌≤◌, false, List, [], ◌++◌, length, refl, sym, ap, ◌∙◌, append_assoc, append-nil, arith, le-leb}
use Rattle.std.proofs.lemmas.Bool.{lt-leb}
use Rattle.words.specs.Texts.{line_at}
use Rattle.words.proofs.Places.{next_further}
use Rattle.sleeps.specs.declared.Answer.{Answer}
use Rattle.sleeps.specs.declared.Operation.{Operation}
use Rattle.sleeps.specs.Rules.{State, nobody, step}
use Rattle.sleeping.specs.Promised.{told}
use Rattle.std.specs.declared.option.Option.TheVariants.{Some}
use Rattle.std.specs.declared.result.Result.TheVariants.{Ok}
use Rattle.sleep_text.specs.Lines.{Parsed, parsed, line_of}
use Rattle.sleep_text.specs.Answers.{told_line, answer_line}
use Rattle.run_sleep.specs.Said.{reply_line, is_gap, line_said, said_from, said}

-- the line of an answer is the line of the reply that it stands for
as_replied : (n : ℕ) (a : Answer) → answer_line n a ≡ reply_line n (told a)
unfolding told_line reply_line
as_replied n a = refl

pub said_bytes : (p : Parsed) (o : Operation) (s : State) (n : ℕ) (a : Answer) → p ≡ Ok (Some o) → is_gap o ≡ false → told a ≡ (step o s).reply
    → answer_line (n + 1) a ≡ (line_said p s n).bytes
said_bytes p o s n a e f t = rw (e, f) (as_replied (n + 1) a ∙ ap (reply_line (n + 1)) t)

-- w is written, and with what follows from the place on it is the whole
pub record Telling (text : List ℕ) (at : ℕ) (s : State) (n : ℕ) (w : List ℕ) : Type 0 where
  pub lines : ℕ
  pub enough : length text ≤ at + lines
  pub bytes : w ++ said_from lines text at s n ≡ said text

pub begins : (text : List ℕ) → Telling text 0 nobody 0 []
begins text = record { lines = length text; enough = omega arith; bytes = refl }

-- at the end of the text nothing follows
none_left : (lines : ℕ) (text : List ℕ) (at : ℕ) (s : State) (n : ℕ) → length text ≤ at → said_from lines text at s n ≡ []
unfolding said_from
none_left zero text at s n h = refl
none_left (suc f) text at s n h = rw (le-leb (length text) at h)

pub ends : (text : List ℕ) (at : ℕ) (s : State) (n : ℕ) (w : List ℕ) → length text ≤ at → Telling text at s n w → w ≡ said text
ends text at s n w h t = sym (append-nil w) ∙ ap (λ l. w ++ l) (sym (none_left t.lines text at s n h)) ∙ t.bytes

-- one line
module _ (text : List ℕ) (at : ℕ) (s : State) (n : ℕ) (w : List ℕ) (h : at < length text) where
  after : ℕ → List ℕ
  after f = let l = line_said (parsed (line_of text at)) s n in said_from f text (line_at text at).next l.after l.number

  one : (f : ℕ) → said_from (suc f) text at s n ≡ (line_said (parsed (line_of text at)) s n).bytes ++ after f
  unfolding said_from after
  one f = rw (lt-leb (length text) at h)

  pub further : Telling text at s n w
      → Telling text (line_at text at).next (line_said (parsed (line_of text at)) s n).after (line_said (parsed (line_of text at)) s n).number (w ++ (line_said (parsed (line_of text at)) s n).bytes)
  unfolding after
  further t = go t.lines t.enough t.bytes
    where
      go : (f : ℕ) → length text ≤ at + f → w ++ said_from f text at s n ≡ said text
          → Telling text (line_at text at).next (line_said (parsed (line_of text at)) s n).after (line_said (parsed (line_of text at)) s n).number (w ++ (line_said (parsed (line_of text at)) s n).bytes)
      go zero e b = absurd (omega arith)
      go (suc f) e b =
          let next = next_further text at h in
          record {
            lines = f;
            enough = omega (arith, next.0);
            bytes = append_assoc w (line_said (parsed (line_of text at)) s n).bytes (after f) ∙ ap (λ l. w ++ l) (sym (one f)) ∙ b;
          }

  -- the same, of what the code found
  pub moved : {next n' : ℕ} {s' : State} {p : Parsed} → p ≡ parsed (line_of text at) → next ≡ (line_at text at).next → s' ≡ (line_said p s n).after → n' ≡ (line_said p s n).number
      → Telling text at s n w → Telling text next s' n' (w ++ (line_said p s n).bytes)
  moved e d a m t = rw (d, a, m, e) (further t)
