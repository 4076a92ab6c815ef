-- Line after line: what is written so far, and what is still to be written.
-- Assumes nothing.
use Rattle.std.proofs.Common.{◌≡◌, ℕ, zero, suc, ◌+◌, ◌<◌, ◌≤◌, List, [], ◌++◌, length, refl, sym, ap, ◌∙◌, append_assoc, append-nil, arith, le-leb}
use Rattle.std.proofs.lemmas.Bool.{lt-leb}
use Rattle.words.specs.Texts.{line_at}
use Rattle.words.proofs.Places.{next_further}
use Rattle.lent.specs.declared.Keeper.{Keeper}
use Rattle.lent.specs.Lent as lents
use Rattle.lender.specs.declared.SwapTable.{SwapTable}
use Rattle.lender.specs.Lender as lenders
use Rattle.pager_asks.specs.declared.Ask.{Ask}
use Rattle.pager_asks.specs.Asks.{ask_of}
use Rattle.run_pager.specs.declared.Acted.{Acted}
use Rattle.run_pager.specs.Acts.{asks, more, acted}
use Rattle.run_pager.specs.Said.{line_of, answer_line, said_from, said}

-- w is written, and with what follows from the place on it is the whole
pub record Telling (text : List ℕ) (at : ℕ) (t : SwapTable) (k : Keeper) (n : ℕ) (w : List ℕ) : Type 0 where
  pub lines : ℕ
  pub enough : length text ≤ at + lines
  pub bytes : w ++ said_from lines text at t k n ≡ said text

pub begins : (text : List ℕ) → Telling text 0 lenders.fresh lents.fresh 0 []
begins text = record { lines = length text; enough = omega arith; bytes = refl }

-- at the end of the text nothing follows
none_left : (lines : ℕ) (text : List ℕ) (at : ℕ) (t : SwapTable) (k : Keeper) (n : ℕ) → length text ≤ at → said_from lines text at t k n ≡ []
unfolding said_from
none_left zero text at t k n h = refl
none_left (suc f) text at t k n h = rw (le-leb (length text) at h)

pub ends : (text : List ℕ) (at : ℕ) (t : SwapTable) (k : Keeper) (n : ℕ) (w : List ℕ) → length text ≤ at → Telling text at t k n w → w ≡ said text
ends text at t k n w h d = sym (append-nil w) ∙ ap (λ l. w ++ l) (sym (none_left d.lines text at t k n h)) ∙ d.bytes

-- one line, of what the code found
module _ (text : List ℕ) (at : ℕ) (t : SwapTable) (k : Keeper) (n : ℕ) (w : List ℕ) (h : at < length text) where
  abbrev does : Acted
  does = acted (asks (ask_of (line_of text at))) t k

  one : (f : ℕ) → said_from (suc f) text at t k n ≡ answer_line (n + more does.answer) does ++ said_from f text (line_at text at).next does.table does.keeper (n + more does.answer)
  unfolding said_from
  one f = rw (lt-leb (length text) at h)

  further : Telling text at t k n w → Telling text (line_at text at).next does.table does.keeper (n + more does.answer) (w ++ answer_line (n + more does.answer) does)
  further d = go d.lines d.enough d.bytes
    where
      go : (f : ℕ) → length text ≤ at + f → w ++ said_from f text at t k n ≡ said text
          → Telling text (line_at text at).next does.table does.keeper (n + more does.answer) (w ++ answer_line (n + more does.answer) does)
      go zero e b = absurd (omega arith)
      go (suc f) e b =
          let next = next_further text at h in
          record {
            lines = f;
            enough = omega (arith, next.0);
            bytes = append_assoc w (answer_line (n + more does.answer) does) (said_from f text (line_at text at).next does.table does.keeper (n + more does.answer)) ∙ ap (λ l. w ++ l) (sym (one f)) ∙ b;
          }

  pub moved : {next : ℕ} {ask : Ask} {d : Acted} → ask ≡ asks (ask_of (line_of text at)) → d ≡ acted ask t k → next ≡ (line_at text at).next
      → Telling text at t k n w → Telling text next d.table d.keeper (n + more d.answer) (w ++ answer_line (n + more d.answer) d)
  moved e a m d = rw (a, m, e) (further d)
