-- A length that a line asks for is at most 64.
use Rattle.std.specs.Prelude.{Option, Some, None, IfOk}
use Rattle.std.specs.declared.result.Result.{Result}
use mathlib.Core.Path.{◌≡◌, refl}
use mathlib.Core.List.{List}
use Prim.Native.Nat.{ℕ, ◌-◌}
use Rattle.rules.proofs.Cases.{if_cases}
use Rattle.pages.specs.declared.Cause.TheVariants.{Load, Store, Modification}
use Rattle.pages.specs.declared.Event.TheVariants.{Refill, Fault, Report, End}
use Rattle.pages.specs.Rules.{held}
use Rattle.words.specs.Texts.{nth, same}
use Rattle.pager_asks.specs.declared.Expected.TheVariants as want
use Rattle.pager_asks.specs.declared.Ask.{Ask}
use Rattle.pager_asks.specs.declared.Bad.{Bad}
use Rattle.pager_asks.specs.declared.Ask.TheVariants.{Asked, Length, Set}
use Rattle.pager_asks.specs.Asks as lines
use Rattle.pager_asks.specs.Asks.{Sized, bad, no_word, number_at, any_word, any_byte, most_rows, with_number, ended, refill_ask, by_cause, fault_ask, report_ask, end_ask, rows_ask, row_ask, other_ask, ask_of}
use Rattle.pager_asks.proofs.Numbers.{within}

abbrev pub AllSized : Result Ask Bad → Type 0
AllSized r = IfOk r Sized

module _ (line : List ℕ) where
  by_number : (limit k : ℕ) (b : Bad) (f : ℕ → Result Ask Bad) → ((n : ℕ) → number_at limit line k ≡ Some n → AllSized (f n)) → AllSized (with_number (number_at limit line k) b f)
  by_number limit k b f s = go (number_at limit line k) refl
    where
      go : (d : Option ℕ) → number_at limit line k ≡ d → AllSized (with_number d b f)
      go (Some n) e = s n e
      go None e = tt

  at_end : (k : ℕ) (a : Ask) → Sized a → AllSized (ended line k a)
  at_end k a s = if_cases AllSized (no_word line k) (λ _. s) (λ _. tt)

  refill_sized : AllSized (refill_ask line)
  unfolding refill_ask
  refill_sized = by_number any_word 1 (bad 1 want.Number) _ (λ u _. by_number any_word 2 (bad 2 want.Number) _ (λ n _. at_end 3 (Asked (Refill u n)) tt))

  cause_sized : (u n : ℕ) → AllSized (by_cause line u n)
  unfolding by_cause
  cause_sized u n =
      if_cases AllSized (same (nth line 3) lines.load) (λ _. at_end 4 (Asked (Fault u n Load)) tt) (λ _.
      if_cases AllSized (same (nth line 3) lines.store) (λ _. at_end 4 (Asked (Fault u n Store)) tt) (λ _.
      if_cases AllSized (same (nth line 3) lines.modification) (λ _. at_end 4 (Asked (Fault u n Modification)) tt) (λ _. tt)))

  fault_sized : AllSized (fault_ask line)
  unfolding fault_ask
  fault_sized = by_number any_word 1 (bad 1 want.Number) _ (λ u _. by_number any_word 2 (bad 2 want.Number) _ (λ n _. cause_sized u n))

  report_sized : AllSized (report_ask line)
  unfolding report_ask
  report_sized =
      if_cases AllSized (same (nth line 1) lines.ok) (λ _. at_end 2 (Asked (Report _)) tt) (λ _.
      if_cases AllSized (same (nth line 1) lines.failed) (λ _. at_end 2 (Asked (Report _)) tt) (λ _. tt))

  end_sized : AllSized (end_ask line)
  unfolding end_ask
  end_sized = by_number any_word 1 (bad 1 want.Number) _ (λ u _. at_end 2 (Asked (End u)) tt)

  rows_sized : AllSized (rows_ask line)
  unfolding rows_ask
  rows_sized = by_number most_rows 1 (bad 1 want.Count) _ (λ n e. at_end 2 (Length n) (within most_rows line 1 n e))

  row_sized : AllSized (row_ask line)
  unfolding row_ask
  row_sized =
      by_number (most_rows - 1) 1 (bad 1 want.Frame) _ (λ f _. by_number any_byte 2 (bad 2 want.Byte) _ (λ o _. by_number any_byte 3 (bad 3 want.Byte) _ (λ e _. at_end 4 (Set f (held o e)) tt)))

  other_sized : AllSized (other_ask line)
  unfolding other_ask
  other_sized =
      if_cases AllSized (same (nth line 0) lines.end) (λ _. end_sized) (λ _.
      if_cases AllSized (same (nth line 0) lines.rows) (λ _. rows_sized) (λ _.
      if_cases AllSized (same (nth line 0) lines.row) (λ _. row_sized) (λ _. tt)))

  pub sized : AllSized (ask_of line)
  unfolding ask_of
  sized =
      if_cases AllSized (no_word line 0) (λ _. tt) (λ _.
      if_cases AllSized (same (nth line 0) lines.refill) (λ _. refill_sized) (λ _.
      if_cases AllSized (same (nth line 0) lines.fault) (λ _. fault_sized) (λ _.
      if_cases AllSized (same (nth line 0) lines.report) (λ _. report_sized) (λ _. other_sized))))
