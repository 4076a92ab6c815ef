-- `sleep_text::put_numbers` meets its contract: the first numbers are put.
-- Assumes nothing.
use mathlib.Core.Path.{◌≡◌}
use lib.ListN.{length, take}
use Rattle.report.specs.Buffer.{Puts}
use Rattle.sleep_text.specs.Answers.{spelt}
use Rattle.sleep_text.proofs.put_numbers.Given as goal

abbrev pub invariant-loop-number : goal.invariant-loop-number
invariant-loop-number l = Puts (spelt (take l.number-index l.numbers)) l.initial.out l.at l.out l.next × (length l.out ≡ length l.initial.out)
