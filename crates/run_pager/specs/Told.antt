-- What is told of a bad line: the word that was found, and what was expected.
use Rattle.std.specs.Prelude.{ℕ, List, codes}
use Rattle.pager_asks.specs.declared.Expected.{Expected}
use Rattle.pager_asks.specs.declared.Expected.TheVariants.{Command, Number, Cause, Outcome, Count, Frame, Byte, Nothing}

abbrev pub expected_text : Expected → List ℕ
expected_text Command = codes "refill, fault, report, end, rows or row"
expected_text Number = codes "a number from 0 to 4294967295, decimal or 0x"
expected_text Cause = codes "load, store or mod"
expected_text Outcome = codes "ok or failed"
expected_text Count = codes "a number of rows from 0 to 64"
expected_text Frame = codes "a frame from 0 to 63"
expected_text Byte = codes "a number from 0 to 255"
expected_text Nothing = codes "the end of the line"

-- as many bytes as such a text has at most
abbrev pub most_expected : ℕ
most_expected = 44
