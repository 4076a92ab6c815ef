use Rattle.std.proofs.Common.{length, ◌≤◌, lit≤, arith, ap, ◌∙◌, subst}
use Rattle.std.specs.Io.KnownBytes.{Appends}
use Rattle.std.specs.Result.{OnOk}
use Rattle.words.specs.Texts.{nth}
use Rattle.words.specs.Complaints.{complaint}
use Rattle.run_pager.proofs.Fronts.{complaint_front}
use Rattle.pager_asks.specs.declared.Expected.{Expected}
use Rattle.pager_asks.specs.declared.Expected.TheVariants.{Command, Number, Cause, Outcome, Count, Frame, Byte, Nothing}
use Rattle.run_pager.specs.Told.{expected_text, most_expected}
use Rattle.run_pager.proofs.tell.Goals as goal

words_within : (e : Expected) → length (expected_text e) ≤ most_expected
words_within Command = lit≤ tt
words_within Number = lit≤ tt
words_within Cause = lit≤ tt
words_within Outcome = lit≤ tt
words_within Count = lit≤ tt
words_within Frame = lit≤ tt
words_within Byte = lit≤ tt
words_within Nothing = lit≤ tt

pub returns : goal.returns
returns g c =
    let a = c.args in
    let words = c.words_of-words.ensures in
    let same = complaint_front _ _ _ _ _ (omega (arith, words_within a.bad.expected, ap length words)) c.in-Some.ensures ∙ ap (λ w. complaint a.number w c.words_of-words.result.now) c.nth_word-found.ensures ∙ ap (λ t. complaint a.number (nth a.line.now a.bad.word) t) words in
    subst (λ t. OnOk c.write_all.result (Appends (g.W.Write.contents a.err.now) (g.W.Write.contents c.write_all.new.self) t)) same c.write_all.ensures.bytes
