-- `sleep_text::parse` meets its contract, word by word.
-- Assumes nothing.
use mathlib.Core.Path.{sym, ◌∙◌}
use Rattle.sleep_text.specs.Lines.{parsed}
use Rattle.sleep_text.proofs.parse.Goals as goal

pub returns-then-absent_at : goal.returns-then-absent_at
unfolding parsed
returns-then-absent_at c = rw (sym c.absent_at.ensures ∙ c.if-absent_at.true)

pub returns-then-same_at : goal.returns-then-same_at
unfolding parsed
returns-then-same_at c =
    rw (sym c.absent_at.ensures ∙ c.if-absent_at.false, sym c.same_at.ensures ∙ c.if-same_at.true) c.gap_line.ensures

pub returns-then-same_at-2 : goal.returns-then-same_at-2
unfolding parsed
returns-then-same_at-2 c =
    rw (sym c.absent_at.ensures ∙ c.if-absent_at.false, sym c.same_at.ensures ∙ c.if-same_at.false, sym c.same_at-2.ensures ∙ c.if-same_at-2.true) c.ask_line.ensures

pub returns-then-same_at-3 : goal.returns-then-same_at-3
unfolding parsed
returns-then-same_at-3 c =
    rw (sym c.absent_at.ensures ∙ c.if-absent_at.false, sym c.same_at.ensures ∙ c.if-same_at.false, sym c.same_at-2.ensures ∙ c.if-same_at-2.false, sym c.same_at-3.ensures ∙ c.if-same_at-3.true) c.ended.ensures

pub returns-then-same_at-4 : goal.returns-then-same_at-4
unfolding parsed
returns-then-same_at-4 c =
    rw (sym c.absent_at.ensures ∙ c.if-absent_at.false, sym c.same_at.ensures ∙ c.if-same_at.false, sym c.same_at-2.ensures ∙ c.if-same_at-2.false, sym c.same_at-3.ensures ∙ c.if-same_at-3.false, sym c.same_at-4.ensures ∙ c.if-same_at-4.true) c.end_line.ensures

pub returns : goal.returns
unfolding parsed
returns c =
    rw (sym c.absent_at.ensures ∙ c.if-absent_at.false, sym c.same_at.ensures ∙ c.if-same_at.false, sym c.same_at-2.ensures ∙ c.if-same_at-2.false, sym c.same_at-3.ensures ∙ c.if-same_at-3.false, sym c.same_at-4.ensures ∙ c.if-same_at-4.false)
