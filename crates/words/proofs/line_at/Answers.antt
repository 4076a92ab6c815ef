-- `words::line_at` meets its contract: the end of what the line says, and the place behind its newline.
-- Assumes nothing.
use Rattle.std.proofs.Common.{rules, tests}
use lib.ListN.{length}
use borrow.Author.Tests.{lt-ltb, le-ltb}
use Rattle.words.specs.Texts.{content, row, line_at}
use Rattle.words.proofs.line_at.Goals as goal

pub returns-then-stop-text : goal.returns-then-stop-text
unfolding line_at
returns-then-stop-text c =
    let text = c.args.text.now in
    let end = c.run-end.ensures content (λ b r k. search (rules, tests)) in
    let stop = c.run-stop.ensures row (λ b r k. search (rules, tests)) in
    rw (← end, ← stop, lt-ltb c.run-stop.result (length text) c.if-stop-text.true)

pub returns : goal.returns
unfolding line_at
returns c =
    let text = c.args.text.now in
    let end = c.run-end.ensures content (λ b r k. search (rules, tests)) in
    let stop = c.run-stop.ensures row (λ b r k. search (rules, tests)) in
    rw (← end, ← stop, le-ltb c.run-stop.result (length text) c.if-stop-text.false)
