-- `sleep_text::first_bad` meets its contract: what is found from here on is what is found in the whole. Each line
-- takes a byte at least.
-- Assumes nothing.
use mathlib.Core.Path.{◌≡◌, sym, ◌∙◌}
use Prim.Native.Nat.{◌≤◌}
use native.Mathlib.Omega.{arith}
use lib.ListN.{length}
use Rattle.words.proofs.Places.{end_place, end_within, next_further}
use Rattle.std.specs.declared.result.Result.TheVariants.{Err}
use Rattle.sleep_text.specs.Lines.{parsed, line_of}
use Rattle.sleep_text.proofs.Passing.{walk_end, walk_bad, walk_on}
use Rattle.sleep_text.proofs.first_bad.Goals as goal

pub slice_bounds-parse-count : goal.slice_bounds-parse-count
slice_bounds-parse-count c =
    let within : (c.loop-at.at ≤ c.line_at-line.result.end) × (c.line_at-line.result.end ≤ length c.args.text.now) = let t = c.args.text.now in
    rw c.line_at-line.ensures (end_place t c.loop-at.at c.loop-at-test.true, end_within t c.loop-at.at c.loop-at-test.true) in
    let w = within in omega (arith, w.0)

pub slice_bounds-parse-start : goal.slice_bounds-parse-start
slice_bounds-parse-start c =
    let within : (c.loop-at.at ≤ c.line_at-line.result.end) × (c.line_at-line.result.end ≤ length c.args.text.now) = let t = c.args.text.now in
    rw c.line_at-line.ensures (end_place t c.loop-at.at c.loop-at-test.true, end_within t c.loop-at.at c.loop-at-test.true) in
    let w = within in omega (arith, w.0)

pub slice_bounds-parse-end : goal.slice_bounds-parse-end
slice_bounds-parse-end c =
    let within : (c.loop-at.at ≤ c.line_at-line.result.end) × (c.line_at-line.result.end ≤ length c.args.text.now) = let t = c.args.text.now in
    rw c.line_at-line.ensures (end_place t c.loop-at.at c.loop-at-test.true, end_within t c.loop-at.at c.loop-at-test.true) in
    let w = within in omega (arith, w.1)

pub returns-in-Err : goal.returns-in-Err
returns-in-Err c =
    let t = c.args.text.now in
    let said : Err c.in-Err.bad ≡ parsed (line_of t c.loop-at.at) = rw (← c.line_at-line.ensures) c.in-Err.ensures in
    rw c.line_at-line.ensures (sym (c.loop-at.invariant.0 ∙ walk_bad t c.loop-at.at c.loop-at.number c.loop-at-test.true c.in-Err.bad said))

pub loop-at-smaller : goal.loop-at-smaller
loop-at-smaller c =
    let t = c.args.text.now in
    rw c.line_at-line.ensures (let f = next_further t c.loop-at.at c.loop-at-test.true in omega (arith, f.0, f.1))

pub loop-at-preserved : goal.loop-at-preserved
loop-at-preserved c =
    let t = c.args.text.now in
    let said : c.parse.result ≡ parsed (line_of t c.loop-at.at) = rw (← c.line_at-line.ensures) c.parse.ensures in
    let f = next_further t c.loop-at.at c.loop-at-test.true in
    rw c.line_at-line.ensures (c.loop-at.invariant.0 ∙ walk_on t c.loop-at.at c.loop-at.number c.loop-at-test.true c.parse.result said c.in_default.not-Err, (f.1, omega (arith, f.0)))

pub returns : goal.returns
returns c =
    sym (c.loop-at.invariant.0 ∙ walk_end c.args.text.now c.loop-at.at c.loop-at.number c.loop-at-test.false)
