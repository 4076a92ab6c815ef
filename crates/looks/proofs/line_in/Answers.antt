-- `line_in`: whose line has a code, who is ready, high or low. Assumes nothing.
use mathlib.Core.Path.{sym, ap, ◌∙◌}
use Rattle.looks.specs.declared.Place.TheVariants.{Waiting}
use Rattle.looks.proofs.Looking.{at_rest, place_none, place_high, place_low, place_waiting}
use Rattle.looks.proofs.line_in.Goals as goal

pub returns-then-t-slot-eq0 : goal.returns-then-t-slot-eq0
returns-then-t-slot-eq0 c =
    let idle = c.requires.2 in
    sym (place_none c.args.t c.requires.0.shape c.args.slot idle c.if-t-slot-eq0.true)

pub returns-then-is_high : goal.returns-then-is_high
returns-then-is_high c =
    let idle = c.requires.2 in
    let m = c.args.t in
    let g = c.requires.0 in
    sym (place_high m g.shape c.args.slot idle c.requires.1 (at_rest m g.shape g.rests.nothing_here) c.if-code-eq0.true c.if-t-slot-eq0.false g.rests.tables.own_line (sym c.is_high.ensures ∙ c.if-is_high.true))

pub returns-then-code-eq0 : goal.returns-then-code-eq0
returns-then-code-eq0 c =
    let idle = c.requires.2 in
    let m = c.args.t in
    let g = c.requires.0 in
    sym (place_low m g.shape c.args.slot idle c.requires.1 (at_rest m g.shape g.rests.nothing_here) c.if-code-eq0.true c.if-t-slot-eq0.false g.rests.tables.own_line (sym c.is_high.ensures ∙ c.if-is_high.false))

pub returns : goal.returns
returns c =
    let idle = c.requires.2 in
    ap Waiting c.line_of.ensures ∙ sym (place_waiting c.args.t c.requires.0.shape c.args.slot idle c.requires.1 c.if-code-eq0.false)
