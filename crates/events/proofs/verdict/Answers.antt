-- `verdict`: the rows of the table in their order. Assumes nothing.
use Rattle.std.proofs.Common.{◌≡◌, ℕ, ◌+◌, ◌%◌, ◌^◌, ◌<◌, ◌≤◌, false, sym, ap, ◌∙◌, arith, rules, Some, None, Option, Ok, Err}
use Rattle.rules.specs.declared.Event.{Event}
use Rattle.rules.specs.declared.Refusal.{Refusal}
use Rattle.rules.specs.declared.Status.TheVariants.{On}
use Rattle.tables.specs.declared.Tables.{Tables}
use Rattle.starts.specs.Verdict.{ok_unless}
use Rattle.rules.specs.Numbers.{gap_limit, time_limit}
use Rattle.rules.specs.Machine.{gap}
use Rattle.rules.specs.Rules.{clock, bad_line, bad_code}
use Rattle.tables.specs.View.{view}
use Rattle.tables.proofs.Billing.{gap_is}
use Rattle.events.proofs.Eventful.{checked, none_odd, row_over, row_odd, row_back, row_full, row_nobody, row_none}
use Rattle.events.proofs.verdict.Goals as goal

-- the difference that wraps is the gap of the event's own clock
gap_told : (m : Tables) (e : Event) (g now : ℕ) → g < 2 ^ 32 → now < 2 ^ 32 → m.last < 2 ^ 32 → (g + m.last) % 2 ^ 32 ≡ now → now ≡ clock e → g ≡ gap (clock e) (view m)
gap_told m e g now a b l difference reading = gap_is m g now a b l difference ∙ ap (λ n. gap n (view m)) reading

-- what is said of a refusal, or of none
said : {o p : Option Refusal} → o ≡ p → ok_unless tt p ≡ ok_unless (tt {0}) o
said e = ap (ok_unless tt) (sym e)

pub returns-then-ne : goal.returns-then-ne
returns-then-ne c = said {p = Some _} (row_over c.args.t.now c.args.e (search rules))

pub returns-in_err-check : goal.returns-in_err-check
returns-in_err-check c =
    let on : c.args.t.now.status ≡ On = search rules in
    let w : Refusal = c.in_err-check.field-0.0 in
    let bad : checked c.args.e ≡ Err w = search rules in
    let told : c.from_residual.result ≡ Err w = search rules in
    told ∙ said {p = Some w} (row_odd c.args.t.now c.args.e on w bad)

pub returns-then-gap-ge-GAP : goal.returns-then-gap-ge-GAP
returns-then-gap-ge-GAP c =
    let on : c.args.t.now.status ≡ On = search rules in
    let well : checked c.args.e ≡ Ok tt = search rules in
    let known : (bad_line c.args.e ≡ false) × (bad_code c.args.e ≡ false) = none_odd c.args.e well in
    let the-gap : ℕ = gap (clock c.args.e) (view c.args.t.now) in
    let last_fits : c.args.t.now.last < 2 ^ 32 = search rules in
    let gap_at = gap_told c.args.t.now c.args.e c.wrapping_sub_u32-gap.result c.clock_of.result (search rules) (search rules) last_fits c.wrapping_sub_u32-gap.ensures.value c.clock_of.ensures in
    said {p = Some _} (row_back c.args.t.now c.args.e on known.0 known.1 (omega (arith, gap_at, c.if-gap-ge-GAP.true)))

pub returns-then-room-t : goal.returns-then-room-t
returns-then-room-t c =
    let on : c.args.t.now.status ≡ On = search rules in
    let well : checked c.args.e ≡ Ok tt = search rules in
    let known : (bad_line c.args.e ≡ false) × (bad_code c.args.e ≡ false) = none_odd c.args.e well in
    let the-gap : ℕ = gap (clock c.args.e) (view c.args.t.now) in
    let last_fits : c.args.t.now.last < 2 ^ 32 = search rules in
    let gap_at = gap_told c.args.t.now c.args.e c.wrapping_sub_u32-gap.result c.clock_of.result (search rules) (search rules) last_fits c.wrapping_sub_u32-gap.ensures.value c.clock_of.ensures in
    let forth : the-gap < gap_limit = omega (arith, gap_at, c.if-gap-ge-GAP.false) in
    said {p = Some _} (row_full c.args.t.now c.args.e on known.0 known.1 forth (omega (arith, gap_at, c.if-room-t.true)))

pub returns-then-unmanned : goal.returns-then-unmanned
returns-then-unmanned c =
    let on : c.args.t.now.status ≡ On = search rules in
    let well : checked c.args.e ≡ Ok tt = search rules in
    let known : (bad_line c.args.e ≡ false) × (bad_code c.args.e ≡ false) = none_odd c.args.e well in
    let the-gap : ℕ = gap (clock c.args.e) (view c.args.t.now) in
    let last_fits : c.args.t.now.last < 2 ^ 32 = search rules in
    let gap_at = gap_told c.args.t.now c.args.e c.wrapping_sub_u32-gap.result c.clock_of.result (search rules) (search rules) last_fits c.wrapping_sub_u32-gap.ensures.value c.clock_of.ensures in
    let forth : the-gap < gap_limit = omega (arith, gap_at, c.if-gap-ge-GAP.false) in
    let room : c.args.t.now.total + the-gap ≤ time_limit = omega (arith, gap_at, c.if-room-t.false) in
    said {p = Some _} (row_nobody c.args.t.now c.args.e on known.0 known.1 forth room (sym c.unmanned.ensures ∙ c.if-unmanned.true))

pub returns : goal.returns
returns c =
    let on : c.args.t.now.status ≡ On = search rules in
    let well : checked c.args.e ≡ Ok tt = search rules in
    let known : (bad_line c.args.e ≡ false) × (bad_code c.args.e ≡ false) = none_odd c.args.e well in
    let the-gap : ℕ = gap (clock c.args.e) (view c.args.t.now) in
    let last_fits : c.args.t.now.last < 2 ^ 32 = search rules in
    let gap_at = gap_told c.args.t.now c.args.e c.wrapping_sub_u32-gap.result c.clock_of.result (search rules) (search rules) last_fits c.wrapping_sub_u32-gap.ensures.value c.clock_of.ensures in
    let forth : the-gap < gap_limit = omega (arith, gap_at, c.if-gap-ge-GAP.false) in
    let room : c.args.t.now.total + the-gap ≤ time_limit = omega (arith, gap_at, c.if-room-t.false) in
    said {p = None} (row_none c.args.t.now c.args.e on known.0 known.1 forth room (sym c.unmanned.ensures ∙ c.if-unmanned.false))
