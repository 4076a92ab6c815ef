-- `terminate` meets its contract.
use Rattle.std.specs.Prelude.{Some}
use mathlib.Core.Path.{◌≡◌, sym, ◌∙◌}
use Prim.Native.Nat.{ℕ, ◌<◌}
use native.Mathlib.Omega.{arith}
use Rattle.rules.specs.Numbers.{base_slots}
use Rattle.lines.specs.Lines.{first_where, is_id}
use Rattle.lines.proofs.Laws.{first_in}
use Rattle.calls.proofs.Naming.{named_pos, ends_nobody, ends_forbidden, ends_other, ends_caller}
use Rattle.calls.proofs.terminate.Goals as goal

pub returns-in_default : goal.returns-in_default
returns-in_default c =
    let n = c.named-id in
    let r = c.replies in
    ends_nobody c.args.t c.requires.0 c.requires.1 c.args.a1 n.result n.ensures (sym c.find_id.ensures ∙ c.in_default.is) r.result r.ensures

pub may_name-requires : goal.may_name-requires
may_name-requires c =
    let slot : ℕ = c.in-Some.target in
    let found : first_where (is_id c.named-id.result) 0 c.args.t.ids ≡ Some slot = sym c.find_id.ensures ∙ c.in-Some.is in
    let in_slots : slot < base_slots = omega (arith, first_in (is_id c.named-id.result) c.args.t.ids 0 slot found, c.requires.0.ids_long) in
    let g = c.requires.0 in
    (g.ids_long, g.parents_long, g.customers_long, c.requires.1, in_slots, g.parent)

pub returns-then-not-may_name : goal.returns-then-not-may_name
returns-then-not-may_name c =
    let slot : ℕ = c.in-Some.target in
    let found : first_where (is_id c.named-id.result) 0 c.args.t.ids ≡ Some slot = sym c.find_id.ensures ∙ c.in-Some.is in
    let n = c.named-id in
    let r = c.replies-then-not-may_name in
    ends_forbidden c.args.t c.requires.0 c.requires.1 c.args.a1 n.result n.ensures slot found (sym c.may_name.ensures ∙ c.if-not-may_name.true) r.result r.ensures

pub kill-k-requires : goal.kill-k-requires
kill-k-requires c =
    let n = c.named-id in
    (c.requires.0, c.requires.1, named_pos c.args.t c.requires.0 c.requires.1 c.args.a1 n.result n.ensures)

pub returns-then-m-lt-SLOTS : goal.returns-then-m-lt-SLOTS
returns-then-m-lt-SLOTS c =
    let slot : ℕ = c.in-Some.target in
    let found : first_where (is_id c.named-id.result) 0 c.args.t.ids ≡ Some slot = sym c.find_id.ensures ∙ c.in-Some.is in
    let n = c.named-id in
    let d = c.kill-k in
    let x = c.ends-x in
    let r = c.back in
    ends_other c.args.t c.requires.0 c.requires.1 c.args.a1 n.result n.ensures slot found (sym c.may_name.ensures ∙ c.if-not-may_name.false) d.result d.ensures x.result r.result c.if-m-lt-SLOTS.true x.ensures r.ensures

pub returns : goal.returns
returns c =
    let slot : ℕ = c.in-Some.target in
    let found : first_where (is_id c.named-id.result) 0 c.args.t.ids ≡ Some slot = sym c.find_id.ensures ∙ c.in-Some.is in
    let n = c.named-id in
    let d = c.kill-k in
    let x = c.ends-x-2 in
    let r = c.schedule in
    ends_caller c.args.t c.requires.0 c.requires.1 c.args.a1 n.result n.ensures slot found (sym c.may_name.ensures ∙ c.if-not-may_name.false) d.result d.ensures x.result r.result c.if-m-lt-SLOTS.false x.ensures r.ensures
