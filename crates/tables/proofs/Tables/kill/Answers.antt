-- `Tables::kill` meets its contract.
use Rattle.std.specs.Prelude.{Option, None}
use Rattle.std.proofs.Common.{ℕ, ◌+◌, ◌-◌, ◌^◌, Bool, List, sym, ap, ◌∙◌, subst, arith, if◌then◌else◌}
use Rattle.rules.specs.Numbers.{most_processors}
use Rattle.lines.specs.Lines.{marked, tally, blanked}
use Rattle.tables.specs.Promised.{Kills}
use Rattle.tables.proofs.Doomed.{kill_step, toll_fits, bits_freed}
use Rattle.tables.proofs.Tables.kill.Goals as goal

pub toll-time-requires : goal.toll-time-requires
toll-time-requires c =
    let f = c.family-doomed in
    omega (arith, toll_fits c.args.self c.requires.0 c.args.id f.result f.ensures)

pub overflow_add-self : goal.overflow_add-self
overflow_add-self c =
    let f = c.family-doomed in
    omega (arith, c.toll-time.ensures, toll_fits c.args.self c.requires.0 c.args.id f.result f.ensures)

pub overflow_sub-self : goal.overflow_sub-self
overflow_sub-self c =
    omega (arith, c.mask-bits.ensures, bits_freed c.args.self c.requires.0 c.args.id c.family-doomed.result c.family-doomed.ensures c.requires.2)

pub returns : goal.returns
returns c =
    let f = c.family-doomed in
    let m = c.args.self in
    let left = c.leaving-left in
    let struck-there = c.strike-8.ensures ∙ ap (λ (ds : List Bool). blanked {A = Option ℕ} None ds m.runners) left.ensures in
    let left-told = c.mask-idle.ensures ∙ ap (λ (ds : List Bool). tally (λ k. if marked ds k then 2 ^ k else 0) most_processors) left.ensures in
    subst (Kills c.args.id m)
    (λ i. record {
      tables = record {
        ids = sym c.strike.ensures i;
        taken = m.taken - sym c.mask-bits.ensures i;
        parents = sym c.strike-2.ensures i;
        customers = sym c.strike-3.ensures i;
        priorities = sym c.strike-4.ensures i;
        handles = sym c.strike-5.ensures i;
        times = sym c.strike-6.ensures i;
        lines = sym c.strike-7.ensures i;
        high = sym c.drop_marked.ensures i;
        low = sym c.drop_marked-2.ensures i;
        four = m.four;
        waits = sym c.drop_marked-3.ensures i;
        running = sym c.spared.ensures i;
        sems = m.sems;
        ceilings = m.ceilings;
        next = m.next;
        status = m.status;
        last = m.last;
        total = m.total;
        idle = m.idle;
        ended = m.ended + sym c.toll-time.ensures i;
        runners = sym struck-there i;
        lasts = m.lasts;
        idles = m.idles;
        processors = m.processors;
      };
      ended = sym c.mask-bits.ensures i;
      idled = sym left-told i;
    })
    (kill_step m c.requires.0 c.args.id f.result f.ensures c.requires.1 c.requires.2)
