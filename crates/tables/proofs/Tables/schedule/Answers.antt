-- `Tables::schedule` meets its contract.
use Rattle.tables.specs.Promised.{run_next}
use Rattle.std.proofs.Common.{◌≡◌, ℕ, Bool, List, ◌<◌, true, false, length, sym, ◌∙◌, arith, eqb-true, eq-eqb, pos_of_ne-zero, true≢false}
use lib.ListN.{length-map}
use Rattle.rules.specs.Machine.{Process, takes_low, low_turn, counted}
use Rattle.choices.proofs.Turns.{low_there, nobody_left}
use Rattle.lines.proofs.Laws.{line_size}
use Rattle.tables.specs.declared.Tables.{Tables}
use Rattle.tables.specs.View.{row, highs, lows, view, Shape}
use Rattle.tables.proofs.Choosing.{stuck, high_comes, low_comes}
use Rattle.tables.proofs.Tables.schedule.Goals as goal

-- how many are in each line
high-size : (m : Tables) → Shape m → length (view m).high ≡ m.high.count
high-size m g = length-map (highs m) (row m) ∙ line_size g.high_line

low-size : (m : Tables) → Shape m → length (view m).low ≡ m.low.count
low-size m g = length-map (lows m) (row m) ∙ line_size g.low_line

-- whose turn it is, and the count after the choice, said of the machine that the tables stand for
turn_of : (m : Tables) → Shape m → {r : Bool} → ((hs ls : List Process) → length hs ≡ m.high.count → length ls ≡ m.low.count → r ≡ low_turn hs ls m.four) → r ≡ takes_low (view m)
turn_of m g said = said (view m).high (view m).low (high-size m g) (low-size m g)

count_of : (m : Tables) → Shape m → {r : ℕ} → ((hs ls : List Process) → length hs ≡ m.high.count → length ls ≡ m.low.count → r ≡ counted hs ls m.four) → r ≡ counted (view m).high (view m).low m.four
count_of m g said = said (view m).high (view m).low (high-size m g) (low-size m g)

-- a low one is chosen only where there is one; a high one, where there is none, only where there is no low one
some_low : (m : Tables) → Shape m → takes_low (view m) ≡ true → 0 < m.low.count
some_low m g t = omega (arith, low_there (view m).high (view m).low m.four t, low-size m g)

none_low : (m : Tables) → Shape m → takes_low (view m) ≡ false → m.high.count ≡ 0 → m.low.count ≡ 0
none_low m g t h = sym (low-size m g) ∙ nobody_left (view m).high (view m).low m.four t (high-size m g ∙ h)

pub remove-slot-requires : goal.remove-slot-requires
remove-slot-requires c =
    let turn = sym (turn_of c.args.self c.requires.0 c.takes_low.ensures) ∙ c.if-takes_low.true in
    let some-low = some_low c.args.self c.requires.0 turn in
    let l = c.requires.0.low_line in
    (some-low, l.room)

pub returns-then-takes_low : goal.returns-then-takes_low
returns-then-takes_low c =
    let count = count_of c.args.self c.requires.0 c.counted-count.ensures in
    let turn = sym (turn_of c.args.self c.requires.0 c.takes_low.ensures) ∙ c.if-takes_low.true in
    let some-low = some_low c.args.self c.requires.0 turn in
    let told : c.runs.result ≡ run_next c.remove-slot.result c.counted-count.result c.args.x (record c.args.self { low = c.remove-slot.new.self }) = c.runs.ensures in
    rw (told, c.remove-slot.ensures.0, c.remove-slot.ensures.1)
    (low_comes c.args.x c.args.self c.requires.0 c.requires.1 c.counted-count.result count turn some-low)

pub nobody_ready-requires : goal.nobody_ready-requires
nobody_ready-requires c =
    let high-turn = sym (turn_of c.args.self c.requires.0 c.takes_low.ensures) ∙ c.if-takes_low.false in
    let none-low = none_low c.args.self c.requires.0 high-turn (eqb-true c.args.self.high.count 0 (sym c.is_empty.ensures ∙ c.if-is_empty.true)) in
    (c.requires.0, c.requires.1, (eqb-true c.args.self.high.count 0 (sym c.is_empty.ensures ∙ c.if-is_empty.true)), none-low)

pub returns-then-is_empty : goal.returns-then-is_empty
returns-then-is_empty c =
    let high-turn = sym (turn_of c.args.self c.requires.0 c.takes_low.ensures) ∙ c.if-takes_low.false in
    let none-low = none_low c.args.self c.requires.0 high-turn (eqb-true c.args.self.high.count 0 (sym c.is_empty.ensures ∙ c.if-is_empty.true)) in
    stuck c.args.x c.args.self c.nobody_ready.result (eqb-true c.args.self.high.count 0 (sym c.is_empty.ensures ∙ c.if-is_empty.true)) none-low c.nobody_ready.ensures

pub returns : goal.returns
returns c =
    let count = count_of c.args.self c.requires.0 c.counted-count.ensures in
    let high-turn = sym (turn_of c.args.self c.requires.0 c.takes_low.ensures) ∙ c.if-takes_low.false in
    let some-high : 0 < c.args.self.high.count = pos_of_ne-zero (λ e. true≢false (sym (eq-eqb c.args.self.high.count 0 e) ∙ sym c.is_empty.ensures ∙ c.if-is_empty.false)) in
    let told : c.runs-2.result ≡ run_next c.remove-slot-2.result c.counted-count.result c.args.x (record c.args.self { high = c.remove-slot-2.new.self }) = c.runs-2.ensures in
    rw (told, c.remove-slot-2.ensures.0, c.remove-slot-2.ensures.1)
    (high_comes c.args.x c.args.self c.requires.0 c.requires.1 c.counted-count.result count high-turn some-high)
