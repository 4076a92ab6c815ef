-- WHO MOVES. What an accepted event does to the places: nobody moves but as one of seven rows says, and then the next
-- is chosen where nobody runs. So everybody else keeps their place and their order within their line.
use Rattle.std.specs.Prelude.{◌≡◌, true, false, not, List, [], ◌∷◌, ◌++◌, map, ℕ, eqb, pos, negsuc, get_or, if◌then◌else◌, Option, Some, None}
use Rattle.rules.specs.declared.Event.{Event}
use Rattle.rules.specs.declared.Event.TheVariants.{Call, Interrupt, Exception}
use Rattle.rules.specs.declared.Action.{Action}
use Rattle.rules.specs.declared.Line.{Line}
use Rattle.rules.specs.declared.Line.TheVariants.{Semaphore, Device, PseudoClock}
use Rattle.rules.specs.Words.{first, those, front, without}
use Rattle.rules.specs.Machine.{Process, Seat, Machine, at, line, family, family_of, rid_of, lowest_free, child_of, newborn}
use Rattle.rules.specs.Answers.{Outcome, mask, left_idle}
use Rattle.rules.specs.Rules.{denied, value, sub_device}
use Rattle.rules.specs.Tables.{slots_of}
use Rattle.ledger.specs.History.{keeps_running, slot_run}
use Rattle.ledger.specs.Choices.{Lists, lists_of, placed, joining, chosen}
use Rattle.ledger.specs.Kills.{passed_up, target, spared}

pub data Move : Type 0 where
  -- nobody moves
  none : Move
  -- whoever runs goes to the end of its ready line
  steps_back : Move
  -- whoever runs goes to the end of a waiting line
  joins : Line → Move
  -- the first of a waiting line, or nobody where it is empty, goes to the end of its ready line
  first_wakes : Line → Move
  -- all of a waiting line go each to the end of its ready line, first come first
  all_wake : Line → Move
  -- a newborn of whoever runs, with a priority and a support handle, stands at the end of its ready line
  is_born : ℕ → ℕ → Move
  -- one and its descendants are nowhere; whoever runs and is none of them goes to the end of its ready line
  ends : ℕ → Move

-- ── Which event moves whom ──

-- −1: a newborn, unless whoever runs is denied it
abbrev pub creates : ℕ → ℕ → Machine → Move
creates a2 a3 m = first m.running none λ p. if denied (child_of p.customer a2) m then none else is_born a2 a3

-- the calls −1 to −10 that are carried out, in order (−2: see `target`)
abbrev pub call_moves : ℕ → ℕ → ℕ → Machine → List Move
call_moves a1 a2 a3 m =
    creates a2 a3 m
    ∷ none
    ∷ (if eqb (value a1 m) 0 then joins (Semaphore a1) else none)
    ∷ first_wakes (Semaphore a1)
    ∷ joins (Device a1)
    ∷ none
    ∷ joins PseudoClock
    ∷ none
    ∷ none
    ∷ steps_back
    ∷ []

abbrev pub carried_out : Event → Machine → Move
carried_out (Call now mode (pos n) a1 a2 a3) m = none
carried_out (Call now mode (negsuc k) a1 a2 a3) m = get_or (call_moves a1 a2 a3 m) k none
carried_out (Interrupt now n x y) m =
    if eqb n 1 then steps_back else (if eqb n 2 then all_wake PseudoClock else first_wakes (Device (sub_device n x y)))
carried_out (Exception now code) m = none

abbrev pub move : Event → Machine → Move
move e m = first (target e m) (if passed_up e m then none else carried_out e m) ends

-- ── Where everybody is then ──

-- before anybody is chosen to run
abbrev pub moved : Move → Machine → Lists
moved none m = placed m.running m.waiting m
moved steps_back m = joining m.running (placed [] m.waiting m)
moved (joins l) m = placed [] (m.waiting ++ map (λ p. record { process = p; line = l }) m.running) m
moved (first_wakes l) m = joining (front (line l m)) (placed m.running (without (at l) m.waiting) m)
moved (all_wake l) m = joining (line l m) (placed m.running (those (λ w. not (at l w)) m.waiting) m)
moved (is_born priority handle) m = joining (map (λ p. newborn p priority handle m) m.running) (placed m.running m.waiting m)
moved (ends n) m = spared (family n) (joining m.running (placed [] m.waiting m))

-- who runs on the other processors: as before, but for a kill
abbrev pub others : Move → Machine → List Seat
others none m = m.elsewhere
others steps_back m = m.elsewhere
others (joins l) m = m.elsewhere
others (first_wakes l) m = m.elsewhere
others (all_wake l) m = m.elsewhere
others (is_born priority handle) m = m.elsewhere
others (ends n) m = map (rid_of n) m.elsewhere

-- 02, (xiii): "names it in a new mask"
abbrev pub left : Move → Machine → ℕ
left none m = 0
left steps_back m = 0
left (joins l) m = 0
left (first_wakes l) m = 0
left (all_wake l) m = 0
left (is_born priority handle) m = 0
left (ends n) m = left_idle n m

-- "a 64-bit mask of slots woken"
abbrev pub woken : Move → Machine → List Process
woken none m = []
woken steps_back m = []
woken (joins l) m = []
woken (first_wakes l) m = front (line l m)
woken (all_wake l) m = line l m
woken (is_born priority handle) m = []
woken (ends n) m = []

-- "and one of slots ended"
abbrev pub ended : Move → Machine → List Process
ended none m = []
ended steps_back m = []
ended (joins l) m = []
ended (first_wakes l) m = []
ended (all_wake l) m = []
ended (is_born priority handle) m = []
ended (ends n) m = family_of n m

-- the newborn's slot
abbrev pub newborn_part : Move → Machine → Option ℕ
newborn_part none m = None
newborn_part steps_back m = None
newborn_part (joins l) m = None
newborn_part (first_wakes l) m = None
newborn_part (all_wake l) m = None
newborn_part (is_born priority handle) m = Some (lowest_free m)
newborn_part (ends n) m = None

-- whoever keeps running is told to carry on, or is passed up; else the action is run for the one who is chosen, and no
-- run where nobody is
abbrev pub Acts : Lists → Action → Type 0
Acts l a = first l.on ((keeps_running a ≡ false) × (slot_run a ≡ slots_of (chosen l).on)) λ p. keeps_running a ≡ true

-- from the machine m, its gap charged, by the move v, to the outcome o
pub record Moved (v : Move) (m : Machine) (o : Outcome) : Type 0 where
  pub places : lists_of o.after ≡ chosen (moved v m)
  pub action : Acts (moved v m) o.answer.action
  pub newborn_told : o.answer.newborn ≡ newborn_part v m
  pub woken_mask : o.answer.woken ≡ mask (woken v m)
  pub ended_mask : o.answer.ended ≡ mask (ended v m)
  pub elsewhere : o.after.elsewhere ≡ others v m
  pub idled_mask : o.answer.idled ≡ left v m
