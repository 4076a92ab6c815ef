-- HOW LONG AN ALARM WAITS (02, (vii)): "over any events: a high process that is ready with k before it in its line has
-- been run, or has ended, by the time 2 × (k + 1) choices have been made; a low one by 5 × (k + 1)"; (xiii): "the
-- bounds in (vii) count choices of all processors together". All of it is read off the events and their answers
-- (History), from any moment on: not only from the one at which the process came into its line.
use Rattle.std.specs.Prelude.{◌≡◌, Bool, true, false, ◌&&◌, ◌||◌, List, [], ◌∷◌, map, ℕ, ◌+◌, ◌-◌, ◌*◌, ◌/◌, ◌<◌, ltb, length, get_or}
use Rattle.rules.specs.declared.Event.{Event}
use Rattle.rules.specs.declared.Arrival.{Arrival}
use Rattle.rules.specs.declared.Answer.{Answer}
use Rattle.rules.specs.Words.{first, among, count, many}
use Rattle.ledger.specs.History.{Past, holder, slot_run, ended_ids, arrived}

-- the ids of those in these slots: of who was last born into each
abbrev pub ids_in : List ℕ → Past → List ℕ
ids_in slots h = map (λ s. holder s h.births) slots

-- who is ready, first come first, by their ids: the high ones, and the low ones
abbrev pub high_line : Past → List ℕ
high_line h = ids_in h.queues.high h

abbrev pub low_line : Past → List ℕ
low_line h = ids_in h.queues.low h

-- "a choice is an answer whose action is run", at whatever processor
abbrev pub is_choice : Answer → Bool
is_choice a = first (slot_run a.action) false (λ s. true)

-- the answer runs x, who is in the slot then; the answer ends x, who was in one of the slots that it ends
abbrev pub run_by : ℕ → Past → Answer → Bool
run_by x h a = among x (ids_in (slot_run a.action) h)

abbrev pub ended_by : ℕ → Past → Event → Answer → Bool
ended_by x h e a = among x (ended_ids h e a)

-- x "has been run, or has ended, by the time n choices have been made", or fewer than n have been made so far: by the
-- events es with the answers rs, after the past h. The choice that runs x is one of the n
abbrev pub in_time : ℕ → ℕ → Past → List Arrival → List Answer → Bool
in_time n x h [] rs = ltb 0 n
in_time n x h (e ∷ es) [] = ltb 0 n
in_time n x h (e ∷ es) (r ∷ rs) =
    ltb 0 n && (run_by x (arrived h e r) r || ended_by x h e.event r || in_time (n - count (is_choice r)) x (arrived h e r) es rs)

-- who stands in the line with k before it; whoever does waits so many choices at most
abbrev pub with_before : ℕ → List ℕ → ℕ
with_before k line = get_or line k 0

abbrev pub AtMost : (ℕ → ℕ) → List ℕ → Past → List Arrival → List Answer → Type 0
AtMost bound line h es rs = (k : ℕ) → k < length line → in_time (bound k) (with_before k line) h es rs ≡ true

-- "a high process .. by the time 2 × (k + 1) choices have been made; a low one by 5 × (k + 1)"
abbrev pub high_bound : ℕ → ℕ
high_bound k = 2 * (k + 1)

abbrev pub low_bound : ℕ → ℕ
low_bound k = 5 * (k + 1)

-- a sharper one for a high process, k + 1 choices of high ones, the last of them its own, and of low ones one before
-- them and one behind every four of the k
abbrev pub sharp_bound : ℕ → ℕ
sharp_bound k = k + 2 + k / 4

-- after the past h, whatever events es come, with the answers rs
pub record Waits (h : Past) (es : List Arrival) (rs : List Answer) : Type 0 where
  pub high : AtMost high_bound (high_line h) h es rs
  pub low : AtMost low_bound (low_line h) h es rs
  pub sharp : AtMost sharp_bound (high_line h) h es rs
  -- "halt and panic end the count": no choice is made after them
  pub count_ends : h.over ≡ true → many is_choice rs ≡ 0
