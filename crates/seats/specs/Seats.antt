-- Seats as plain lists. Who runs on a processor is a slot, or none: nobody, or there is no such processor.
use Rattle.std.specs.Prelude.{Option, Some, None, is_some, Bool, false, List, [], ◌∷◌, map, ℕ, zero, suc, ◌<◌, eqb, get_or}
use Rattle.rules.specs.Numbers.{base_slots}
use Rattle.rules.specs.Words.{any}
use Rattle.rules.specs.Machine.{Process, Seat}
use Rattle.lines.specs.Lines.{marked}

-- a list by its entries
abbrev pub table : {A : Type 0} → ℕ → (ℕ → A) → List A
table zero g = []
table (suc n) g = g 0 ∷ table n (λ k. g (suc k))

-- the slot as a list: nobody's, or one
abbrev pub held_slot : Option ℕ → List ℕ
held_slot None = []
held_slot (Some s) = s ∷ []

-- the seat of who runs, a reading and an idle time, where the rows of slots are these
abbrev pub seat : (ℕ → Process) → Option ℕ → ℕ → ℕ → Seat
seat row c l i = record { running = map row (held_slot c); last = l; idle = i }

-- whoever is there is of the slot s
abbrev pub sits_in : ℕ → Option ℕ → Bool
sits_in s None = false
sits_in s (Some r) = eqb r s

-- nobody, or a slot
abbrev pub IsSeat : Option ℕ → Type 0
IsSeat None = Unit {0}
IsSeat (Some s) = s < base_slots

abbrev pub InSeats : List (Option ℕ) → Type 0
InSeats cs = (k : ℕ) → IsSeat (get_or cs k None)

-- somebody is there, and marked
abbrev pub held_by : List Bool → Option ℕ → Bool
held_by ds None = false
held_by ds (Some s) = marked ds s

-- a mark for each processor: whoever runs there is marked
unfoldable pub leaving_of : List Bool → List (Option ℕ) → List Bool
leaving_of ds cs = map (held_by ds) cs

-- somebody runs on some processor
abbrev pub runs_somewhere : List (Option ℕ) → Bool
runs_somewhere cs = any is_some cs
