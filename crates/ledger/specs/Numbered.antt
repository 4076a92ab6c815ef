-- THE NUMBERS A SECOND TIME, as plain tables: which lines and codes are taken, which sub-device a line serves, which
-- lines are the nucleus's. They are written from document 01 and not from the rule book; proofs/Numbered says that the
-- two are the same.
use Rattle.std.specs.Prelude.{Bool, true, false, not, List, [], ◌∷◌, ◌++◌, ℕ, ◌-◌, eqb, leb, get_or, if◌then◌else◌}
use Rattle.rules.specs.declared.Event.{Event}
use Rattle.rules.specs.declared.Event.TheVariants.{Call, Interrupt, Exception}
use Rattle.rules.specs.declared.Line.{Line}
use Rattle.rules.specs.declared.Line.TheVariants.{Semaphore, Device, PseudoClock}
use Rattle.rules.specs.Words.{first, among}
use Rattle.ledger.specs.History.{slots_in}

-- ── Codes ──

-- "0-7, 9, 10 and 12-23 are program traps, 24-28 TLB exceptions"
abbrev pub trap_codes : List ℕ
trap_codes = 0 ∷ 1 ∷ 2 ∷ 3 ∷ 4 ∷ 5 ∷ 6 ∷ 7 ∷ 9 ∷ 10 ∷ 12 ∷ 13 ∷ 14 ∷ 15 ∷ 16 ∷ 17 ∷ 18 ∷ 19 ∷ 20 ∷ 21 ∷ 22 ∷ 23 ∷ []

abbrev pub tlb_codes : List ℕ
tlb_codes = 24 ∷ 25 ∷ 26 ∷ 27 ∷ 28 ∷ []

-- an exception of any other code is refused
abbrev pub code_refused : Event → Bool
code_refused (Call now mode a0 a1 a2 a3) = false
code_refused (Interrupt now n x y) = false
code_refused (Exception now code) = not (among code (trap_codes ++ tlb_codes))

-- ── Lines ──

-- the lines taken, by whether the first byte is zero and whether the second is: "line not 1 to 7; or line 3 to 6 with
-- first byte zero; or line 7 with both zero" is refused
abbrev pub lines_taken : Bool → Bool → List ℕ
lines_taken true true = 1 ∷ 2 ∷ []
lines_taken true false = 1 ∷ 2 ∷ 7 ∷ []
lines_taken false b = 1 ∷ 2 ∷ 3 ∷ 4 ∷ 5 ∷ 6 ∷ 7 ∷ []

abbrev pub line_refused : Event → Bool
line_refused (Call now mode a0 a1 a2 a3) = false
line_refused (Interrupt now n x y) = not (among n (lines_taken (eqb x 0) (eqb y 0)))
line_refused (Exception now code) = false

-- ── Sub-devices ──

-- of lines 3, 4, 5 and 6, by device number; of line 7, transmission and receipt
abbrev pub disk_numbers : List (List ℕ)
disk_numbers =
    (0 ∷ 1 ∷ 2 ∷ 3 ∷ 4 ∷ 5 ∷ 6 ∷ 7 ∷ [])
    ∷ (8 ∷ 9 ∷ 10 ∷ 11 ∷ 12 ∷ 13 ∷ 14 ∷ 15 ∷ [])
    ∷ (16 ∷ 17 ∷ 18 ∷ 19 ∷ 20 ∷ 21 ∷ 22 ∷ 23 ∷ [])
    ∷ (24 ∷ 25 ∷ 26 ∷ 27 ∷ 28 ∷ 29 ∷ 30 ∷ 31 ∷ [])
    ∷ []

abbrev pub transmission_numbers : List ℕ
transmission_numbers = 32 ∷ 33 ∷ 34 ∷ 35 ∷ 36 ∷ 37 ∷ 38 ∷ 39 ∷ []

abbrev pub receipt_numbers : List ℕ
receipt_numbers = 40 ∷ 41 ∷ 42 ∷ 43 ∷ 44 ∷ 45 ∷ 46 ∷ 47 ∷ []

-- "the lowest pending device number": the lowest bit of the byte that is set; 8 where none is
abbrev pub pending : ℕ → ℕ
pending b = first (slots_in 8 b) 8 (λ d. d)

-- "on line 7 transmission before receipt of that device"
abbrev pub serves : ℕ → ℕ → ℕ → ℕ
serves n x y =
    if eqb n 7
    then (if leb (pending x) (pending y) then get_or transmission_numbers (pending x) 0 else get_or receipt_numbers (pending y) 0)
    else get_or (get_or disk_numbers (n - 3) []) (pending x) 0

-- ── Nucleus lines ──

-- "49 nucleus waiting lines: 48 sub-devices and the pseudo-clock"
abbrev pub all_sub_devices : List ℕ
all_sub_devices =
    get_or disk_numbers 0 [] ++ get_or disk_numbers 1 [] ++ get_or disk_numbers 2 [] ++ get_or disk_numbers 3 []
    ++ transmission_numbers ++ receipt_numbers

abbrev pub nucleus_line : Line → Bool
nucleus_line (Semaphore i) = false
nucleus_line (Device d) = among d all_sub_devices
nucleus_line PseudoClock = true
