-- The numbers of 02, (iv), each said here and nowhere else.
use Rattle.std.specs.Prelude.{ℕ, Option, Some, None}
use Rattle.pages.specs.declared.Refusal.{Refusal}
use Rattle.pages.specs.declared.Refusal.TheVariants.{NoSuchUproc, OutOfTurn, AtOdds}

-- "U-procs 1 to 8"
abbrev pub u_procs : ℕ
u_procs = 8

-- a page table: source document 000, 2.1, "an array of 32 TLB entries"
abbrev pub width : ℕ
width = 32

-- "The pool is frames 0 to 15"
abbrev pub frames : ℕ
frames = 16

-- "pages 0x80000 to 0x8001E are entries 0 to 30"
abbrev pub first_page : ℕ
first_page = 524288

abbrev pub last_page : ℕ
last_page = 524318

-- "and 0xBFFFF is entry 31"
abbrev pub stack_page : ℕ
stack_page = 786431

abbrev pub stack_entry : ℕ
stack_entry = 31

-- ── Refusals ──

-- "any other number refused with 9"; "While a transfer is open all but its report is refused with 11 .., a report with
-- none open likewise."; "a lent table not sixteen rows long or at odds with the page tables is refused with 12"
abbrev pub refusal_number : Refusal → ℕ
refusal_number NoSuchUproc = 9
refusal_number OutOfTurn = 11
refusal_number AtOdds = 12

-- as an answer tells it: 0 where nothing is refused
abbrev pub told_number : Option Refusal → ℕ
told_number None = 0
told_number (Some r) = refusal_number r
