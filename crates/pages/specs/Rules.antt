-- The pager's rules, sentence by sentence of 02, (iv). The machine is the code's own: tables, rows, hand and open
-- transfer.
use Rattle.std.specs.Prelude.{Option, Some, None, Bool, true, false, ◌&&◌, ◌||◌, List, [], ◌∷◌, map, ℕ, zero, suc, ◌+◌, ◌-◌, ◌*◌, ◌%◌, eqb, leb, get_or, set, replicate, if◌then◌else◌}
use Rattle.rules.specs.Words.{first, count}
use Rattle.pages.specs.declared.Refusal.{Refusal}
use Rattle.pages.specs.declared.Refusal.TheVariants.{NoSuchUproc, OutOfTurn}
use Rattle.pages.specs.declared.Row.{Row}
use Rattle.pages.specs.declared.Cause.{Cause}
use Rattle.pages.specs.declared.Cause.TheVariants.{Load, Store, Modification}
use Rattle.pages.specs.declared.Event.{Event}
use Rattle.pages.specs.declared.Event.TheVariants.{Refill, Fault, Report, End}
use Rattle.pages.specs.declared.Table.{Table}
use Rattle.pages.specs.declared.Transfer.{Transfer}
use Rattle.pages.specs.declared.Transfer.TheVariants.{Closed, Writing, Reading}
use Rattle.pages.specs.declared.Word.{Word}
use Rattle.pages.specs.declared.Word.TheVariants as word
use Rattle.pages.specs.declared.Answer.{Answer}
use Rattle.pages.specs.declared.Pager.{Pager}
use Rattle.pages.specs.declared.Turn.{Turn}
use Rattle.pages.specs.Numbers.{u_procs, width, frames, first_page, last_page, stack_page, stack_entry}

-- ── Page tables: one a U-proc, 32 entries each; 0 is absent, f + 1 is present in frame f ──

abbrev pub blank : Table
blank = record { entries = replicate width 0 }

-- outside the eight there is no table; it is written as code's own copy of an element has it
abbrev pub no_table : Table
no_table = record { entries = [] }

abbrev pub table : List Table → ℕ → Table
table ts u = get_or ts (u - 1) no_table

abbrev pub entry : List Table → ℕ → ℕ → ℕ
entry ts u e = get_or (table ts u).entries e 0

abbrev pub mark : List Table → ℕ → ℕ → ℕ → List Table
mark ts u e v = set ts (u - 1) (record { entries = set (table ts u).entries e v })

-- ── The pool: one row a frame; a row of owner 0 is free ──

abbrev pub free : Row
free = record { owner = 0; page = 0 }

abbrev pub row : List Row → ℕ → Row
row rs f = get_or rs f free

abbrev pub held : ℕ → ℕ → Row
held u e = record { owner = u; page = e }

abbrev pub is_free : Row → Bool
is_free r = eqb r.owner 0

abbrev pub is_of : ℕ → Row → Bool
is_of u r = eqb r.owner u

-- the row of an owner and an entry; a free row is the row of owner 0, whatever its entry says
abbrev pub names : ℕ → ℕ → Row → Bool
names o e r = eqb r.owner o && (eqb o 0 || eqb r.page e)

-- the first frame, counted from k, whose row passes a test
abbrev pub first_frame : (Row → Bool) → ℕ → List Row → Option ℕ
first_frame t k [] = None
first_frame t k (r ∷ rs) = if t r then Some k else first_frame t (suc k) rs

-- "the lowest free frame"
abbrev pub lowest_free : List Row → Option ℕ
lowest_free rs = first_frame is_free 0 rs

-- the mask of the frames that pass a test: bit n for frame n
abbrev pub mask : (Row → Bool) → List Row → ℕ
mask t [] = 0
mask t (r ∷ rs) = count (t r) + 2 * mask t rs

-- "The pool is frames 0 to 15, free at first, the hand at 0."
abbrev pub fresh : Pager
fresh = record { tables = replicate u_procs blank; rows = replicate frames free; hand = 0; transfer = Closed }

-- an entry of the pager is marked
abbrev pub marks : ℕ → ℕ → ℕ → Pager → Pager
marks u e v p = record { tables = mark p.tables u e v; rows = p.rows; hand = p.hand; transfer = p.transfer }

-- ── Answers ──

abbrev pub refusing : Refusal → Pager → Turn
refusing r p = record { answer = record { refusal = Some r; word = word.None }; pager = p }

abbrev pub saying : Word → Pager → Turn
saying w p = record { answer = record { refusal = None; word = w }; pager = p }

-- "is a program trap, changing nothing"; "both end in a program trap": of the U-proc that faulted
abbrev pub trap : ℕ → Pager → Turn
trap u p = saying (word.Trap u) p

-- ── Pages ──

-- "pages 0x80000 to 0x8001E are entries 0 to 30 and 0xBFFFF is entry 31; any other page number .. is a program trap"
unfoldable pub entry_of : ℕ → List ℕ
entry_of n =
    if leb first_page n && leb n last_page then (n - first_page) ∷ [] else
    if eqb n stack_page then stack_entry ∷ [] else []

-- "U-procs 1 to 8, any other number refused with 9"
abbrev pub is_uproc : ℕ → Bool
is_uproc u = leb 1 u && leb u u_procs

-- ── Refill ──

-- "A refill answers the page's entry as it stands."
unfoldable pub refill : ℕ → ℕ → Pager → Turn
refill u n p = first (entry_of n) (trap u p) λ e. saying (word.Entry u e (entry p.tables u e)) p

-- ── Faults ──

-- a read into frame f is asked for: "a new page is marked present after its block is read"
abbrev pub reads : ℕ → ℕ → ℕ → Pager → Turn
reads f u e p = saying (word.Read f u e) (record { tables = p.tables; rows = p.rows; hand = p.hand; transfer = Reading f u e })

-- "the frame at the hand, which then moves on one, around the pool"; "An evicted page is marked absent before its block
-- is written"; "a frame in transfer having a free row"
abbrev pub evicts : ℕ → ℕ → Pager → Turn
evicts u e p =
    let f = p.hand in
    let old = row p.rows f in
    saying (word.Write f old.owner old.page)
    (record { tables = mark p.tables old.owner old.page 0; rows = set p.rows f free; hand = (f + 1) % frames; transfer = Writing f u e old })

-- "Otherwise take the lowest free frame, and if there is none, the frame at the hand" (house rule: a free frame doesn't
-- move the hand)
abbrev pub takes : Option ℕ → ℕ → ℕ → Pager → Turn
takes (Some f) u e p = reads f u e p
takes None u e p = evicts u e p

-- "At a fault, a page already present only refreshes the TLB."
abbrev pub wants : ℕ → ℕ → ℕ → Pager → Turn
wants zero u e p = takes (lowest_free p.rows) u e p
wants (suc f) u e p = saying (word.Refresh u e f) p

-- "any modification exception is a program trap"
abbrev pub by_cause : Cause → Turn → Turn → Turn
by_cause Load traps goes = goes
by_cause Store traps goes = goes
by_cause Modification traps goes = traps

unfoldable pub fault : ℕ → ℕ → Cause → Pager → Turn
fault u n c p = by_cause c (trap u p) (first (entry_of n) (trap u p) λ e. wants (entry p.tables u e) u e p)

-- ── Reports ──

-- page e of u lies in frame f, its row says so, and no transfer is open
abbrev pub seats : ℕ → ℕ → ℕ → Pager → Pager
seats f u e p = record { tables = mark p.tables u e (suc f); rows = set p.rows f (held u e); hand = p.hand; transfer = Closed }

-- "if the read fails, the frame is free": its row is free already
abbrev pub closes : Pager → Pager
closes p = record { tables = p.tables; rows = p.rows; hand = p.hand; transfer = Closed }

-- "If the write fails, the old page is present again"
abbrev pub written : Bool → ℕ → ℕ → ℕ → Row → Pager → Turn
written true f u e old p = reads f u e p
written false f u e old p = trap u (seats f old.owner old.page p)

abbrev pub read : Bool → ℕ → ℕ → ℕ → Pager → Turn
read true f u e p = saying (word.Resume u e f) (seats f u e p)
read false f u e p = trap u (closes p)

-- ── Ends ──

-- a row after the end of a U-proc
abbrev pub freed : ℕ → Row → Row
freed u r = if is_of u r then free else r

-- "Ending a U-proc frees its frames"
unfoldable pub ends : ℕ → Pager → Turn
ends u p =
    saying (word.Freed u (mask (is_of u) p.rows))
    (record { tables = set p.tables (u - 1) blank; rows = map (freed u) p.rows; hand = p.hand; transfer = p.transfer })

-- ── One event ──

-- "While a transfer is open all but its report is refused with 11 and changes nothing, a report with none open
-- likewise."
abbrev pub closed : Transfer → Pager → Turn → Turn
closed Closed p t = t
closed (Writing f u e old) p t = refusing OutOfTurn p
closed (Reading f u e) p t = refusing OutOfTurn p

abbrev pub report : Transfer → Bool → Pager → Turn
report Closed ok p = refusing OutOfTurn p
report (Writing f u e old) ok p = written ok f u e old p
report (Reading f u e) ok p = read ok f u e p

-- 9 before 11 before a program trap
abbrev pub of_uproc : ℕ → Pager → Turn → Turn
of_uproc u p t = if is_uproc u then closed p.transfer p t else refusing NoSuchUproc p

unfoldable pub step : Event → Pager → Turn
step (Refill u n) p = of_uproc u p (refill u n p)
step (Fault u n c) p = of_uproc u p (fault u n c p)
step (Report ok) p = report p.transfer ok p
step (End u) p = of_uproc u p (ends u p)

-- a list of events, and the answers to each
abbrev pub run : List Event → Pager → Pager
run [] p = p
run (e ∷ es) p = run es (step e p).pager

unfoldable pub answers : List Event → Pager → List Answer
answers [] p = []
answers (e ∷ es) p = (step e p).answer ∷ answers es (step e p).pager
