-- What an event comes to, one row for each way through the rules: the case analysis that every law of one event goes
-- by.
use mathlib.Core.Bool.{Bool, true, false, ◌&&◌}
use mathlib.Core.Path.{◌≡◌, refl}
use mathlib.Core.List.{List}
use Prim.Native.Nat.{ℕ, zero, suc, ◌-◌, ◌≤◌, ◌<◌}
use native.Mathlib.Omega.{arith}
use lib.Dec.{eqb, leb}
use borrow.Author.Tests.{leb-true}
use Rattle.rules.specs.Words.{first}
use Rattle.rules.proofs.Cases.{if_cases, and_left, and_right}
use Rattle.pages.specs.declared.Refusal.TheVariants.{NoSuchUproc, OutOfTurn}
use Rattle.pages.specs.declared.Row.{Row}
use Rattle.std.specs.Prelude.{Option, Some, None}
use Rattle.pages.specs.declared.Cause.{Cause}
use Rattle.pages.specs.declared.Cause.TheVariants.{Load, Store, Modification}
use Rattle.pages.specs.declared.Event.{Event}
use Rattle.pages.specs.declared.Event.TheVariants.{Refill, Fault, Report, End}
use Rattle.pages.specs.declared.Transfer.{Transfer}
use Rattle.pages.specs.declared.Transfer.TheVariants.{Closed, Writing, Reading}
use Rattle.pages.specs.declared.Word.TheVariants as word
use Rattle.pages.specs.declared.Pager.{Pager}
use Rattle.pages.specs.declared.Turn.{Turn}
use Rattle.pages.specs.Numbers.{u_procs, width, first_page, last_page, stack_page, stack_entry}
use Rattle.pages.specs.Rules.{entry, lowest_free, entry_of, is_uproc, refusing, saying, trap, refill, reads, evicts, takes, wants, fault, written, read, ends, closed, report, of_uproc, step}
use Rattle.pages.specs.Ruled.{Page}

-- the entry of a page number is within the table
pub page_cases {κ} : {A : Type 0} (Q : A → Type κ) (n : ℕ) {none : A} {some : ℕ → A} → Q none → ((e : ℕ) → e < width → Q (some e)) → Q (first (entry_of n) none some)
unfolding entry_of
page_cases Q n {none} {some} other known =
    if_cases (λ (es : List ℕ). Q (first es none some)) (leb first_page n && leb n last_page)
    (λ t. let a = leb-true first_page n (and_left (leb first_page n) (leb n last_page) t) in let b = leb-true n last_page (and_right (leb first_page n) (leb n last_page) t) in known (n - first_page) (omega arith))
    (λ f. if_cases (λ (es : List ℕ). Q (first es none some)) (eqb n stack_page) (λ t. known stack_entry (omega arith)) (λ f. other))

-- an event that asks for a page
abbrev pub is_access : Event → Bool
is_access (Refill u n) = true
is_access (Fault u n c) = true
is_access (Report ok) = false
is_access (End u) = false

pub data Happens (p : Pager) : Event → Turn → Type 0 where
  no_uproc : (v : Event) → Happens p v (refusing NoSuchUproc p)
  no_turn : (v : Event) → Happens p v (refusing OutOfTurn p)
  tells : (v : Event) (u e x : ℕ) → is_access v ≡ true → p.transfer ≡ Closed → Happens p v (saying (word.Entry u e x) p)
  refreshes : (v : Event) (u e f : ℕ) → is_access v ≡ true → p.transfer ≡ Closed → Happens p v (saying (word.Refresh u e f) p)
  traps : (v : Event) (u : ℕ) → is_access v ≡ true → p.transfer ≡ Closed → Happens p v (trap u p)
  takes_free : (v : Event) (f u e : ℕ) → is_access v ≡ true → p.transfer ≡ Closed → Page u e → entry p.tables u e ≡ 0 → lowest_free p.rows ≡ Some f → Happens p v (reads f u e p)
  takes_hand : (v : Event) (u e : ℕ) → is_access v ≡ true → p.transfer ≡ Closed → Page u e → entry p.tables u e ≡ 0 → lowest_free p.rows ≡ None → Happens p v (evicts u e p)
  write_done : (f u e : ℕ) (old : Row) → p.transfer ≡ Writing f u e old → Happens p (Report true) (written true f u e old p)
  write_fails : (f u e : ℕ) (old : Row) → p.transfer ≡ Writing f u e old → Happens p (Report false) (written false f u e old p)
  read_done : (f u e : ℕ) → p.transfer ≡ Reading f u e → Happens p (Report true) (read true f u e p)
  read_fails : (f u e : ℕ) → p.transfer ≡ Reading f u e → Happens p (Report false) (read false f u e p)
  ending : (u : ℕ) → p.transfer ≡ Closed → 1 ≤ u → u ≤ u_procs → Happens p (End u) (ends u p)

module _ (p : Pager) where
  -- a page that is wanted
  by_frame : (v : Event) → is_access v ≡ true → (found : Option ℕ) → lowest_free p.rows ≡ found → (u e : ℕ) → p.transfer ≡ Closed → Page u e → entry p.tables u e ≡ 0 → Happens p v (takes found u e p)
  by_frame v i (Some f) q u e c page away = takes_free v f u e i c page away q
  by_frame v i None q u e c page away = takes_hand v u e i c page away q

  by_entry : (v : Event) → is_access v ≡ true → (x u e : ℕ) → entry p.tables u e ≡ x → p.transfer ≡ Closed → Page u e → Happens p v (wants x u e p)
  by_entry v i zero u e q c page = by_frame v i (lowest_free p.rows) refl u e c page q
  by_entry v i (suc f) u e q c page = refreshes v u e f i c

  faults : (v : Event) → is_access v ≡ true → (u n : ℕ) (c : Cause) → p.transfer ≡ Closed → 1 ≤ u → u ≤ u_procs → Happens p v (fault u n c p)
  unfolding fault
  faults v i u n Load q a b = page_cases (Happens p v) n (traps v u i q) (λ e h. by_entry v i (entry p.tables u e) u e refl q (record { from = a; upto = b; entries = h }))
  faults v i u n Store q a b = page_cases (Happens p v) n (traps v u i q) (λ e h. by_entry v i (entry p.tables u e) u e refl q (record { from = a; upto = b; entries = h }))
  faults v i u n Modification q a b = traps v u i q

  refills : (v : Event) → is_access v ≡ true → (u n : ℕ) → p.transfer ≡ Closed → Happens p v (refill u n p)
  unfolding refill
  refills v i u n q = page_cases (Happens p v) n (traps v u i q) (λ e h. tells v u e (entry p.tables u e) i q)

  reports : (t : Transfer) → p.transfer ≡ t → (ok : Bool) → Happens p (Report ok) (report t ok p)
  reports Closed q ok = no_turn (Report ok)
  reports (Writing f u e old) q true = write_done f u e old q
  reports (Writing f u e old) q false = write_fails f u e old q
  reports (Reading f u e) q true = read_done f u e q
  reports (Reading f u e) q false = read_fails f u e q

  -- 9, then 11, then what the event asks
  by_transfer : (v : Event) (t : Transfer) → p.transfer ≡ t → (x : Turn) → (p.transfer ≡ Closed → Happens p v x) → Happens p v (closed t p x)
  by_transfer v Closed q x h = h q
  by_transfer v (Writing f u e old) q x h = no_turn v
  by_transfer v (Reading f u e) q x h = no_turn v

  by_uproc : (v : Event) (u : ℕ) (x : Turn) → (1 ≤ u → u ≤ u_procs → p.transfer ≡ Closed → Happens p v x) → Happens p v (of_uproc u p x)
  by_uproc v u x h =
      if_cases (Happens p v) (is_uproc u)
      (λ t. by_transfer v p.transfer refl x (h (leb-true 1 u (and_left (leb 1 u) (leb u u_procs) t)) (leb-true u u_procs (and_right (leb 1 u) (leb u u_procs) t))))
      (λ _. no_uproc v)

  pub happens : (v : Event) → Happens p v (step v p)
  unfolding step
  happens (Refill u n) = by_uproc (Refill u n) u (refill u n p) (λ a b q. refills (Refill u n) refl u n q)
  happens (Fault u n c) = by_uproc (Fault u n c) u (fault u n c p) (λ a b q. faults (Fault u n c) refl u n c q a b)
  happens (Report ok) = reports p.transfer refl ok
  happens (End u) = by_uproc (End u) u (ends u p) (λ a b q. ending u q a b)
