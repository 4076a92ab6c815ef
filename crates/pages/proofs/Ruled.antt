-- A fresh pager obeys the rule, and every event keeps it.
use Rattle.std.specs.Prelude.{Some, None, if◌then◌else◌}
use mathlib.Core.Bool.{Bool, true, false}
use mathlib.Core.Path.{◌≡◌, refl, sym, ◌∙◌, ap, subst}
use mathlib.Core.Logic.{◌⊎◌, inl, inr}
use mathlib.Core.List.{List, [], ◌∷◌}
use Prim.Native.Nat.{ℕ, zero, suc, ◌+◌, ◌-◌, ◌≤◌, ◌<◌}
use native.Mathlib.Omega.{arith}
use native.Mathlib.Nat.{mod-lt}
use lib.Dec.{T, eqb, eqb→eq}
use lib.ListN.{length, get_or, get_or-replicate}
use lib.Seq.{get_or-set_same}
use borrow.Author.Tests.{eq-eqb}
use Rattle.pages.specs.declared.Row.{Row}
use Rattle.pages.specs.declared.Event.{Event}
use Rattle.pages.specs.declared.Table.{Table}
use Rattle.pages.specs.declared.Transfer.TheVariants.{Closed}
use Rattle.pages.specs.declared.Pager.{Pager}
use Rattle.pages.specs.declared.Turn.{Turn}
use Rattle.pages.specs.Numbers.{u_procs, width, frames}
use Rattle.pages.specs.Rules.{free, blank, no_table, table, entry, mark, row, is_free, first_frame, lowest_free, fresh, reads, evicts, closes, seats, ends, step, run}
use Rattle.pages.specs.Ruled.{Page, Seated, Matches, Waits, Ruled}
use Rattle.pages.proofs.Matches.{zero_suc, zero_one, mark_same, mark_at, seat, unseat, ended}
use Rattle.pages.proofs.Happens.{Happens, no_uproc, no_turn, tells, refreshes, traps, takes_free, takes_hand, write_done, write_fails, read_done, read_fails, ending, happens}

-- ---- a fresh pager
fresh_table : (u : ℕ) → 1 ≤ u → u ≤ u_procs → table fresh.tables u ≡ blank
fresh_table u a b = get_or-replicate u_procs (u - 1) blank no_table (omega arith)

fresh_row : (f : ℕ) → f < frames → row fresh.rows f ≡ free
fresh_row f h = get_or-replicate frames f free free h

pub fresh_ruled : Ruled fresh
fresh_ruled = record {
  matches = record {
    eight = refl;
    wide = λ u a b. ap (λ (t : Table). length t.entries) (fresh_table u a b);
    sixteen = refl;
    named = λ f h own. absurd (zero_one (subst (λ (r : Row). 1 ≤ r.owner) (fresh_row f h) own));
    present = λ u e f p q. absurd (zero_suc (sym (ap (λ (t : Table). get_or t.entries e 0) (fresh_table u p.from p.upto) ∙ get_or-replicate width e 0 0 p.entries) ∙ q));
  };
  hand = omega arith;
  opened = tt;
}

-- ---- the lowest free frame
pub found_free : (rs : List Row) (k f : ℕ) → first_frame is_free k rs ≡ Some f → (k ≤ f) × (f - k < length rs) × ((row rs (f - k)).owner ≡ 0)
found_free [] k f e = let z : ◌≡◌ {A = ℕ} 0 1 = cc in absurd (omega arith)
found_free (r ∷ rs) k f e = go (is_free r) refl (found_free rs (suc k) f) e
  where
    go : (b : Bool) → is_free r ≡ b → (first_frame is_free (suc k) rs ≡ Some f → (suc k ≤ f) × (f - suc k < length rs) × ((row rs (f - suc k)).owner ≡ 0)) → (if b then Some k else first_frame is_free (suc k) rs) ≡ Some f
        → (k ≤ f) × (f - k < length (r ∷ rs)) × ((row (r ∷ rs) (f - k)).owner ≡ 0)
    go true q h e = let z : k ≡ f = cc in let y : f - k ≡ 0 = omega arith in (omega arith, omega arith, rw y (eqb→eq r.owner 0 (subst T (sym q) tt)))
    go false q h e = let i = h e in let y : f - k ≡ suc (f - suc k) = let a = i.0 in omega arith in (let a = i.0 in omega arith, let a = i.1 in omega arith, rw y i.2)

pub owned : (n : ℕ) → eqb n 0 ≡ false → 1 ≤ n
owned zero q = absurd (subst T (sym (eq-eqb 0 0 refl) ∙ q) tt)
owned (suc n) q = omega arith

pub none_free : (rs : List Row) (k : ℕ) → first_frame is_free k rs ≡ None → (i : ℕ) → i < length rs → 1 ≤ (row rs i).owner
none_free [] k e i h = absurd (omega arith)
none_free (r ∷ rs) k e i h = go (is_free r) refl (none_free rs (suc k)) e i h
  where
    go : (b : Bool) → is_free r ≡ b → (first_frame is_free (suc k) rs ≡ None → (i : ℕ) → i < length rs → 1 ≤ (row rs i).owner) → (if b then Some k else first_frame is_free (suc k) rs) ≡ None → (i : ℕ) → i < length (r ∷ rs) → 1 ≤ (row (r ∷ rs) i).owner
    go true q h e i l = let z : ◌≡◌ {A = ℕ} 0 1 = cc in absurd (omega arith)
    go false q h e zero l = owned r.owner q
    go false q h e (suc i) l = h e i (omega arith)

-- a free frame is in the pool
pub free_within : (p : Pager) → Ruled p → (f : ℕ) → lowest_free p.rows ≡ Some f → f < frames
free_within p r f q = let k = found_free p.rows 0 f q in let a = k.1 in let l = r.matches.sixteen in omega arith

-- with no free frame, the row at the hand is that of a page
pub at_hand : (p : Pager) → Ruled p → lowest_free p.rows ≡ None → Seated p.tables p.hand (row p.rows p.hand)
at_hand p r full = r.matches.named p.hand r.hand (none_free p.rows 0 full p.hand (rw r.matches.sixteen r.hand))

-- ---- each event
module _ (p : Pager) (r : Ruled p) where
  -- a frame whose row is free, for a page that is absent
  reads_ruled : (f u e : ℕ) → Waits p.tables p.rows f u e → Ruled (reads f u e p).pager
  reads_ruled f u e w = record { matches = r.matches; hand = r.hand; opened = w }

  closes_ruled : Ruled (closes p)
  closes_ruled = record { matches = r.matches; hand = r.hand; opened = tt }

  seats_ruled : (f u e : ℕ) → Waits p.tables p.rows f u e → Ruled (seats f u e p)
  seats_ruled f u e w = record { matches = seat r.matches f u e w.frame w.page w.empty w.absent; hand = r.hand; opened = tt }

  evicts_ruled : (u e : ℕ) → Page u e → entry p.tables u e ≡ 0 → lowest_free p.rows ≡ None → Ruled (evicts u e p).pager
  evicts_ruled u e page absent full = record {
    matches = unseat m f old.owner old.page r.hand s.page refl;
    hand = mod-lt (f + 1) (omega arith);
    opened = (
      record { frame = r.hand; empty = ap (λ (x : Row). x.owner) (get_or-set_same p.rows f free free (rw m.sixteen r.hand)); page = page; absent = still (mark_at p.tables m.eight old.owner old.page 0 s.page wide u e page.from) },
      record { page = s.page; absent = gone },
    );
  }
    where
      m : Matches p.tables p.rows
      m = r.matches

      f : ℕ
      f = p.hand

      old : Row
      old = row p.rows f

      s : Seated p.tables f old
      s = at_hand p r full

      wide : length (table p.tables old.owner).entries ≡ width
      wide = m.wide old.owner s.page.from s.page.upto

      gone : entry (mark p.tables old.owner old.page 0) old.owner old.page ≡ 0
      gone = mark_same p.tables m.eight old.owner old.page 0 s.page wide

      still : ((u ≡ old.owner) × (e ≡ old.page)) ⊎ (((u ≡ old.owner) → (e ≡ old.page) → ⊥) × (entry (mark p.tables old.owner old.page 0) u e ≡ entry p.tables u e)) → entry (mark p.tables old.owner old.page 0) u e ≡ 0
      still (inl z) = rw (z.0, z.1) gone
      still (inr z) = z.1 ∙ absent

  ends_ruled : (u : ℕ) → 1 ≤ u → u ≤ u_procs → p.transfer ≡ Closed → Ruled (ends u p).pager
  unfolding ends
  ends_ruled u a b q = record { matches = ended r.matches u a b; hand = r.hand; opened = rw q tt }

  comes : {v : Event} {t : Turn} → Happens p v t → Ruled t.pager
  comes (no_uproc v) = r
  comes (no_turn v) = r
  comes (tells v u e x i q) = r
  comes (refreshes v u e f i q) = r
  comes (traps v u i q) = r
  comes (takes_free v f u e i q page absent found) =
      let k = found_free p.rows 0 f found in
      let y : f - 0 ≡ f = omega arith in
      reads_ruled f u e (record { frame = let a = k.1 in let l = r.matches.sixteen in omega arith; empty = rw y at k.2; page = page; absent = absent })
  comes (takes_hand v u e i q page absent full) = evicts_ruled u e page absent full
  comes (write_done f u e old q) = let o = rw q at r.opened in reads_ruled f u e o.0
  comes (write_fails f u e old q) =
      let o = rw q at r.opened in seats_ruled f old.owner old.page (record { frame = o.0.frame; empty = o.0.empty; page = o.1.page; absent = o.1.absent })
  comes (read_done f u e q) = seats_ruled f u e (rw q at r.opened)
  comes (read_fails f u e q) = closes_ruled
  comes (ending u q a b) = ends_ruled u a b q

  -- every event keeps the rule
  pub keeps : (v : Event) → Ruled (step v p).pager
  keeps v = comes (happens p v)

-- any events from a fresh pager
pub keeps_all : (vs : List Event) (p : Pager) → Ruled p → Ruled (run vs p)
keeps_all [] p r = r
keeps_all (v ∷ vs) p r = keeps_all vs (step v p).pager (keeps p r v)

pub always : (vs : List Event) → Ruled (run vs fresh)
always vs = keeps_all vs fresh fresh_ruled
