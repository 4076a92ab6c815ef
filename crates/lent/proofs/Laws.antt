-- The verdict as code finds it; the sheet and the lent rows; the plain form's answers and rows.
use Rattle.std.specs.Prelude.{Option, Some, None, if◌then◌else◌}
use mathlib.Core.Bool.{Bool, true, false, ◌&&◌}
use mathlib.Core.Path.{◌≡◌, refl, sym, ◌∙◌, ap, subst}
use mathlib.Core.Logic.{◌≢◌, ◌⊎◌, inl, inr}
use mathlib.Core.List.{List}
use Prim.Native.Nat.{ℕ}
use lib.Dec.{eqb}
use lib.ListN.{length}
use borrow.Author.Tests.{eq-eqb, ne_eqb, eqb-true}
use Rattle.pages.specs.declared.Refusal.{Refusal}
use Rattle.pages.specs.declared.Refusal.TheVariants.{NoSuchUproc, AtOdds}
use Rattle.pages.specs.declared.Row.{Row}
use Rattle.pages.specs.declared.Event.{Event}
use Rattle.pages.specs.declared.Table.{Table}
use Rattle.pages.specs.declared.Transfer.{Transfer}
use Rattle.pages.specs.declared.Transfer.TheVariants.{Closed, Writing, Reading}
use Rattle.pages.specs.declared.Pager.{Pager}
use Rattle.pages.specs.Numbers.{frames}
use Rattle.pages.specs.Rules as rules
use Rattle.pages.specs.Rules.{row, is_uproc, of_uproc, step, answers, run}
use Rattle.pages.specs.Ruled.{Open, Ruled}
use Rattle.pages.proofs.Ruled.{fresh_ruled, keeps}
use Rattle.pages.proofs.Matches.{decide}
use Rattle.paging.proofs.Refusals.{never}
use Rattle.swap.specs.declared.Sheet.{Sheet}
use Rattle.swap.specs.Sheets.{fill, sheet_of, over}
use Rattle.swap.proofs.Rows.{over_same, over_read, over_long, fill_same}
use Rattle.odds.specs.Odds.{agrees, transfer_agrees}
use Rattle.odds.proofs.Agrees.{matched, agreed, transfer_passes, moving_free, free_moving}
use Rattle.lent.specs.declared.Keeper.{Keeper}
use Rattle.lent.specs.declared.Decided.{Decided}
use Rattle.lent.specs.Lent.{joined, without_rows, fresh, refusing, after, no_uproc, verdict_of, Lent, lent, decided, Waiting, Keeping}

-- ── The verdict ──

-- there is none, or one
pub verdicts : (o : Option Refusal) → (o ≡ None) ⊎ ((r : Refusal) × (o ≡ Some r))
verdicts None = inl refl
verdicts (Some r) = inr (r, refl)

module _ (v : Event) (k : Keeper) (n : ℕ) (rs : List Row) where
  pub verdict_9 : no_uproc v ≡ true → Some NoSuchUproc ≡ verdict_of v k n rs
  verdict_9 e = rw e refl

  pub verdict_long : no_uproc v ≡ false → n ≢ frames → Some AtOdds ≡ verdict_of v k n rs
  verdict_long e ne = rw (e, ne_eqb n frames ne) refl

  pub verdict_agrees : no_uproc v ≡ false → n ≡ frames → agrees k.tables rs k.transfer ≡ true → None ≡ verdict_of v k n rs
  verdict_agrees e l a = rw (e, eq-eqb n frames l, a) refl

  pub verdict_odds : no_uproc v ≡ false → n ≡ frames → agrees k.tables rs k.transfer ≡ false → Some AtOdds ≡ verdict_of v k n rs
  verdict_odds e l a = rw (e, eq-eqb n frames l, a) refl

  -- where there is none
  pub passed : verdict_of v k n rs ≡ None → (n ≡ frames) × (agrees k.tables rs k.transfer ≡ true)
  passed = go (no_uproc v) (eqb n frames) (agrees k.tables rs k.transfer) refl refl
    where
      go : (a b c : Bool) → eqb n frames ≡ b → agrees k.tables rs k.transfer ≡ c → (if a then Some NoSuchUproc else (if b && c then None else Some AtOdds)) ≡ None → (n ≡ frames) × (agrees k.tables rs k.transfer ≡ true)
      go true b c p q e = absurd (never e)
      go false true true p q e = (eqb-true n frames p, q)
      go false true false p q e = absurd (never e)
      go false false c p q e = absurd (never e)

-- ── The rule of what is kept ──

opens : (ts : List Table) (rs : List Row) (t : Transfer) → Waiting ts t → transfer_agrees rs t ≡ true → Open ts rs t
opens ts rs Closed w e = tt
opens ts rs (Writing f u g old) w e = (record { frame = w.0.frame; empty = moving_free rs f e; page = w.0.page; absent = w.0.absent }, w.1)
opens ts rs (Reading f u g) w e = record { frame = w.frame; empty = moving_free rs f e; page = w.page; absent = w.absent }

pub ruled : (k : Keeper) (rs : List Row) → Keeping k → length rs ≡ frames → agrees k.tables rs k.transfer ≡ true → Ruled (joined k rs)
ruled k rs h l e = record {
  matches = matched k.tables rs k.transfer h.eight h.wide l e;
  hand = h.hand;
  opened = opens k.tables rs k.transfer h.waiting (transfer_passes k.tables rs k.transfer e);
}

waits : (ts : List Table) (rs : List Row) (t : Transfer) → Open ts rs t → Waiting ts t × (transfer_agrees rs t ≡ true)
waits ts rs Closed o = (tt, refl)
waits ts rs (Writing f u g old) o = ((record { frame = o.0.frame; page = o.0.page; absent = o.0.absent }, o.1), free_moving rs f o.0.empty)
waits ts rs (Reading f u g) o = (record { frame = o.frame; page = o.page; absent = o.absent }, free_moving rs f o.empty)

-- what the plain pager's rule says, without the rows and of the rows
pub keeping : (p : Pager) → Ruled p → Keeping (without_rows p)
keeping p r = record { eight = r.matches.eight; wide = r.matches.wide; hand = r.hand; waiting = (waits p.tables p.rows p.transfer r.opened).0 }

pub agreeing : (p : Pager) → Ruled p → agrees p.tables p.rows p.transfer ≡ true
agreeing p r = agreed p.tables p.rows p.transfer r.matches (waits p.tables p.rows p.transfer r.opened).1

pub fresh_keeping : Keeping fresh
fresh_keeping = keeping rules.fresh fresh_ruled

-- ── The sheet ──

module _ (v : Event) (k : Keeper) (s : Sheet) where
  pub stops : (r : Refusal) → Some r ≡ verdict_of v k s.count s.rows → record { turn = refusing r k; sheet = s } ≡ decided v k s
  unfolding decided
  stops r q = rw (sym q) refl

  pub goes_on : None ≡ verdict_of v k s.count s.rows → let t = step v (joined k s.rows) in record { turn = after t; sheet = record { rows = t.pager.rows; count = s.count } } ≡ decided v k s
  unfolding decided
  goes_on q = rw (sym q) refl

  pub sheet_ruled : Keeping k → length s.rows ≡ frames → None ≡ verdict_of v k s.count s.rows → Ruled (joined k s.rows)
  sheet_ruled h l q = ruled k s.rows h l (passed v k s.count s.rows (sym q)).1

-- the two ways of the lent rows
module _ (v : Event) (k : Keeper) (ys : List Row) where
  pub rows_go : verdict_of v k (length ys) ys ≡ None → lent v k ys ≡ record { turn = after (step v (joined k ys)); rows = (step v (joined k ys)).pager.rows }
  unfolding lent
  rows_go z = rw z refl

  pub rows_stop : (r : Refusal) → verdict_of v k (length ys) ys ≡ Some r → lent v k ys ≡ record { turn = refusing r k; rows = ys }
  unfolding lent
  rows_stop r q = rw q refl

-- what a sheet of the lent rows comes to is what the lent rows come to
module _ (v : Event) (k : Keeper) (h : Keeping k) (ys : List Row) where
  abbrev whole : Sheet
  whole = record { rows = ys; count = length ys }

  abbrev n : Option Refusal
  n = verdict_of v k (length ys) ys

  same_sheet : length ys ≡ frames → sheet_of ys ≡ whole
  same_sheet l = let z : fill frames ys ≡ ys = ap (λ (m : ℕ). fill m ys) (sym l) ∙ fill_same ys in rw z refl

  -- rows of another length are refused, whatever they hold
  alike : length ys ≢ frames → verdict_of v k (length ys) (fill frames ys) ≡ n
  alike ne = rw (ne_eqb (length ys) frames ne) refl

  unpassed : length ys ≢ frames → n ≡ None → ⊥
  unpassed ne z = ne (passed v k (length ys) ys z).0

  off : length ys ≢ frames → (r : Refusal) → n ≡ Some r → decided v k (sheet_of ys) ≡ record { turn = refusing r k; sheet = sheet_of ys }
  off ne r q = sym (stops v k (sheet_of ys) r (sym (alike ne ∙ q)))

  pub lent_turn : (decided v k (sheet_of ys)).turn ≡ (lent v k ys).turn
  lent_turn = go (decide (length ys) frames) (verdicts n)
    where
      go : (length ys ≡ frames) ⊎ (length ys ≢ frames) → (n ≡ None) ⊎ ((r : Refusal) × (n ≡ Some r)) → (decided v k (sheet_of ys)).turn ≡ (lent v k ys).turn
      go (inl l) (inl z) = rw (same_sheet l) (ap (λ (d : Decided). d.turn) (sym (goes_on v k whole (sym z))) ∙ sym (ap (λ (d : Lent). d.turn) (rows_go v k ys z)))
      go (inl l) (inr (r, q)) = rw (same_sheet l) (ap (λ (d : Decided). d.turn) (sym (stops v k whole r (sym q))) ∙ sym (ap (λ (d : Lent). d.turn) (rows_stop v k ys r q)))
      go (inr ne) (inl z) = absurd (unpassed ne z)
      go (inr ne) (inr (r, q)) = ap (λ (d : Decided). d.turn) (off ne r q) ∙ sym (ap (λ (d : Lent). d.turn) (rows_stop v k ys r q))

  pub lent_rows : over ys (decided v k (sheet_of ys)).sheet.rows ≡ (lent v k ys).rows
  lent_rows = go (decide (length ys) frames) (verdicts n)
    where
      long : length ys ≡ frames → n ≡ None → length (step v (joined k ys)).pager.rows ≡ frames
      long l z = (keeps (joined k ys) (ruled k ys h l (passed v k (length ys) ys z).1) v).matches.sixteen

      go : (length ys ≡ frames) ⊎ (length ys ≢ frames) → (n ≡ None) ⊎ ((r : Refusal) × (n ≡ Some r)) → over ys (decided v k (sheet_of ys)).sheet.rows ≡ (lent v k ys).rows
      go (inl l) (inl z) = rw (same_sheet l) (ap (λ (d : Decided). over ys d.sheet.rows) (sym (goes_on v k whole (sym z))) ∙ over_same ys (step v (joined k ys)).pager.rows (l ∙ sym (long l z)) ∙ sym (ap (λ (d : Lent). d.rows) (rows_go v k ys z)))
      go (inl l) (inr (r, q)) = rw (same_sheet l) (ap (λ (d : Decided). over ys d.sheet.rows) (sym (stops v k whole r (sym q))) ∙ over_same ys ys refl ∙ sym (ap (λ (d : Lent). d.rows) (rows_stop v k ys r q)))
      go (inr ne) (inl z) = absurd (unpassed ne z)
      go (inr ne) (inr (r, q)) = ap (λ (d : Decided). over ys d.sheet.rows) (off ne r q) ∙ over_read frames ys ∙ sym (ap (λ (d : Lent). d.rows) (rows_stop v k ys r q))

  pub lent_long : length (lent v k ys).rows ≡ length ys
  lent_long = ap length (sym lent_rows) ∙ over_long ys (decided v k (sheet_of ys)).sheet.rows

  -- what is handed back obeys the rule
  pub lent_keeps : Keeping (lent v k ys).turn.keeper
  lent_keeps = go (verdicts n)
    where
      go : (n ≡ None) ⊎ ((r : Refusal) × (n ≡ Some r)) → Keeping (lent v k ys).turn.keeper
      go (inl z) =
          let p = passed v k (length ys) ys z in
          subst (λ (d : Lent). Keeping d.turn.keeper) (sym (rows_go v k ys z)) (keeping (step v (joined k ys)).pager (keeps (joined k ys) (ruled k ys h p.0 p.1) v))
      go (inr (r, q)) = subst (λ (d : Lent). Keeping d.turn.keeper) (sym (rows_stop v k ys r q)) h
