-- The lender's table after an event, at another length and with a row set; its answers are the plain pager's.
use mathlib.Core.Path.{◌≡◌, refl, sym, ◌∙◌, ap, subst}
use mathlib.Core.Logic.{◌⊎◌, inl, inr}
use mathlib.Core.List.{List, [], ◌∷◌, ◌++◌}
use Prim.Native.Nat.{ℕ, zero, suc, ◌≤◌, ◌<◌}
use native.Mathlib.Nat.{not-suc-le-zero, le_of_suc-le-suc}
use native.Mathlib.Omega.{arith}
use lib.ListN.{length, take, drop, set, replicate}
use borrow.Author.Tests.{lt-ltb, le-ltb}
use borrow.Table.Elements.{same_len}
use lib.Seq.{length-take-le}
use Rattle.pages.specs.declared.Row.{Row}
use Rattle.pages.specs.declared.Event.{Event}
use Rattle.pages.specs.declared.Answer.{Answer}
use Rattle.pages.specs.Numbers.{frames}
use Rattle.pages.specs.Rules as rules
use Rattle.pages.specs.Rules.{answers}
use Rattle.swap.specs.Sheets.{fill}
use Rattle.swap.proofs.Rows.{lt_or_ge, set_past}
use Rattle.lent.specs.declared.Keeper.{Keeper}
use Rattle.lent.specs.Lent as lents
use Rattle.lent.specs.Lent.{Keeping, lent, lent_answers}
use Rattle.lent.proofs.Laws.{lent_long, lent_keeps, fresh_keeping}
use Rattle.lent.proofs.Equal.{equal_fresh}
use Rattle.lender.specs.declared.SwapTable.{SwapTable}
use Rattle.lender.specs.Lender.{room, rows_of, with_rows, fresh, served, served_answers, lesser, resized_to, with_row_at}

-- ── Lists ──

take_front : {X : Type 0} (l r : List X) → take (length l) (l ++ r) ≡ l
take_front [] r = refl
take_front {X} (x ∷ l) r = ap (λ (z : List X). x ∷ z) (take_front l r)

take_set : {X : Type 0} (n : ℕ) (l : List X) (i : ℕ) (x : X) → take n (set l i x) ≡ set (take n l) i x
take_set zero l i x = refl
take_set (suc n) [] i x = refl
take_set (suc n) (y ∷ l) zero x = refl
take_set {X} (suc n) (y ∷ l) (suc i) x = ap (λ (z : List X). y ∷ z) (take_set n l i x)

pub fill_none : (n : ℕ) → replicate n rules.free ≡ fill n []
unfolding fill
fill_none zero = refl
fill_none (suc n) = ap (λ (z : List Row). rules.free ∷ z) (fill_none n)

-- rows of a longer fill, and a fill of more rows than it needs
take_fill : (n m : ℕ) (l : List Row) → n ≤ m → take n (fill m l) ≡ fill n l
unfolding fill
take_fill zero m l h = refl
take_fill (suc n) zero l h = absurd (not-suc-le-zero h)
take_fill (suc n) (suc m) [] h = ap (λ (z : List Row). rules.free ∷ z) (take_fill n m [] (le_of_suc-le-suc h))
take_fill (suc n) (suc m) (x ∷ l) h = ap (λ (z : List Row). x ∷ z) (take_fill n m l (le_of_suc-le-suc h))

fill_take : (n m : ℕ) (l : List Row) → n ≤ m → fill n (take m l) ≡ fill n l
unfolding fill
fill_take zero m l h = refl
fill_take (suc n) zero l h = absurd (not-suc-le-zero h)
fill_take (suc n) (suc m) [] h = refl
fill_take (suc n) (suc m) (x ∷ l) h = ap (λ (z : List Row). x ∷ z) (fill_take n m l (le_of_suc-le-suc h))

-- some rows, and free ones behind them
fill_parts : (n : ℕ) (l : List Row) → length l ≤ n → l ++ drop (length l) (replicate n rules.free) ≡ fill n l
unfolding fill
fill_parts n [] h = fill_none n
fill_parts zero (x ∷ l) h = absurd (not-suc-le-zero h)
fill_parts (suc n) (x ∷ l) h = ap (λ (z : List Row). x ∷ z) (fill_parts n l (le_of_suc-le-suc h))

pub fill_front : (n m : ℕ) (l : List Row) → m ≤ n → m ≤ length l → take m l ++ drop m (replicate n rules.free) ≡ fill n (take m l)
fill_front n m l h k =
    let e : length (take m l) ≡ m = length-take-le m l k in
    subst (λ (i : ℕ). take m l ++ drop i (replicate n rules.free) ≡ fill n (take m l)) e (fill_parts n (take m l) (rw e h))

-- ── The lesser of two ──

pub lesser_first : (n m : ℕ) → n < m → n ≡ lesser n m
lesser_first n m h = rw (lt-ltb n m h) refl

pub lesser_second : (n m : ℕ) → m ≤ n → m ≡ lesser n m
lesser_second n m h = rw (le-ltb n m h) refl

lesser_low : (n m : ℕ) → lesser n m ≤ n
lesser_low n m = go (lt_or_ge n m)
  where
    go : (n < m) ⊎ (m ≤ n) → lesser n m ≤ n
    go (inl h) = let e = lesser_first n m h in omega arith
    go (inr h) = let e = lesser_second n m h in omega arith

-- ── The table ──

abbrev table_of : List Row → ℕ → SwapTable
table_of rs n = record { rows = rs; count = n }

-- the first m rows of the table, and free ones behind them
pub resized_is : (n : ℕ) (t : SwapTable) (m : ℕ) (rs : List Row) → length t.rows ≡ room → n ≤ room → m ≡ lesser n t.count → rs ≡ take m t.rows → table_of (rs ++ drop m (replicate room rules.free)) n ≡ resized_to n t
resized_is n t m rs long h e q =
    let w = lesser_low n t.count in
    ap (λ (z : List Row). table_of z n) (ap (λ (z : List Row). z ++ drop m (replicate room rules.free)) q ∙ fill_front room m t.rows (omega arith) (omega arith) ∙ ap (λ (i : ℕ). fill room (take i t.rows)) e)

pub rows_fresh : rows_of fresh ≡ replicate frames rules.free
rows_fresh = refl

-- as many of its rows as it has, and free ones behind them
pub rows_resized : (n : ℕ) (t : SwapTable) → n ≤ room → rows_of (resized_to n t) ≡ fill n (rows_of t)
rows_resized n t h = take_fill n room (take (lesser n t.count) t.rows) h ∙ go (lt_or_ge n t.count)
  where
    go : (n < t.count) ⊎ (t.count ≤ n) → fill n (take (lesser n t.count) t.rows) ≡ fill n (rows_of t)
    go (inl l) = rw (lt-ltb n t.count l) (fill_take n n t.rows (omega arith) ∙ sym (fill_take n t.count t.rows (omega arith)))
    go (inr l) = rw (le-ltb n t.count l) refl

module _ (t : SwapTable) (long : length t.rows ≡ room) (within : t.count ≤ room) where
  pub rows_long : length (rows_of t) ≡ t.count
  rows_long = length-take-le t.count t.rows (rw long within)

  pub rows_set : (at : ℕ) (row : Row) → rows_of (with_row_at at row t) ≡ set (rows_of t) at row
  rows_set at row = go (lt_or_ge at t.count)
    where
      go : (at < t.count) ⊎ (t.count ≤ at) → rows_of (with_row_at at row t) ≡ set (rows_of t) at row
      go (inl l) = rw (lt-ltb at t.count l) (take_set t.count t.rows at row)
      go (inr l) = rw (le-ltb at t.count l) (sym (set_past (rows_of t) at row (rw rows_long l)))

  -- rows in the place of as many
  module _ (rs : List Row) (as_many : length rs ≡ length (rows_of t)) where
    pub rows_placed : rows_of (with_rows rs t) ≡ rs
    rows_placed = subst (λ (n : ℕ). take n (rs ++ drop t.count t.rows) ≡ rs) (as_many ∙ rows_long) (take_front rs (drop t.count t.rows))

    pub placed_long : length (with_rows rs t).rows ≡ room
    placed_long = same_len t.count t.rows rs as_many ∙ long

  pub rows_served : (v : Event) (k : Keeper) → Keeping k → rows_of (served v k t).table ≡ (lent v k (rows_of t)).rows
  rows_served v k h = rows_placed (lent v k (rows_of t)).rows (lent_long v k h (rows_of t))

  pub served_long : (v : Event) (k : Keeper) → Keeping k → length (served v k t).table.rows ≡ room
  served_long v k h = placed_long (lent v k (rows_of t)).rows (lent_long v k h (rows_of t))

-- ── Any events, one after the other ──

pub lent_answered : (vs : List Event) (k : Keeper) (t : SwapTable) → Keeping k → length t.rows ≡ room → t.count ≤ room → served_answers vs k t ≡ lent_answers vs k (rows_of t)
unfolding served_answers lent_answers
lent_answered [] k t h l w = refl
lent_answered (v ∷ vs) k t h long w =
    ap (λ (l : List Answer). (lent v k (rows_of t)).turn.answer ∷ l) (
    lent_answered vs (served v k t).turn.keeper (served v k t).table (lent_keeps v k h (rows_of t)) (served_long t long w v k h) w
    ∙ ap (lent_answers vs (lent v k (rows_of t)).turn.keeper) (rows_served t long w v k h))

-- from a fresh table the answers are the plain pager's
pub plain_answered : (vs : List Event) → served_answers vs lents.fresh fresh ≡ answers vs rules.fresh
plain_answered vs = lent_answered vs lents.fresh fresh fresh_keeping refl (omega arith) ∙ equal_fresh vs
