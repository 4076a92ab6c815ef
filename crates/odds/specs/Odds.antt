-- "a lent table not sixteen rows long or at odds with the page tables": when sixteen rows agree with the page tables
-- and the open transfer. It is what the rule of a pager says of its rows (proofs/Agrees), as a test that computes.
use Rattle.std.specs.Prelude.{Bool, true, ◌&&◌, ◌||◌, List, [], ◌∷◌, ℕ, suc, ◌-◌, eqb, ltb}
use Rattle.pages.specs.declared.Row.{Row}
use Rattle.pages.specs.declared.Table.{Table}
use Rattle.pages.specs.declared.Transfer.{Transfer}
use Rattle.pages.specs.Numbers.{width}
use Rattle.pages.specs.Rules.{entry, row, is_free, is_uproc}
use Rattle.pages.specs.Laws.{in_transfer}

-- each in the list passes a test on its place, counted from k, and itself
abbrev pub every : {A : Type 0} → (ℕ → A → Bool) → ℕ → List A → Bool
every t k [] = true
every t k (x ∷ xs) = t k x && every t (suc k) xs

-- "the rows name exactly the present entries": a row is free, or that of a page which is present in its frame ..
abbrev pub row_agrees : List Table → ℕ → Row → Bool
row_agrees ts f r = is_free r || (is_uproc r.owner && (ltb r.page width && eqb (entry ts r.owner r.page) (suc f)))

-- .. and an entry, v as it stands, is absent, or its frame's row is that of its page
abbrev pub entry_agrees : List Row → ℕ → ℕ → ℕ → Bool
entry_agrees rs u e v = eqb v 0 || (eqb (row rs (v - 1)).owner u && eqb (row rs (v - 1)).page e)

abbrev pub table_agrees : List Row → ℕ → Table → Bool
table_agrees rs i t = every (entry_agrees rs (suc i)) 0 t.entries

-- "a frame in transfer having a free row"
abbrev pub transfer_agrees : List Row → Transfer → Bool
transfer_agrees rs t = every (λ _ f. is_free (row rs f)) 0 (in_transfer t)

unfoldable pub agrees : List Table → List Row → Transfer → Bool
agrees ts rs t = every (row_agrees ts) 0 rs && (every (table_agrees rs) 0 ts && transfer_agrees rs t)
