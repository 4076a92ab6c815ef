-- Families and customers, where the rows are these arrays by slot.
use Rattle.std.specs.Prelude.{◌≡◌, Option, Some, None, Bool, false, ◌||◌, List, [], ◌∷◌, ℕ, zero, suc, ◌<◌, length, get_or, eqb, leb}
use Rattle.rules.specs.Numbers.{base_slots}
use Rattle.rules.specs.Words.{first, among}
use Rattle.lines.specs.Lines.{members_of}

-- ── Ancestors ──

-- what a parent's entry gives: nothing where there is none, else something of its slot
abbrev pub above : Option ℕ → (ℕ → List ℕ) → List ℕ
above None f = []
above (Some p) f = f p

-- the ids of the parent, its parent, ..
unfoldable pub climb : List (Option ℕ) → List ℕ → ℕ → ℕ → List ℕ
climb parents ids zero s = []
climb parents ids (suc n) s = above (get_or parents s None) λ p. get_or ids p 0 ∷ climb parents ids n p

-- a parent's id is less than its child's: as many steps as the id says are enough
abbrev pub elders : List (Option ℕ) → List ℕ → ℕ → List ℕ
elders parents ids s = climb parents ids (get_or ids s 0) s

-- "the parent's, 0 for id 1": the first of the ancestors
abbrev pub parent_at : List (Option ℕ) → List ℕ → ℕ → ℕ
parent_at parents ids s = first (elders parents ids s) 0 λ n. n

-- a parent is alive and was born earlier
pub record Parent (ids : List ℕ) (s p : ℕ) : Type 0 where
  pub slot : p < base_slots
  pub alive : 0 < get_or ids p 0
  pub older : get_or ids p 0 < get_or ids s 0

abbrev pub Kin : List (Option ℕ) → List ℕ → Type 0
Kin parents ids = (s p : ℕ) → s < base_slots → get_or parents s None ≡ Some p → Parent ids s p

-- ── Families ──

-- the process in a slot has the id, or descends from who has it
abbrev pub kin : List (Option ℕ) → List ℕ → ℕ → ℕ → Bool
kin parents ids n s = among n (get_or ids s 0 ∷ elders parents ids s)

-- a mark for each slot: whether it is of the family
pub record Marks (parents : List (Option ℕ)) (ids : List ℕ) (n : ℕ) (ds : List Bool) : Type 0 where
  pub long : length ds ≡ base_slots
  pub each : (s : ℕ) → s < base_slots → get_or ds s false ≡ kin parents ids n s

-- 02, (xi): who is in the slot s may name who is in the slot t, where rows are these
abbrev pub may_name_at : List ℕ → List (Option ℕ) → List ℕ → ℕ → ℕ → Bool
may_name_at customers parents ids s t = eqb (get_or customers s 0) 0 || kin parents ids (get_or ids s 0) t

-- ── Customers ──

-- 02, (ii): "the child's customer is at its ceiling, the named customer is above 8", where rows and ceilings are these
abbrev pub at_ceiling : List ℕ → List ℕ → List ℕ → ℕ → Bool
at_ceiling ids customers ceilings c = leb (get_or ceilings c 0) (members_of base_slots ids customers c) || leb (length ceilings) c
