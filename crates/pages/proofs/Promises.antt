-- The laws of specs/Laws, of any pager that obeys the rule and so after any events from a fresh one.
use Rattle.std.specs.Prelude.{Some, None, if◌then◌else◌}
use mathlib.Core.Bool.{Bool, true, false, not, ◌&&◌, ◌||◌, false≢true}
use mathlib.Core.Path.{◌≡◌, refl, sym, ◌∙◌, ap}
use mathlib.Core.Logic.{◌≢◌, ◌⊎◌, inl, inr}
use mathlib.Core.List.{List, [], ◌∷◌}
use Prim.Native.Nat.{ℕ, zero, suc, ◌+◌, ◌-◌, ◌≤◌, ◌<◌}
use native.Mathlib.Omega.{arith}
use lib.Dec.{T, eqb, eqb→eq}
use lib.ListN.{length, get_or, get_or-replicate}
use borrow.Author.Tests.{eq-eqb, ne_eqb}
use Rattle.rules.specs.Words.{among}
use Rattle.pages.specs.declared.Refusal.{Refusal}
use Rattle.pages.specs.declared.Refusal.TheVariants.{NoSuchUproc, OutOfTurn}
use Rattle.pages.specs.declared.Row.{Row}
use Rattle.pages.specs.declared.Event.{Event}
use Rattle.pages.specs.declared.Event.TheVariants.{Refill, Fault, Report, End}
use Rattle.pages.specs.declared.Table.{Table}
use Rattle.pages.specs.declared.Transfer.{Transfer}
use Rattle.pages.specs.declared.Transfer.TheVariants.{Closed, Writing, Reading}
use Rattle.pages.specs.declared.Word.{Word}
use Rattle.pages.specs.declared.Word.TheVariants as word
use Rattle.pages.specs.declared.Pager.{Pager}
use Rattle.pages.specs.declared.Turn.{Turn}
use Rattle.pages.specs.Numbers.{u_procs, width, frames}
use Rattle.pages.specs.Rules.{table, entry, mark, row, held, is_free, first_frame, lowest_free, fresh, refusing, freed, ends, step, run}
use Rattle.pages.specs.Ruled.{Page, Waits, Open, Ruled}
use Rattle.pages.specs.Laws.{how_many, in_transfer, is_idle, is_owned, Conserved, OneOwner, is_report, Untouched, AbsentFirst, PresentLast, is_write, HandMoves, LeavesNothing, Unasked, Laws, Promises}
use Rattle.pages.proofs.Happens.{is_access, Happens, no_uproc, no_turn, tells, refreshes, traps, takes_free, takes_hand, write_done, write_fails, read_done, read_fails, ending, happens}
use Rattle.pages.proofs.Matches.{decide, zero_suc, mark_same, mark_at, freed_row, ended_table, kept_table}
use Rattle.pages.proofs.Ruled.{owned, found_free, none_free, at_hand, always}

-- ── The pool ──

-- each frame counts once: idle, owned or in transfer, where those in transfer are free
counted : (ms : List ℕ) (k : ℕ) (rs : List Row) → ((f : ℕ) → among (k + f) ms ≡ true → (row rs f).owner ≡ 0)
    → how_many (λ f r. is_free r && not (among f ms)) k rs + how_many is_owned k rs + how_many (λ f r. among f ms) k rs ≡ length rs
counted ms k [] h = refl
counted ms k (r ∷ rs) h = go (is_free r) (among k ms) refl refl (counted ms (suc k) rs (λ f q. h (suc f) (let y : k + suc f ≡ suc k + f = omega arith in rw y q)))
  where
    here : among k ms ≡ true → is_free r ≡ true
    here q = eq-eqb r.owner 0 (h 0 (let y : k + 0 ≡ k = omega arith in rw y q))

    go : (b c : Bool) → is_free r ≡ b → among k ms ≡ c
        → how_many (λ f r. is_free r && not (among f ms)) (suc k) rs + how_many is_owned (suc k) rs + how_many (λ f r. among f ms) (suc k) rs ≡ length rs
        → how_many (λ f r. is_free r && not (among f ms)) k (r ∷ rs) + how_many is_owned k (r ∷ rs) + how_many (λ f r. among f ms) k (r ∷ rs) ≡ length (r ∷ rs)
    go true true p q i = rw (p, q) (omega arith)
    go true false p q i = rw (p, q) (omega arith)
    go false true p q i = absurd (false≢true (sym p ∙ here q))
    go false false p q i = rw (p, q) (omega arith)

-- a frame of the pool counts once
behind : (f j : ℕ) (rs : List Row) → f < j → how_many (λ g r. among g (f ∷ [])) j rs ≡ 0
behind f j [] h = refl
behind f j (r ∷ rs) h = rw (ne_eqb j f (λ e. omega arith), behind f (suc j) rs (omega arith)) refl

once : (f k : ℕ) (rs : List Row) → k ≤ f → f < k + length rs → how_many (λ g r. among g (f ∷ [])) k rs ≡ 1
once f k [] a b = absurd (omega arith)
once f k (r ∷ rs) a b = go (decide k f) (λ h. once f (suc k) rs h (omega arith))
  where
    go : (k ≡ f) ⊎ (k ≢ f) → (suc k ≤ f → how_many (λ g r. among g (f ∷ [])) (suc k) rs ≡ 1) → how_many (λ g r. among g (f ∷ [])) k (r ∷ rs) ≡ 1
    go (inl e) i = rw (eq-eqb k f e, behind f (suc k) rs (omega arith)) refl
    go (inr e) i = rw (ne_eqb k f e) (let z = i (omega arith) in omega arith)

none : (k : ℕ) (rs : List Row) → how_many (λ g r. among g []) k rs ≡ 0
none k [] = refl
none k (r ∷ rs) = rw (none (suc k) rs) refl

module _ (p : Pager) (r : Ruled p) where
  -- one frame in transfer, whose row is free
  one_moves : (f : ℕ) → f < frames → (row p.rows f).owner ≡ 0 → how_many (λ g x. is_free x && not (among g (f ∷ []))) 0 p.rows + how_many is_owned 0 p.rows + 1 ≡ frames
  one_moves f h empty = let c = counted (f ∷ []) 0 p.rows (λ g q. at g q) in let o = once f 0 p.rows (omega arith) (let l = r.matches.sixteen in omega arith) in let l = r.matches.sixteen in omega arith
    where
      hit : (g : ℕ) → among (0 + g) (f ∷ []) ≡ true → g ≡ f
      hit g q = eqb→eq g f (only (eqb g f) (let y : 0 + g ≡ g = omega arith in rw y at q))
        where
          only : (b : Bool) → (b || false) ≡ true → T b
          only true e = tt
          only false e = absurd (false≢true e)

      at : (g : ℕ) → among (0 + g) (f ∷ []) ≡ true → (row p.rows g).owner ≡ 0
      at g q = rw (hit g q) empty

  conserved_by : (t : Transfer) → p.transfer ≡ t → Open p.tables p.rows t → how_many (is_idle t) 0 p.rows + how_many is_owned 0 p.rows + length (in_transfer t) ≡ frames
  conserved_by Closed q o = let c = counted [] 0 p.rows (λ f e. absurd (false≢true e)) in let n = none 0 p.rows in let l = r.matches.sixteen in omega arith
  conserved_by (Writing f u e old) q o = one_moves f o.0.frame o.0.empty
  conserved_by (Reading f u e) q o = one_moves f o.frame o.empty

  pub conserved : Conserved p
  conserved = conserved_by p.transfer refl r.opened

  pub one_owner : OneOwner p
  one_owner u e u' e' f h h' a a' =
      let z = sym (r.matches.present u e f h a).1 ∙ (r.matches.present u' e' f h' a').1 in
      (ap (λ (x : Row). x.owner) z, ap (λ (x : Row). x.page) z)

-- ── One event ──

-- a pager with no open transfer is no pager with one
clash : {t : Transfer} → t ≢ Closed → t ≡ Closed → {A : Type 0} → A
clash ne e = absurd (ne e)

module _ (p : Pager) where
  untouched_by : {v : Event} {t : Turn} → Happens p v t → Untouched p v t
  untouched_by (no_uproc v) o n = inl refl
  untouched_by (no_turn v) o n = inr refl
  untouched_by (tells v u e x i q) o n = clash o q
  untouched_by (refreshes v u e f i q) o n = clash o q
  untouched_by (traps v u i q) o n = clash o q
  untouched_by (takes_free v f u e i q page absent found) o n = clash o q
  untouched_by (takes_hand v u e i q page absent full) o n = clash o q
  untouched_by (write_done f u e old q) o n = absurd (false≢true (sym n))
  untouched_by (write_fails f u e old q) o n = absurd (false≢true (sym n))
  untouched_by (read_done f u e q) o n = absurd (false≢true (sym n))
  untouched_by (read_fails f u e q) o n = absurd (false≢true (sym n))
  untouched_by (ending u q a b) o n = clash o q

  hand_by : {v : Event} {t : Turn} → Happens p v t → HandMoves p t
  unfolding ends
  hand_by (no_uproc v) = refl
  hand_by (no_turn v) = refl
  hand_by (tells v u e x i q) = refl
  hand_by (refreshes v u e f i q) = refl
  hand_by (traps v u i q) = refl
  hand_by (takes_free v f u e i q page absent found) = refl
  hand_by (takes_hand v u e i q page absent full) = refl
  hand_by (write_done f u e old q) = refl
  hand_by (write_fails f u e old q) = refl
  hand_by (read_done f u e q) = refl
  hand_by (read_fails f u e q) = refl
  hand_by (ending u q a b) = refl

-- an answer that asks for no write, and one that asks for no read
no_write {ℓ} : {A : Type ℓ} (w : Word) (f o g : ℕ) → is_write w ≡ false → w ≡ word.Write f o g → A
no_write w f o g n e = absurd (false≢true (sym n ∙ ap is_write e))

is_read : Word → Bool
is_read word.None = false
is_read (word.Entry u e v) = false
is_read (word.Refresh u e f) = false
is_read (word.Write f o g) = false
is_read (word.Read f u e) = true
is_read (word.Resume u e f) = false
is_read (word.Trap u) = false
is_read (word.Freed u m) = false

no_read {ℓ} : {A : Type ℓ} (w : Word) (f u e : ℕ) → is_read w ≡ false → w ≡ word.Read f u e → A
unfolding is_read
no_read w f u e n q = absurd (false≢true (sym n ∙ ap is_read q))

module _ (p : Pager) (r : Ruled p) where
  hand_absent : lowest_free p.rows ≡ None → let old = row p.rows p.hand in entry (mark p.tables old.owner old.page 0) old.owner old.page ≡ 0
  hand_absent full =
      let s = at_hand p r full in
      let old = row p.rows p.hand in
      mark_same p.tables r.matches.eight old.owner old.page 0 s.page (r.matches.wide old.owner s.page.from s.page.upto)

  absent_by : {v : Event} {t : Turn} → Happens p v t → AbsentFirst t
  unfolding ends
  absent_by (no_uproc v) f o g q = no_write word.None f o g refl q
  absent_by (no_turn v) f o g q = no_write word.None f o g refl q
  absent_by (tells v u e x i c) f o g q = no_write (word.Entry u e x) f o g refl q
  absent_by (refreshes v u e x i c) f o g q = no_write (word.Refresh u e x) f o g refl q
  absent_by (traps v u i c) f o g q = no_write (word.Trap u) f o g refl q
  absent_by (takes_free v x u e i c page absent found) f o g q = no_write (word.Read x u e) f o g refl q
  absent_by (takes_hand v u e i c page absent full) f o g q =
      let a : (row p.rows p.hand).owner ≡ o = cc in
      let b : (row p.rows p.hand).page ≡ g = cc in
      rw (← a, ← b) (hand_absent full)
  absent_by (write_done x u e old c) f o g q = no_write (word.Read x u e) f o g refl q
  absent_by (write_fails x u e old c) f o g q = no_write (word.Trap u) f o g refl q
  absent_by (read_done x u e c) f o g q = no_write (word.Resume u e x) f o g refl q
  absent_by (read_fails x u e c) f o g q = no_write (word.Trap u) f o g refl q
  absent_by (ending u c a b) f o g q = no_write (word.Freed u _) f o g refl q

-- an event that is no end, and a refused one, end nobody
no_end : (v : Event) (t : Turn) → is_access v ≡ true → LeavesNothing v t
no_end (Refill u n) t i = tt
no_end (Fault u n c) t i = tt
no_end (Report ok) t i = tt
no_end (End u) t i = absurd (false≢true i)

refused_ends : (p : Pager) (v : Event) (r : Refusal) → LeavesNothing v (refusing r p)
refused_ends p (Refill u m) r = tt
refused_ends p (Fault u m c) r = tt
refused_ends p (Report ok) r = tt
refused_ends p (End u) r = λ e. absurd (let z : ◌≡◌ {A = ℕ} 0 1 = cc in omega arith)

-- frames before the first free one are owned
lower : (rs : List Row) (k f : ℕ) → first_frame is_free k rs ≡ Some f → (g : ℕ) → k + g < f → 1 ≤ (row rs g).owner
lower [] k f e g h = let z : ◌≡◌ {A = ℕ} 0 1 = cc in absurd (omega arith)
lower (r ∷ rs) k f e g h = go (is_free r) refl (lower rs (suc k) f) e g h
  where
    go : (b : Bool) → is_free r ≡ b → (first_frame is_free (suc k) rs ≡ Some f → (g : ℕ) → suc k + g < f → 1 ≤ (row rs g).owner) → (if b then Some k else first_frame is_free (suc k) rs) ≡ Some f → (g : ℕ) → k + g < f → 1 ≤ (row (r ∷ rs) g).owner
    go true q i e g h = let z : k ≡ f = cc in absurd (omega arith)
    go false q i e zero h = owned r.owner q
    go false q i e (suc g) h = i e g (omega arith)

module _ (p : Pager) (r : Ruled p) where
  free_first : (f : ℕ) → lowest_free p.rows ≡ Some f → ((row p.rows f).owner ≡ 0) × ((g : ℕ) → g < f → 1 ≤ (row p.rows g).owner)
  free_first f found = (let y : f - 0 ≡ f = omega arith in rw y at (found_free p.rows 0 f found).2, λ g h. lower p.rows 0 f found g (omega arith))

  taken_by : {v : Event} {t : Turn} → Happens p v t → (f u e : ℕ) → is_report v ≡ false → t.answer.word ≡ word.Read f u e → ((row p.rows f).owner ≡ 0) × ((g : ℕ) → g < f → 1 ≤ (row p.rows g).owner)
  unfolding ends is_read
  taken_by (no_uproc v) f u e n q = no_read word.None f u e refl q
  taken_by (no_turn v) f u e n q = no_read word.None f u e refl q
  taken_by (tells v u' e' x i c) f u e n q = no_read (word.Entry u' e' x) f u e refl q
  taken_by (refreshes v u' e' x i c) f u e n q = no_read (word.Refresh u' e' x) f u e refl q
  taken_by (traps v u' i c) f u e n q = no_read (word.Trap u') f u e refl q
  taken_by (takes_free v x u' e' i c page absent found) f u e n q = let z : x ≡ f = cc in free_first f (rw z at found)
  taken_by (takes_hand v u' e' i c page absent full) f u e n q = no_read (word.Write p.hand _ _) f u e refl q
  taken_by (write_done x u' e' old c) f u e n q = absurd (false≢true (sym n))
  taken_by (write_fails x u' e' old c) f u e n q = absurd (false≢true (sym n))
  taken_by (read_done x u' e' c) f u e n q = absurd (false≢true (sym n))
  taken_by (read_fails x u' e' c) f u e n q = absurd (false≢true (sym n))
  taken_by (ending u' c a b) f u e n q = no_read (word.Freed u' _) f u e refl q

  full_pool : lowest_free p.rows ≡ None → (h : ℕ) → h < frames → 1 ≤ (row p.rows h).owner
  full_pool full h l = none_free p.rows 0 full h (rw r.matches.sixteen l)

  evicted_by : {v : Event} {t : Turn} → Happens p v t → (f o g : ℕ) → t.answer.word ≡ word.Write f o g → (f ≡ p.hand) × ((h : ℕ) → h < frames → 1 ≤ (row p.rows h).owner)
  unfolding ends
  evicted_by (no_uproc v) f o g q = no_write word.None f o g refl q
  evicted_by (no_turn v) f o g q = no_write word.None f o g refl q
  evicted_by (tells v u e x i c) f o g q = no_write (word.Entry u e x) f o g refl q
  evicted_by (refreshes v u e x i c) f o g q = no_write (word.Refresh u e x) f o g refl q
  evicted_by (traps v u i c) f o g q = no_write (word.Trap u) f o g refl q
  evicted_by (takes_free v x u e i c page absent found) f o g q = no_write (word.Read x u e) f o g refl q
  evicted_by (takes_hand v u e i c page absent full) f o g q = (cc, full_pool full)
  evicted_by (write_done x u e old c) f o g q = no_write (word.Read x u e) f o g refl q
  evicted_by (write_fails x u e old c) f o g q = no_write (word.Trap u) f o g refl q
  evicted_by (read_done x u e c) f o g q = no_write (word.Resume u e x) f o g refl q
  evicted_by (read_fails x u e c) f o g q = no_write (word.Trap u) f o g refl q
  evicted_by (ending u c a b) f o g q = no_write (word.Freed u _) f o g refl q

  -- what a mark makes present, it marks
  marked_there : (u e x : ℕ) → Page u e → (u' e' f : ℕ) → Page u' e' → entry p.tables u' e' ≡ 0 → entry (mark p.tables u e x) u' e' ≡ suc f → (u' ≡ u) × (e' ≡ e) × (x ≡ suc f)
  marked_there u e x page u' e' f page' before after = go (mark_at p.tables r.matches.eight u e x page wide u' e' page'.from)
    where
      wide : length (table p.tables u).entries ≡ width
      wide = r.matches.wide u page.from page.upto

      go : ((u' ≡ u) × (e' ≡ e)) ⊎ (((u' ≡ u) → (e' ≡ e) → ⊥) × (entry (mark p.tables u e x) u' e' ≡ entry p.tables u' e')) → (u' ≡ u) × (e' ≡ e) × (x ≡ suc f)
      go (inl z) =
          let same : entry (mark p.tables u e x) u' e' ≡ x = rw (z.0, z.1) (mark_same p.tables r.matches.eight u e x page wide) in
          (z.0, z.1, sym same ∙ after)
      go (inr z) = absurd (zero_suc (sym before ∙ sym z.1 ∙ after))

  -- nothing is present after an end that was not before
  ended_absent : (u : ℕ) → 1 ≤ u → u ≤ u_procs → (u' e f : ℕ) → Page u' e → entry p.tables u' e ≡ 0 → entry (ends u p).pager.tables u' e ≡ suc f → ⊥
  unfolding ends
  ended_absent u a b u' e f page before after = go (decide u' u)
    where
      go : (u' ≡ u) ⊎ (u' ≢ u) → ⊥
      go (inl z) = zero_suc (sym (rw z (ap (λ (t : Table). get_or t.entries e 0) (ended_table r.matches u a b) ∙ get_or-replicate width e 0 0 page.entries)) ∙ after)
      go (inr z) = zero_suc (sym before ∙ sym (ap (λ (t : Table). get_or t.entries e 0) (kept_table r.matches u a b u' page.from z)) ∙ after)

  present_by : {v : Event} {t : Turn} → Happens p v t → PresentLast p v t
  present_by (no_uproc v) u e f page before after = absurd (zero_suc (sym before ∙ after))
  present_by (no_turn v) u e f page before after = absurd (zero_suc (sym before ∙ after))
  present_by (tells v u' e' x i c) u e f page before after = absurd (zero_suc (sym before ∙ after))
  present_by (refreshes v u' e' x i c) u e f page before after = absurd (zero_suc (sym before ∙ after))
  present_by (traps v u' i c) u e f page before after = absurd (zero_suc (sym before ∙ after))
  present_by (takes_free v x u' e' i c page' absent found) u e f page before after = absurd (zero_suc (sym before ∙ after))
  present_by (takes_hand v u' e' i c page' absent full) u e f page before after =
      let old = row p.rows p.hand in absurd (zero_suc (marked_there old.owner old.page 0 (at_hand p r full).page u e f page before after).2)
  present_by (write_done x u' e' old c) u e f page before after = absurd (zero_suc (sym before ∙ after))
  present_by (write_fails x u' e' old c) u e f page before after =
      let o = rw c at r.opened in
      let m = marked_there old.owner old.page (suc x) o.1.page u e f page before after in
      let a = m.0 in let b = m.1 in let d = m.2 in
      let y : x ≡ f = omega arith in
      let w : old ≡ held u e = λ i. record { owner = sym a i; page = sym b i } in
      inr (u', e', rw (← y, ← w) c, refl)
  present_by (read_done x u' e' c) u e f page before after =
      let o : Waits p.tables p.rows x u' e' = rw c at r.opened in
      let m = marked_there u' e' (suc x) o.page u e f page before after in
      let a = m.0 in let b = m.1 in let d = m.2 in
      let y : x ≡ f = omega arith in
      inl (rw (a, b, ← y) c, refl)
  present_by (read_fails x u' e' c) u e f page before after = absurd (zero_suc (sym before ∙ after))
  present_by (ending u' c a b) u e f page before after = absurd (ended_absent u' a b u e f page before after)

  -- no row and no entry of an ended U-proc is left
  nothing_left : (u : ℕ) → 1 ≤ u → u ≤ u_procs → ((f : ℕ) → (row (ends u p).pager.rows f).owner ≢ u) × ((e : ℕ) → e < width → entry (ends u p).pager.tables u e ≡ 0)
  unfolding ends
  nothing_left u a b = (
    λ f e. gone (row p.rows f) (sym (ap (λ (x : Row). x.owner) (freed_row u p.rows f)) ∙ e),
    λ e h. ap (λ (t : Table). get_or t.entries e 0) (ended_table r.matches u a b) ∙ get_or-replicate width e 0 0 h,
  )
    where
      gone : (x : Row) → (freed u x).owner ≡ u → ⊥
      gone x = go (decide x.owner u)
        where
          go : (x.owner ≡ u) ⊎ (x.owner ≢ u) → (freed u x).owner ≡ u → ⊥
          go (inl z) e = let y : (freed u x).owner ≡ 0 = rw (eq-eqb x.owner u z) refl in let k = sym y ∙ e in omega arith
          go (inr z) e = z (let y : (freed u x).owner ≡ x.owner = rw (ne_eqb x.owner u z) refl in sym y ∙ e)

  leaves_by : {v : Event} {t : Turn} → Happens p v t → LeavesNothing v t
  leaves_by (no_uproc v) = refused_ends p v NoSuchUproc
  leaves_by (no_turn v) = refused_ends p v OutOfTurn
  leaves_by (tells v u e x i q) = no_end v _ i
  leaves_by (refreshes v u e f i q) = no_end v _ i
  leaves_by (traps v u i q) = no_end v _ i
  leaves_by (takes_free v f u e i q page absent found) = no_end v _ i
  leaves_by (takes_hand v u e i q page absent full) = no_end v _ i
  leaves_by (write_done f u e old q) = tt
  leaves_by (write_fails f u e old q) = tt
  leaves_by (read_done f u e q) = tt
  leaves_by (read_fails f u e q) = tt
  leaves_by (ending u q a b) = λ _. nothing_left u a b

unasked_by : (p : Pager) (v : Event) → Unasked p v (step v p)
unfolding step
unasked_by p (Refill u n) q i = absurd (false≢true i)
unasked_by p (Fault u n c) q i = absurd (false≢true i)
unasked_by p (Report ok) q i = rw q refl
unasked_by p (End u) q i = absurd (false≢true i)

laws : (p : Pager) → Ruled p → (v : Event) → Laws p v
laws p r v = let h = happens p v in record {
  untouched = untouched_by p h;
  unasked = unasked_by p v;
  absent_first = absent_by p r h;
  present_last = present_by p r h;
  lowest_first = record { taken = taken_by p r h; evicted = evicted_by p r h };
  hand_moves = hand_by p h;
  leaves_nothing = leaves_by p r h;
}

pub promised : (p : Pager) → Ruled p → Promises p
promised p r = record { rule = r; one_owner = one_owner p r; conserved = conserved p r; each_event = laws p r }

-- any events from a fresh pager
pub promises : (vs : List Event) → Promises (run vs fresh)
promises vs = promised (run vs fresh) (always vs)
