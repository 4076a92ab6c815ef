-- The lent form's answers and rows equal the plain form's; one answer, one keeper and one list of rows for every event.
use Rattle.std.specs.Prelude.{if◌then◌else◌}
use mathlib.Core.Bool.{Bool, true, false, not, false≢true}
use mathlib.Core.Path.{◌≡◌, refl, sym, ◌∙◌, ap}
use mathlib.Core.Logic.{◌≢◌}
use mathlib.Core.List.{List, [], ◌∷◌}
use Prim.Native.Nat.{ℕ}
use lib.ListN.{length, replicate}
use Rattle.pages.specs.declared.Refusal.TheVariants.{NoSuchUproc, AtOdds}
use Rattle.pages.specs.declared.Row.{Row}
use Rattle.pages.specs.declared.Event.{Event}
use Rattle.pages.specs.declared.Event.TheVariants.{Refill, Fault, Report, End}
use Rattle.pages.specs.declared.Answer.{Answer}
use Rattle.pages.specs.declared.Pager.{Pager}
use Rattle.pages.specs.declared.Turn.{Turn}
use Rattle.pages.specs.Numbers.{frames}
use Rattle.pages.specs.Rules as rules
use Rattle.pages.specs.Rules.{is_uproc, of_uproc, closed, step, answers}
use Rattle.pages.specs.Ruled.{Ruled}
use Rattle.pages.proofs.Ruled.{fresh_ruled, keeps}
use Rattle.odds.specs.Odds.{agrees}
use Rattle.lent.specs.declared.Keeper.{Keeper}
use Rattle.lent.specs.declared.Kept.{Kept}
use Rattle.lent.specs.Lent.{joined, without_rows, fresh, refusing, after, no_uproc, lent, lent_answers}
use Rattle.lent.proofs.Laws.{verdict_9, verdict_long, verdict_agrees, verdict_odds, agreeing, rows_go, rows_stop}

-- ── 9 ──

nobody : (u : ℕ) (p : Pager) (x : Turn) → not (is_uproc u) ≡ true → of_uproc u p x ≡ rules.refusing NoSuchUproc p
nobody u p x e = go (is_uproc u) e
  where
    go : (b : Bool) → not b ≡ true → (if b then closed p.transfer p x else rules.refusing NoSuchUproc p) ≡ rules.refusing NoSuchUproc p
    go true e = absurd (false≢true e)
    go false e = refl

pub nobody_steps : (v : Event) (p : Pager) → no_uproc v ≡ true → step v p ≡ rules.refusing NoSuchUproc p
unfolding step
nobody_steps (Refill u n) p e = nobody u p (rules.refill u n p) e
nobody_steps (Fault u n c) p e = nobody u p (rules.fault u n c p) e
nobody_steps (Report ok) p e = absurd (false≢true e)
nobody_steps (End u) p e = nobody u p (rules.ends u p) e

-- ── 12: "not sixteen rows long or at odds with the page tables is refused with 12, untouched, after 9 and before 11" ──

module _ (v : Event) (k : Keeper) (rs : List Row) where
  pub refused_9 : no_uproc v ≡ true → lent v k rs ≡ record { turn = refusing NoSuchUproc k; rows = rs }
  refused_9 e = rows_stop v k rs NoSuchUproc (sym (verdict_9 v k (length rs) rs e))

  pub refused_long : no_uproc v ≡ false → length rs ≢ frames → lent v k rs ≡ record { turn = refusing AtOdds k; rows = rs }
  refused_long e ne = rows_stop v k rs AtOdds (sym (verdict_long v k (length rs) rs e ne))

  pub refused_odds : no_uproc v ≡ false → length rs ≡ frames → agrees k.tables rs k.transfer ≡ false → lent v k rs ≡ record { turn = refusing AtOdds k; rows = rs }
  refused_odds e l a = rows_stop v k rs AtOdds (sym (verdict_odds v k (length rs) rs e l a))

  -- ── The plain form ──

  pub equal : Ruled (joined k rs) → lent v k rs ≡ record { turn = after (step v (joined k rs)); rows = (step v (joined k rs)).pager.rows }
  equal r = go (no_uproc v) refl
    where
      go : (b : Bool) → no_uproc v ≡ b → lent v k rs ≡ record { turn = after (step v (joined k rs)); rows = (step v (joined k rs)).pager.rows }
      go true e = rw (nobody_steps v (joined k rs) e) (refused_9 e)
      go false e = rows_go v k rs (sym (verdict_agrees v k (length rs) rs e r.matches.sixteen (agreeing (joined k rs) r)))

-- over any events, with the rows lent to each as the last one left them
pub equal_answers : (vs : List Event) (p : Pager) → Ruled p → lent_answers vs (without_rows p) p.rows ≡ answers vs p
unfolding lent_answers answers
equal_answers [] p r = refl
equal_answers (v ∷ vs) p r = rw (equal v (without_rows p) p.rows r) (ap (λ (l : List Answer). (step v p).answer ∷ l) (equal_answers vs (step v p).pager (keeps p r v)))

pub equal_fresh : (vs : List Event) → lent_answers vs fresh (replicate frames rules.free) ≡ answers vs rules.fresh
equal_fresh vs = equal_answers vs rules.fresh fresh_ruled

-- ── Uniqueness: what `event` promises of its result and of the rows ──

pub one_event : (v : Event) (k : Keeper) (rs : List Row) {r s : Kept} {ys zs : List Row}
    → (r ≡ (lent v k rs).turn) × (ys ≡ (lent v k rs).rows) → (s ≡ (lent v k rs).turn) × (zs ≡ (lent v k rs).rows) → (r ≡ s) × (ys ≡ zs)
one_event v k rs a b = (a.0 ∙ sym b.0, a.1 ∙ sym b.1)
