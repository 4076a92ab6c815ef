-- An array in a local, the first elements of which are lent as a `&mut [T]` for a lifetime that the walk makes, and
-- that is had back whole.
--     Rest           what the lender keeps meanwhile: its part of the loan, and the elements behind
--     lends_front    the array ∗ what it owns  ⊢ ⇛ ∃ γ. own (the `&κ mut [T]` of its first n elements) ∗ Rest γ
--     front_back     [†κ] ∗ Rest γ ∗ finally γ zs  ⊢ ⇛ the array: zs, and the elements behind as they were
use mathlib.Core.Path.{◌≡◌, refl, sym, ◌∙◌, subst}
use Prim.Native.Nat.{ℕ, ◌≤◌}
use mathlib.Core.List.{List, [], ◌∷◌, ◌++◌}
use lib.ListN.{length, take, drop, take-append-drop}
use seplogic.Ra.Ura.{Ura}
use base.Fraction.{full_share}
use mir.Syntax.{Ty, Lifetime, ty_array}
use mir.Val.{Val}
use base.Logic.{ent, sep, ex, guard}
use base.Fml.{Lft, GName, Fml, fsep, fat, fdead, flent}
use types.Logic.{Logic, sem}
use types.Kit.{‵, ◌⊛◌, some, later, ◌$◌, ◌∵◌, !, qed, move, use1, use2, use3, drop as lose, split, pick, rewrite, check, fsplit, fjoin, fpick, fpack, feq_l, feq_i, frame, await, updating, now as at_once, show, done}
use types.SemTy.{cells, Arr}
use types.Share.{arr_parts}
use denote.RattleType.{RattleType}
use denote.Laws.{Is, Tells, shows}
use denote.Memory.{cell_at, lone, part_at, mem, shares, part_of}
use denote.Array.{Array, array_vals, Array-Tells}
use denote.ArrayMemory.{Single, Array-apart, Array-whole}
use denote.Ref.{MutBor}
use denote.Slice.{slice_val, MutSlice, Room, finally}
use denote.Lend.{Held, lends_slice, slice_back}
use denote.Index.{row, whole_out, whole_in}
use denote.Steps.{only, facts}
use borrow.Table.Elements.{at, cut_app, join_app, same_len}
use lib.Seq.{length-take-le}
use borrow.Rule.Array.Share.{Room-take}

module _ (R : RattleType) (κ : Lft) (b N n : ℕ) (xs : List R.Denot) where
  abbrev pub the_array : Ty
  the_array = ty_array (lone R.mir) N

  abbrev pub front : GName → MutBor (List R.Denot)
  front γ = record { ref_ptr = (b, 0); ghost_name = γ; now = take n xs }

  abbrev pub Rest : GName → Fml
  Rest γ = fsep (flent κ (Held R (length (take n xs)) b 0 γ)) (cells (mem R) (drop n xs) b (at 0 (mem R).size (length (take n xs))))

  module _ {M : Type 1} {𝓤 : Ura M} (𝓛 : Logic 𝓤) (long : length xs ≡ N) where
    open 𝓛 use {H, A}

    pub lends_front : (ℓ : Lifetime) → Single R.mir → Room R N → n ≤ N → (v : Val) → ent 𝓤 (sep 𝓤 (H.at full_share the_array b 0 v) (sem 𝓛 ((Array R N).own_val xs (v ∷ []))))
        (H.⇛ (ex 𝓤 (λ (γ : GName). sep 𝓤 (sem 𝓛 ((MutSlice ℓ κ R).own_val (front γ) (slice_val (b, 0) n ∷ []))) (sem 𝓛 (Rest γ)))))
    unfolding part_of
    lends_front ℓ one room le v =
        qed 𝓛 (‵ (fat full_share the_array b 0 v) ∷ ‵ ((Array R N).own_val xs (v ∷ [])) ∷ []) ∵ updating ! $
        use1 𝓛 (‵ (cell_at full_share (the_array ∷ []) (v ∷ []) b 0)) (𝓛.laws.at_raw full_share the_array b 0 v) $ fjoin ! $
        fpack ! (List Val) (λ vs. fsep (cell_at full_share (the_array ∷ []) vs b 0) ((Array R N).own_val xs vs)) (v ∷ []) $
        use1 𝓛 (‵ ((arr_parts (shares R) N).part full_share xs b 0)) (Array-apart 𝓛 R full_share one N xs b 0) $ fsplit ! $ lose ! $
        use1 𝓛 (‵ (cells (mem R) xs b 0)) (whole_in 𝓛 R xs b 0) $
        rewrite ! 0 (λ (ys : List R.Denot). ‵ (cells (mem R) ys b 0)) (sym (take-append-drop n xs)) refl $
        use1 𝓛 (‵ (cells (mem R) (take n xs) b 0) ⊛ ‵ (cells (mem R) (drop n xs) b (at 0 (mem R).size (length (take n xs))))) (cut_app 𝓛 (mem R) (take n xs) (drop n xs) b 0) $ split ! $
        use1 𝓛 (later (some (λ (γ : GName). ‵ ((MutSlice ℓ κ R).own_val (front γ) (slice_val (b, 0) (length (take n xs)) ∷ [])) ⊛ ‵ (flent κ (Held R (length (take n xs)) b 0 γ)))))
        (lends_slice 𝓛 R ℓ κ (take n xs) b 0 (Room-take R N n xs long room)) $ await ! tt $ pick ! (λ γ. split ! $
        -- [the slice; the lender's part; the elements behind]
        rewrite ! 0 (λ (m : ℕ). ‵ ((MutSlice ℓ κ R).own_val (front γ) (slice_val (b, 0) m ∷ []))) (length-take-le n xs (subst (λ (m : ℕ). n ≤ m) (sym long) le)) refl $
        at_once ! $ show ! (λ (γ' : GName). sep 𝓤 (sem 𝓛 ((MutSlice ℓ κ R).own_val (front γ') (slice_val (b, 0) n ∷ []))) (sem 𝓛 (Rest γ'))) γ $ frame ! $ fjoin ! $ done !)

    -- the values that elements of this type have are told by what they are, as those of plain data are
    pub front_back : (vals : R.Denot → List Val) → Tells R (Is R) vals → (γ : GName) (zs : List R.Denot)
        → ent 𝓤 (sep 𝓤 (A.dead κ) (sep 𝓤 (sem 𝓛 (Rest γ)) (sem 𝓛 (finally R γ zs))))
        (H.⇛ (guard 𝓤 (Is (Array R N) (zs ++ drop n xs) (array_vals vals (zs ++ drop n xs))) (H.at full_share the_array b 0 (only (array_vals vals (zs ++ drop n xs))))))
    unfolding part_of
    front_back vals tl γ zs =
        qed 𝓛 (‵ (fdead κ) ∷ ‵ (Rest γ) ∷ ‵ (finally R γ zs) ∷ []) ∵ updating ! $ move ! (1 ∷ []) $ fsplit ! $ move ! (2 ∷ 0 ∷ 3 ∷ []) $
        use3 𝓛 (later (‵ ((Arr (mem R) (length (take n xs))).own_at zs b 0))) (slice_back 𝓛 R κ γ zs (length (take n xs)) b 0) $ await ! tt $ fsplit ! $ feq_l ! (λ e.
        -- [the elements that were lent; the elements behind]
        rewrite ! 1 (λ (m : ℕ). ‵ (cells (mem R) (drop n xs) b (at 0 (mem R).size m))) (sym e) refl $
        use2 𝓛 (‵ (cells (mem R) ys b 0)) (join_app 𝓛 (mem R) zs (drop n xs) b 0) $ use1 𝓛 (‵ (row R full_share ys b 0)) (whole_out 𝓛 R ys b 0) $
        feq_i ! ℕ (length ys) N (same_len n xs zs e ∙ long) $ fjoin ! $ use1 𝓛 (‵ (part_at (Array R N) full_share ys b 0)) (Array-whole 𝓛 R full_share N ys b 0) $
        fpick ! (λ vs. fsplit ! $ move ! (1 ∷ []) $ facts ! (Array R N) (Is (Array R N)) (shows 𝓛 (Array R N)) ys vs (λ is.
        rewrite ! 0 (λ (ws : List Val). ‵ (cell_at full_share (the_array ∷ []) ws b 0)) (Array-Tells R vals tl N ys vs is) refl $
        use1 𝓛 (‵ (fat full_share the_array b 0 (only (array_vals vals ys)))) (𝓛.laws.raw_at full_share the_array b 0 (only (array_vals vals ys))) $
        at_once ! $ check ! (subst (Is (Array R N) ys) (Array-Tells R vals tl N ys vs is) is) $ done !)))
      where
        ys : List R.Denot
        ys = zs ++ drop n xs
