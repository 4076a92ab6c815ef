-- Each way through an operation, over sleepers as they stand in code.
-- Assumes nothing.
use mathlib.Core.Path.{◌≡◌, refl, sym, ap, ◌∙◌}
use mathlib.Core.Bool.{Bool, true, false, not}
use mathlib.Core.List.{List, [], ◌∷◌, ◌++◌, map}
use Prim.Native.Nat.{ℕ, ◌+◌, ◌-◌, ◌*◌, ◌≤◌, ◌<◌}
use native.Mathlib.Nat.{zero-add}
use native.Mathlib.Omega.{arith}
use Rattle.std.proofs.lemmas.List.{drop-replicate}
use Rattle.std.proofs.lemmas.List.Sums.{prefix_len-le-length}
use lib.ListN.{length, take, drop, replicate, replicate-append-replicate}
use lib.Seq.{length-take-le, drop-drop, take-take}
use borrow.Author.Tests.{le-leb, lt-leb}
use Rattle.rules.specs.Words.{those, All}
use Rattle.rules.proofs.Cases.{All-those, All-over}
use Rattle.rules.proofs.Lines.{count_le}
use Rattle.rules.specs.Numbers.{time_limit}
use Rattle.sleeps.specs.Numbers.{places, last_proc, sign, second}
use Rattle.sleeps.specs.declared.Follows.TheVariants.{Nothing, Sleeps, Ends, Wakes, Ended}
use Rattle.sleeps.specs.declared.Sleeper.{Sleeper}
use Rattle.sleeps.specs.declared.Sleepers.{Sleepers}
use Rattle.sleeps.specs.declared.Turn.{Turn}
use Rattle.sleeps.specs.Rules.{State, Outcome, with_asleep, refused, answered, outside, is, sleeping, sleeper, insert, due, number_of, wakes, called, pass, ask, tick, end}
use Rattle.sleeps.proofs.Kept.{part_sound, more_sound, room_for, all_procs}
use Rattle.std.proofs.Common.{Option, Some, None}
use Rattle.std.specs.Option.{is_some}
use Rattle.std.specs.List.{position_from, prefix_len}
use Rattle.sleeps.specs.declared.Refusal.TheVariants.{TimeFull, NoSuchProc, AsleepAlready}
use Rattle.sleeping.specs.Rows.{blank, no_later, with_one, without_some, numbers_of}
use Rattle.sleeping.specs.Promised.{view, Good, grown, shrunk, Comes}
use Rattle.sleeping.proofs.Arrays.{put_view, put_rest, put_long, cut_view, cut_behind, cut_long, numbers_view, numbers_rest, numbers_long}
use Rattle.sleeping.proofs.Fronts.{insert_is, due_first, found_some, found_any, one_out}

-- one outcome said by another
pub comes_by : {o p : Outcome} {r : Turn} → o ≡ p → Comes p r → Comes o r
comes_by {o} {p} {r} e c = rw e c

-- ── A gap ──

pub pass_full : (g : ℕ) (s : State) → s.sum ≤ time_limit → time_limit - s.sum < g → pass g s ≡ refused TimeFull s
unfolding pass
pass_full g s l h = rw (lt-leb (s.sum + g) time_limit (omega arith))

pub pass_on : (g : ℕ) (s : State) → s.sum + g ≤ time_limit → pass g s ≡ answered Nothing [] (record { sum = s.sum + g; asleep = s.asleep })
unfolding pass
pass_on g s h = rw (le-leb (s.sum + g) time_limit h)

-- ── Asking ──

module _ (n a1 : ℕ) (s : State) where
  pub ask_outside : outside n ≡ true → ask n a1 s ≡ refused NoSuchProc s
  unfolding ask
  ask_outside o = rw o

  pub ask_asleep : outside n ≡ false → sleeping n s ≡ true → ask n a1 s ≡ refused AsleepAlready s
  unfolding ask
  ask_asleep o w = rw (o, w)

  pub ask_negative : outside n ≡ false → sleeping n s ≡ false → sign ≤ a1 → ask n a1 s ≡ answered Ends [] s
  unfolding ask
  ask_negative o w h = rw (o, w, le-leb sign a1 h)

  pub ask_granted : outside n ≡ false → sleeping n s ≡ false → a1 < sign → ask n a1 s ≡ answered Sleeps [] (with_asleep (insert (sleeper n a1 s) s.asleep) s)
  unfolding ask
  ask_granted o w h = rw (o, w, lt-leb sign a1 h)

-- ── The sleepers in code ──

-- those asleep
abbrev line : Sleepers → List Sleeper
line m = take m.count m.rows

module _ (m : Sleepers) (g : Good m) where
  pub line_long : length (line m) ≡ m.count
  line_long = length-take-le m.count m.rows (omega (arith, g.room))

  -- whether one of a number sleeps, as the code finds it
  pub found_is : (n : ℕ) (o : Option ℕ) {b c : Bool} → o ≡ position_from (is n) 0 (line m) → b ≡ is_some o → b ≡ c → sleeping n (view m) ≡ c
  found_is n o e s t = sym (found_any (is n) (line m) 0) ∙ ap is_some (sym e) ∙ sym s ∙ t

  -- the same of one of 1 to 8 who is awake
  pub free : (n : ℕ) (o : Option ℕ) {b c : Bool} → b ≡ outside n → b ≡ false → o ≡ position_from (is n) 0 (line m) → c ≡ is_some o → c ≡ false → (outside n ≡ false) × (sleeping n (view m) ≡ false)
  free n o d h e s t = (sym d ∙ h, found_is n o e s t)

  -- one more sleeps
  module _ (n a1 at : ℕ) (o : outside n ≡ false) (w : sleeping n (view m) ≡ false) (e : at ≡ prefix_len (no_later (m.sum + a1 * second)) (line m)) where
    pub one_fits : (at ≤ m.count) × (m.count < places)
    one_fits = (omega (arith, prefix_len-le-length (no_later (m.sum + a1 * second)) (line m), line_long), omega (arith, room_for (view m) g.sound n o w, line_long))

    pub grown_view : view (grown m at (sleeper n a1 (view m))) ≡ with_asleep (insert (sleeper n a1 (view m)) (line m)) (view m)
    grown_view =
        ap (λ (l : List Sleeper). with_asleep l (view m)) (put_view m.rows m.count at (sleeper n a1 (view m)) one_fits.0 (omega (arith, one_fits.1)) ∙ ap (λ (k : ℕ). with_one (line m) k (sleeper n a1 (view m))) e ∙ sym (insert_is (sleeper n a1 (view m)) (line m)))

    pub grown_good : Good (grown m at (sleeper n a1 (view m)))
    grown_good = record {
      long = put_long m.rows m.count at (sleeper n a1 (view m)) one_fits.0 (omega (arith, one_fits.1)) ∙ g.long;
      room = omega (arith, one_fits.1);
      rest =
          put_rest m.rows m.count at (sleeper n a1 (view m)) one_fits.0 (omega (arith, one_fits.1))
          ∙ sym (drop-drop 1 m.count m.rows)
          ∙ ap (λ (l : List Sleeper). drop 1 l) g.rest
          ∙ drop-replicate 1 (places - m.count) blank
          ∙ ap (λ (k : ℕ). replicate k blank) (let z : places - m.count - 1 ≡ places - (m.count + 1) = omega arith in z);
      sound = rw grown_view (more_sound n a1 (view m) o w g.sound);
    }

  -- some sleep no more
  module _ (at k : ℕ) (le : at + k ≤ m.count) where
    pub shrunk_view : view (shrunk m at k) ≡ with_asleep (without_some (line m) at k) (view m)
    shrunk_view = ap (λ (l : List Sleeper). with_asleep l (view m)) (cut_view m.rows m.count at k le (omega (arith, g.room)))

    pub shrunk_good : (t : Sleeper → Bool) → those t (line m) ≡ without_some (line m) at k → Good (shrunk m at k)
    shrunk_good t e = record {
      long = cut_long m.rows m.count at k le (omega (arith, g.room)) ∙ g.long;
      room = omega (arith, g.room);
      rest =
          cut_behind m.rows m.count at k le (omega (arith, g.room))
          ∙ ap (λ (l : List Sleeper). replicate k blank ++ l) g.rest
          ∙ replicate-append-replicate k (places - m.count) blank
          ∙ ap (λ (j : ℕ). replicate j blank) (let z : k + (places - m.count) ≡ places - (m.count - k) = omega (arith, g.room) in z);
      sound = rw (shrunk_view, ← e) (part_sound t (view m) g.sound);
    }

  -- ── A tick ──

  module _ (k : ℕ) (e : k ≡ prefix_len (no_later m.sum) (line m)) where
    pub due_fit : k ≤ m.count
    due_fit = omega (arith, prefix_len-le-length (no_later m.sum) (line m), line_long)

    due_are : those (due (view m)) (line m) ≡ take k (line m)
    due_are = (due_first m.sum (line m) g.sound.sorted).0 ∙ ap (λ (j : ℕ). take j (line m)) (sym e)

    rest_are : those (λ x. not (due (view m) x)) (line m) ≡ drop k (line m)
    rest_are = (due_first m.sum (line m) g.sound.sorted).1 ∙ ap (λ (j : ℕ). drop j (line m)) (sym e)

    left_are : those (λ x. not (due (view m) x)) (line m) ≡ without_some (line m) 0 k
    left_are = rest_are ∙ ap (λ (j : ℕ). drop j (line m)) (sym (zero-add k))

    pub tick_none : k ≡ 0 → tick (view m) ≡ answered Nothing [] (view m)
    unfolding tick
    tick_none z = rw (due_are, rest_are, z)

    pub left_good : Good (shrunk m 0 k)
    left_good = shrunk_good 0 k (rw (zero-add k) due_fit) (λ x. not (due (view m) x)) left_are

    abbrev waking : Turn
    waking = record { answer = record { refusal = None; follows = Wakes; count = k; woken = numbers_of m.rows k }; sleepers = shrunk m 0 k }

    numbered : take k (numbers_of m.rows k) ≡ called (view m)
    numbered =
        numbers_view m.rows k (omega (arith, due_fit, g.room)) (omega (arith, due_fit, g.room))
        ∙ ap (map number_of) (sym (take-take k m.count m.rows due_fit) ∙ sym due_are)

    numbered_procs : All (λ (n : ℕ). n ≤ last_proc) (take k (numbers_of m.rows k))
    numbered_procs =
        rw numbered (All-over (λ (n : ℕ). n ≤ last_proc) number_of (those (due (view m)) (line m)) (All-those (λ (x : Sleeper). x.number ≤ last_proc) (due (view m)) (line m) (all_procs (line m) g.sound.once)))

    some_wake : (ns : List ℕ) → length ns ≡ k → (k ≡ 0 → ⊥) → wakes ns ≡ Wakes
    some_wake [] q z = absurd (z (sym q))
    some_wake (n ∷ ns) q z = refl

    pub tick_some : (k ≡ 0 → ⊥) → Comes (tick (view m)) waking
    unfolding tick
    tick_some z = record {
      seen = shrunk_view 0 k (rw (zero-add k) due_fit) ∙ ap (λ (l : List Sleeper). with_asleep l (view m)) (sym left_are);
      said = rw (numbered, some_wake (called (view m)) (rw (← numbered) (length-take-le k (numbers_of m.rows k) (omega (arith, numbers_long m.rows k (omega (arith, due_fit, g.room)) (omega (arith, due_fit, g.room)), due_fit, g.room)))) z);
      good = left_good;
      whole = record { long = numbers_long m.rows k (omega (arith, due_fit, g.room)) (omega (arith, due_fit, g.room)); room = omega (arith, due_fit, g.room); rest = numbers_rest m.rows k (omega (arith, due_fit, g.room)) (omega (arith, due_fit, g.room)); procs = numbered_procs };
    }

  -- ── An end ──

  module _ (n : ℕ) where
    pub end_outside : outside n ≡ true → end n (view m) ≡ refused NoSuchProc (view m)
    unfolding end
    end_outside o = rw o

    pub end_awake : outside n ≡ false → sleeping n (view m) ≡ false → end n (view m) ≡ answered Nothing [] (view m)
    unfolding end
    end_awake o w = rw (o, w)

    module _ (i : ℕ) (f : position_from (is n) 0 (line m) ≡ Some i) where
      pub end_fits : i + 1 ≤ m.count
      end_fits = omega (arith, (found_some (is n) (line m) 0 i f).1.1, line_long)

      only : those (λ x. not (is n x)) (line m) ≡ without_some (line m) i 1
      only = one_out (is n) (line m) 0 i (rw (zero-add i) f) (omega (arith, g.sound.once n, count_le (not (outside n))))

      pub end_good : Good (shrunk m i 1)
      end_good = shrunk_good i 1 end_fits (λ x. not (is n x)) only

      pub end_asleep : outside n ≡ false → end n (view m) ≡ answered Ended [] (view (shrunk m i 1))
      unfolding end
      end_asleep o = rw (o, (found_some (is n) (line m) 0 i f).0) (ap (answered Ended []) (ap (λ (l : List Sleeper). with_asleep l (view m)) only ∙ sym (shrunk_view i 1 end_fits)))
