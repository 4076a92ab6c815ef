-- Arrays with one row more, and without some.
-- Assumes nothing.
use mathlib.Core.Path.{◌≡◌, sym, ap, ◌∙◌}
use mathlib.Core.List.{List, ◌∷◌, ◌++◌, map, append_assoc}
use Prim.Native.Nat.{ℕ, ◌+◌, ◌-◌, ◌<◌, ◌≤◌}
use native.Mathlib.Nat.{zero-add}
use native.Mathlib.Numerals.{add-one}
use native.Mathlib.Omega.{arith}
use Rattle.std.proofs.lemmas.List.Edits.{paste_more}
use lib.ListN.{length, take, drop, get_or, get_or-map, set, replicate, length-append, length-drop, length-replicate, length-map}
use lib.Seq.{paste, length-paste, take-paste, drop-paste, set_split, length-take-le, take_at, drop_at, take-append-le, drop-append-le, take-take, drop-drop, take_all}
use Rattle.std.specs.List.{copy_within}
use Rattle.std.proofs.lemmas.List.{drop-take, drop-replicate}
use Rattle.sleeps.specs.Numbers.{places}
use Rattle.sleeps.specs.Rules.{number_of}
use Rattle.sleeps.specs.declared.Sleeper.{Sleeper}
use Rattle.sleeping.specs.Rows.{blank, with_one, without_some, put_in, cut_out, numbers_of}

-- ── One row more ──

module _ (rows : List Sleeper) (n at : ℕ) (x : Sleeper) (le : at ≤ n) (room : n < length rows) where
  line : length (take n rows) ≡ n
  line = length-take-le n rows (omega arith)

  head : length (take at (take n rows)) ≡ at
  head = length-take-le at (take n rows) (omega (arith, line))

  pub one_longer : length (with_one (take n rows) at x) ≡ n + 1
  one_longer = length-append (take at (take n rows)) (x ∷ drop at (take n rows)) ∙ omega (arith, head, line, length-drop at (take n rows))

  pub put_view : take (n + 1) (put_in rows n at x) ≡ with_one (take n rows) at x
  unfolding put_in
  put_view = take_at (with_one (take n rows) at x) (drop (n + 1) rows) (n + 1) one_longer

  pub put_rest : drop (n + 1) (put_in rows n at x) ≡ drop (n + 1) rows
  unfolding put_in
  put_rest = drop_at (with_one (take n rows) at x) (drop (n + 1) rows) (n + 1) one_longer

  pub put_long : length (put_in rows n at x) ≡ length rows
  unfolding put_in
  put_long = length-append (with_one (take n rows) at x) (drop (n + 1) rows) ∙ omega (arith, one_longer, length-drop (n + 1) rows)

  -- those behind moved back by one, and then the row itself
  pub put_is : set (copy_within rows at n (at + 1)) at x ≡ put_in rows n at x
  unfolding put_in
  put_is =
      let l = take n rows in
      let moved = take (n - at) (drop at rows) in
      let front : length (take (at + 1) rows) ≡ at + 1 = length-take-le (at + 1) rows (omega arith) in
      let behind : moved ≡ drop at l = sym (drop-take at (n - at) rows) ∙ ap (λ (k : ℕ). drop at (take k rows)) (let e : at + (n - at) ≡ n = omega arith in e) in
      let head_is : take at (copy_within rows at n (at + 1)) ≡ take at l =
      take-append-le at (take (at + 1) rows ++ moved) (drop (at + 1 + (n - at)) rows) (omega (arith, front, length-append (take (at + 1) rows) moved))
      ∙ take-append-le at (take (at + 1) rows) moved (omega (arith, front))
      ∙ take-take at (at + 1) rows (omega arith)
      ∙ sym (take-take at n rows le) in
      let rest_is : drop (at + 1) (copy_within rows at n (at + 1)) ≡ drop at l ++ drop (n + 1) rows =
      drop-append-le (at + 1) (take (at + 1) rows ++ moved) (drop (at + 1 + (n - at)) rows) (omega (arith, front, length-append (take (at + 1) rows) moved))
      ∙ ap (λ (r : List Sleeper). r ++ drop (at + 1 + (n - at)) rows) (drop_at (take (at + 1) rows) moved (at + 1) front ∙ behind)
      ∙ ap (λ (k : ℕ). drop at l ++ drop k rows) (let e : at + 1 + (n - at) ≡ n + 1 = omega arith in e) in
      set_split (copy_within rows at n (at + 1)) at x (omega (arith, length-paste rows (at + 1) (drop at rows) (n - at) (omega arith) (omega (arith, length-drop at rows))))
      ∙ ap (λ (k : ℕ). take at (copy_within rows at n (at + 1)) ++ x ∷ drop k (copy_within rows at n (at + 1))) (sym (add-one at))
      ∙ ap (λ (r : List Sleeper). take at (copy_within rows at n (at + 1)) ++ x ∷ r) rest_is
      ∙ ap (λ (r : List Sleeper). r ++ x ∷ (drop at l ++ drop (n + 1) rows)) head_is
      ∙ sym (append_assoc (take at l) (x ∷ drop at l) (drop (n + 1) rows))

-- ── Some rows less ──

module _ (rows : List Sleeper) (n at k : ℕ) (le : at + k ≤ n) (room : n ≤ length rows) where
  row : length (take n rows) ≡ n
  row = length-take-le n rows room

  front : length (take at (take n rows)) ≡ at
  front = length-take-le at (take n rows) (omega (arith, row))

  pub some_shorter : length (without_some (take n rows) at k) ≡ n - k
  some_shorter = length-append (take at (take n rows)) (drop (at + k) (take n rows)) ∙ omega (arith, front, row, length-drop (at + k) (take n rows))

  pub cut_view : take (n - k) (cut_out rows n at k) ≡ without_some (take n rows) at k
  unfolding cut_out
  cut_view = take_at (without_some (take n rows) at k) (replicate k blank ++ drop n rows) (n - k) some_shorter

  pub cut_behind : drop (n - k) (cut_out rows n at k) ≡ replicate k blank ++ drop n rows
  unfolding cut_out
  cut_behind = drop_at (without_some (take n rows) at k) (replicate k blank ++ drop n rows) (n - k) some_shorter

  pub cut_long : length (cut_out rows n at k) ≡ length rows
  unfolding cut_out
  cut_long =
      length-append (without_some (take n rows) at k) (replicate k blank ++ drop n rows)
      ∙ omega (arith, some_shorter, length-append (replicate k blank) (drop n rows), length-replicate k blank, length-drop n rows)

  -- those behind moved up, and then the freed places nought
  pub cut_is : paste (copy_within rows (at + k) n at) (n - k) (replicate k blank) k ≡ cut_out rows n at k
  unfolding cut_out
  cut_is =
      let moved = copy_within rows (at + k) n at in
      let m = n - (at + k) in
      let long : m ≤ length (drop (at + k) rows) = omega (arith, length-drop (at + k) rows) in
      let kept : take (n - k) moved ≡ without_some (take n rows) at k =
      ap (λ (j : ℕ). take j moved) (let e : n - k ≡ at + m = omega arith in e)
      ∙ take-paste rows at (drop (at + k) rows) m (omega arith) long
      ∙ ap (λ (r : List Sleeper). r ++ take m (drop (at + k) rows)) (sym (take-take at n rows (omega arith)))
      ∙ ap (λ (r : List Sleeper). take at (take n rows) ++ r) (sym (drop-take (at + k) m rows) ∙ ap (λ (j : ℕ). drop (at + k) (take j rows)) (let e : at + k + m ≡ n = omega arith in e)) in
      let behind : drop (n - k + k) moved ≡ drop n rows =
      sym (drop-drop k (n - k) moved)
      ∙ ap (λ (j : ℕ). drop k (drop j moved)) (let e : n - k ≡ at + m = omega arith in e)
      ∙ ap (λ (r : List Sleeper). drop k r) (drop-paste rows at (drop (at + k) rows) m (omega arith) long)
      ∙ drop-drop k (at + m) rows
      ∙ ap (λ (j : ℕ). drop j rows) (let e : at + m + k ≡ n = omega arith in e) in
      ap (λ (r : List Sleeper). take (n - k) moved ++ r ++ drop (n - k + k) moved) (take_all k (replicate k blank) (omega (arith, length-replicate k blank)))
      ∙ ap (λ (r : List Sleeper). take (n - k) moved ++ replicate k blank ++ r) behind
      ∙ ap (λ (r : List Sleeper). r ++ replicate k blank ++ drop n rows) kept
      ∙ append_assoc (without_some (take n rows) at k) (replicate k blank) (drop n rows)

-- ── Numbers ──

module _ (rows : List Sleeper) (n : ℕ) (room : n ≤ length rows) (fits : n ≤ places) where
  named : length (map number_of (take n rows)) ≡ n
  named = length-map (take n rows) number_of ∙ length-take-le n rows room

  pub numbers_long : length (numbers_of rows n) ≡ places
  unfolding numbers_of
  numbers_long = length-append (map number_of (take n rows)) (replicate (places - n) 0) ∙ omega (arith, named, length-replicate {A = ℕ} (places - n) 0)

  pub numbers_view : take n (numbers_of rows n) ≡ map number_of (take n rows)
  unfolding numbers_of
  numbers_view = take_at (map number_of (take n rows)) (replicate (places - n) 0) n named

  pub numbers_rest : drop n (numbers_of rows n) ≡ replicate (places - n) 0
  unfolding numbers_of
  numbers_rest = drop_at (map number_of (take n rows)) (replicate (places - n) 0) n named

-- those of the first rows alone
pub numbers_part : (rows : List Sleeper) (k : ℕ) → k ≤ length rows → numbers_of (take k rows) (length (take k rows)) ≡ numbers_of rows k
unfolding numbers_of
numbers_part rows k h = rw (length-take-le k rows h, take-take k k rows (omega arith))

-- written number by number into noughts
pub numbers_more : (rows : List Sleeper) (i : ℕ) → i < length rows → length rows ≤ places
    → set (paste (replicate places 0) 0 (map number_of rows) i) i (get_or rows i blank).number ≡ paste (replicate places 0) 0 (map number_of rows) (i + 1)
numbers_more rows i h fits =
    let s = map number_of rows in
    ap (λ (v : ℕ). set (paste (replicate places 0) 0 s i) i v) (sym (get_or-map number_of rows i blank))
    ∙ ap (λ (k : ℕ). set (paste (replicate places 0) 0 s i) k (get_or s i 0)) (sym (zero-add i))
    ∙ paste_more (replicate places 0) 0 s i 0 (omega (arith, zero-add i)) (omega (arith, length-map rows number_of))

pub numbers_are : (rows : List Sleeper) → paste (replicate places 0) 0 (map number_of rows) (length rows) ≡ numbers_of rows (length rows)
unfolding numbers_of
numbers_are rows =
    ap (λ (r : List ℕ). r ++ drop (0 + length rows) (replicate places 0)) (take_all (length rows) (map number_of rows) (omega (arith, length-map rows number_of)))
    ∙ ap (λ (r : List Sleeper). map number_of r ++ drop (0 + length rows) (replicate places 0)) (sym (take_all (length rows) rows (omega arith)))
    ∙ ap (λ (r : List ℕ). map number_of (take (length rows) rows) ++ r) (drop-replicate (0 + length rows) places 0 ∙ ap (λ (k : ℕ). replicate (places - k) 0) (zero-add (length rows)))
