use Rattle.std.proofs.Common.{◌≡◌, ℕ, ◌+◌, ◌-◌, ◌≤◌, List, ◌++◌, length, take, drop, rules, ap, ◌∙◌, sym, subst, le_refl, drop_at, length-take-le}
use Rattle.std.specs.Io.KnownBytes.{Consumes}
use Rattle.std.proofs.KnownBytes.{Consumes-trans}
use Rattle.std.proofs.lemmas.Slice.{take-put_mid_below}
use borrow.Rule.Slice.PartMut.{put_mid, post_of}
use lib.Seq.{take-add, take-append-le}
use Rattle.streams.proofs.read.Goals as goal

-- behind the first `a` bytes stand the first `m` of those that came
front_and_more : (a k m : ℕ) (xs ys : List ℕ) → a ≤ length xs → m ≤ length ys → take (a + m) (put_mid a k xs ys) ≡ take a xs ++ take m ys
front_and_more a k m xs ys within fits =
    let whole = put_mid a k xs ys in
    let after = post_of a k xs in
    let back : take m (drop a whole) ≡ take m ys = ap (take m) (drop_at (take a xs) (ys ++ after) a (length-take-le a xs within)) ∙ take-append-le m ys after fits in
    take-add a m whole ∙ ap (λ l. l ++ take m (drop a whole)) (take-put_mid_below a k xs ys a (le_refl a) within) ∙ ap (λ l. take a xs ++ l) back

pub loop-n-preserved : goal.loop-n-preserved
loop-n-preserved g c =
    let from = c.loop-n.n in
    let room = length c.loop-n.buf - from in
    let more = c.in_ok-more.more in
    let joined = front_and_more from room more c.loop-n.buf c.read.new.buf c.loop-n.invariant.within c.in_ok-more.ensures.bound.0 in
    record {
      within = search rules;
      same_length = search rules;
      bytes = subst (Consumes (g.R.Read.remaining c.args.input.now) (g.R.Read.remaining c.read.new.self)) (sym joined)
          (Consumes-trans _ _ _ _ _ c.loop-n.invariant.bytes c.in_ok-more.ensures.bytes.0);
    }
