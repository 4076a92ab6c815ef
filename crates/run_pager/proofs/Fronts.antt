-- What stands at a buffer's front once a complaint is written there.
-- Assumes nothing.
use Rattle.std.proofs.Common.{◌≡◌, ℕ, ◌≤◌, Bool, true, false, List, ◌++◌, length, take, drop, nat_le, le-leb, Some, None, if◌then◌else◌}
use lib.Seq.{take-append_seam}
use Rattle.words.specs.Complaints.{Complains}

front : (b : Bool) (text before after : List ℕ) (n : ℕ) → b ≡ true → Some n ≡ (if b then Some (length text) else None)
    → after ≡ (if b then text ++ drop (length text) before else before) → take n after ≡ text
front true text before after n _ said bytes = let count : n ≡ length text = cc in rw (count, bytes) (take-append_seam text (drop (length text) before))
front false text before after n e said bytes = cc

pub complaint_front : (text before after : List ℕ) (room n : ℕ) → room ≤ length before → Complains text room before after (Some n) → take n after ≡ text
complaint_front text before after room n h c = front (nat_le room (length before)) text before after n (le-leb room (length before) h) c.said c.bytes
