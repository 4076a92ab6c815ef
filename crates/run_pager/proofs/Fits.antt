-- What was written is within its buffer.
use mathlib.Core.Bool.{Bool, true, false}
use mathlib.Core.Path.{◌≡◌}
use mathlib.Core.List.{List, ◌++◌}
use Prim.Native.Nat.{ℕ, ◌≤◌}
use native.Mathlib.Omega.{arith}
use lib.Dec.{leb}
use lib.ListN.{length, drop, length-append}
use Rattle.std.specs.Prelude.{Some, None, if◌then◌else◌}
use Rattle.report.specs.Buffer.{Writes, longest}
use Rattle.words.specs.Complaints.{Complains}

fits : (b : Bool) (text before after : List ℕ) (n : ℕ) → Some n ≡ if b then Some (length text) else None → after ≡ if b then text ++ drop (length text) before else before → n ≤ length after
fits true text before after n e h = let z : n ≡ length text = cc in rw h (omega (arith, length-append text (drop (length text) before)))
fits false text before after n e h = let z : ◌≡◌ {A = ℕ} 0 1 = cc in absurd (omega arith)

pub line_fits : {text before after : List ℕ} {n : ℕ} → Writes text before after (Some n) → n ≤ length after
line_fits {text} {before} {after} {n} w = fits (leb longest (length before)) text before after n w.said w.bytes

pub complaint_fits : {text before after : List ℕ} {room n : ℕ} → Complains text room before after (Some n) → n ≤ length after
complaint_fits {text} {before} {after} {room} {n} w = fits (leb room (length before)) text before after n w.said w.bytes
