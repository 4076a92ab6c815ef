-- The numbers of document 01, worked out: what a line, a byte, a code, a cause, a limit or a word comes to, row by row,
-- over machines that no start reaches too (a sum of gaps at its top, the last ids). One statement a table, proved by
-- computing. Every number here is a plain one: nothing of specs/Numbers is named.
use Rattle.std.specs.Prelude.{Some, None}
use mathlib.Core.Path.{◌≡◌, refl}
use mathlib.Core.List.{List, [], ◌∷◌, ◌++◌, map}
use Prim.Native.Nat.{ℕ}
use lib.IntN.{pos, negsuc}
use lib.ListN.{replicate}
use Rattle.rules.specs.declared.Event.{Event}
use Rattle.rules.specs.declared.Event.TheVariants.{Interrupt, Exception}
use Rattle.rules.specs.declared.Cause.TheVariants.{Tlb, General}
use Rattle.rules.specs.declared.Action.TheVariants.{CarryOn, Run, Wait, Halt, Panic, PassUp, Nothing}
use Rattle.rules.specs.declared.Answer.{Answer}
use Rattle.rules.specs.Numbers.{cause_number, word}
use Rattle.rules.specs.Machine.{Process, Machine, On, living, blank}
use Rattle.rules.specs.Rules.{start, step, all_at, run, rule_book}
use Rattle.rules.proofs.Examples.{printed, call}
use Rattle.rules.proofs.Edges.{below}

-- id 1 alone, running in slot 0 with a handle, after so many gaps, with this next id; its clock stands at 0
lone : ℕ → ℕ → ℕ → Machine
lone handle gaps next = record {
  slots = 64;
  ceilings = 64 ∷ replicate 8 0;
  running = record { slot = 0; id = 1; ancestors = []; customer = 0; priority = 0; handle = handle; time = gaps } ∷ [];
  high = [];
  low = [];
  four = 0;
  waiting = [];
  sems = replicate 32 0;
  next = next;
  status = On;
  last = 0;
  total = gaps;
  idle = 0;
  ended = 0;
  elsewhere = blank ∷ [];
}

-- the same with nothing of the kind at a limit
abbrev anyone : Machine
anyone = lone 9 0 2

abbrev told : Machine → Event → Answer
told m e = (step m e).answer

-- a refusal; the caller carries on, and with a result; an action and nothing beside it; the sub-device named
abbrev no : ℕ → Answer
no n = printed n Nothing None None None 0 0

abbrev on : Answer
on = printed 0 (CarryOn 0) None None None 0 0

abbrev says : ℕ → Answer
says n = printed 0 (CarryOn 0) (Some (pos n)) None None 0 0

abbrev served : ℕ → Answer
served d = printed 0 (CarryOn 0) None None (Some d) 0 0

-- ── Limits and words ──

-- the sum of gaps may be 2 to the 62 and no more, and −6 gives all of it; −8 gives the whole word; id 2,147,483,647 is
-- the last
limits : List Answer
limits =
    told (lone 9 4611686018427387899 2) (call 5 6 0 0 0)
    ∷ told (lone 9 4611686018427387899 2) (call 6 6 0 0 0)
    ∷ told (lone 9 4611686018427387904 2) (call 0 6 0 0 0)
    ∷ told (lone 9 2305843009213693952 2) (call 1 6 0 0 0)
    ∷ told (lone 9 4294967295 2) (call 1 6 0 0 0)
    ∷ told (lone 4294967295 0 2) (call 0 8 0 0 0)
    ∷ told (lone 65536 0 2) (call 0 8 0 0 0)
    ∷ told (lone 9 0 2147483647) (call 0 1 0 0 0)
    ∷ told (lone 9 0 2147483648) (call 0 1 0 0 0)
    ∷ []

limits_told : List Answer
limits_told =
    says 4611686018427387904
    ∷ no 3
    ∷ says 4611686018427387904
    ∷ says 2305843009213693953
    ∷ says 4294967296
    ∷ says 4294967295
    ∷ says 65536
    ∷ printed 0 (CarryOn 0) (Some (pos 2147483647)) (Some 1) None 0 0
    ∷ printed 0 (CarryOn 0) (Some (negsuc 0)) None None 0 0
    ∷ []

every_limit : limits ≡ limits_told
unfolding rule_book lone limits limits_told
every_limit = refl

-- ── Exceptions ──

-- every code that a byte can hold, with a handle: "0-7, 9, 10 and 12-23 are program traps, 24-28 TLB exceptions"; "code
-- 8, 11 or above 28"
abbrev general : Answer
general = printed 0 (PassUp 0 General) None None None 0 0

abbrev tlb : Answer
tlb = printed 0 (PassUp 0 Tlb) None None None 0 0

codes_told : List Answer
codes_told = replicate 8 general ++ no 6 ∷ general ∷ general ∷ no 6 ∷ replicate 12 general ++ replicate 5 tlb ++ replicate 227 (no 6)

every_code : map (λ c. told anyone (Exception 0 c)) (below 256) ≡ codes_told
unfolding rule_book lone below codes_told
every_code = refl

-- "0 for TLB or 1 for general", and the words "on, run, wait, halt, panic, up0, up1, none"
every_cause : cause_number Tlb ∷ cause_number General ∷ [] ≡ 0 ∷ 1 ∷ []
every_cause = refl

every_word : map word (CarryOn 5 ∷ Run 5 ∷ Wait ∷ Halt ∷ Panic ∷ PassUp 5 Tlb ∷ PassUp 5 General ∷ Nothing ∷ [])
    ≡ (111 ∷ 110 ∷ []) ∷ (114 ∷ 117 ∷ 110 ∷ []) ∷ (119 ∷ 97 ∷ 105 ∷ 116 ∷ []) ∷ (104 ∷ 97 ∷ 108 ∷ 116 ∷ []) ∷ (112 ∷ 97 ∷ 110 ∷ 105 ∷ 99 ∷ [])
    ∷ (117 ∷ 112 ∷ 48 ∷ []) ∷ (117 ∷ 112 ∷ 49 ∷ []) ∷ (110 ∷ 111 ∷ 110 ∷ 101 ∷ []) ∷ []
every_word = refl

-- ── Interrupts ──

-- lines 0 to 9 and 255, with bytes 0 and 0, 1 and 0, 0 and 1, 1 and 1: "line not 1 to 7; or line 3 to 6 with first byte
-- zero; or line 7 with both zero"
lines_tried : List ℕ
lines_tried = below 10 ++ 255 ∷ []

-- line 1 runs whoever ran again
abbrev again : Answer
again = printed 0 (Run 0) None None None 0 0

abbrev with_bytes : ℕ → ℕ → List Answer
with_bytes x y = map (λ n. told anyone (Interrupt 0 n x y)) lines_tried

none_there : List Answer
none_there = no 5 ∷ no 5 ∷ no 5 ∷ []

both_zero : with_bytes 0 0 ≡ no 5 ∷ again ∷ on ∷ replicate 5 (no 5) ++ none_there
unfolding rule_book lone lines_tried below none_there
both_zero = refl

second_zero : with_bytes 1 0 ≡ no 5 ∷ again ∷ on ∷ served 0 ∷ served 8 ∷ served 16 ∷ served 24 ∷ served 32 ∷ none_there
unfolding rule_book lone lines_tried below none_there
second_zero = refl

first_zero : with_bytes 0 1 ≡ no 5 ∷ again ∷ on ∷ replicate 4 (no 5) ++ served 40 ∷ none_there
unfolding rule_book lone lines_tried below none_there
first_zero = refl

neither_zero : with_bytes 1 1 ≡ no 5 ∷ again ∷ on ∷ served 0 ∷ served 8 ∷ served 16 ∷ served 24 ∷ served 32 ∷ none_there
unfolding rule_book lone lines_tried below none_there
neither_zero = refl

-- each sub-device by its own bit alone, and with every higher bit set too: "(line − 3) × 8 + device; terminal
-- transmission is 32 + device, receipt 40 + device"
bits : List ℕ
bits = 1 ∷ 2 ∷ 4 ∷ 8 ∷ 16 ∷ 32 ∷ 64 ∷ 128 ∷ []

bits_and_above : List ℕ
bits_and_above = 255 ∷ 254 ∷ 252 ∷ 248 ∷ 240 ∷ 224 ∷ 192 ∷ 128 ∷ []

abbrev from_line : (ℕ → Event) → List ℕ → List Answer
from_line e bs = map (λ b. told anyone (e b)) bs

sub_devices_of : List ℕ → List Answer
sub_devices_of bs =
    from_line (λ b. Interrupt 0 3 b 255) bs
    ++ from_line (λ b. Interrupt 0 4 b 255) bs
    ++ from_line (λ b. Interrupt 0 5 b 255) bs
    ++ from_line (λ b. Interrupt 0 6 b 255) bs
    ++ from_line (λ b. Interrupt 0 7 b b) bs
    ++ from_line (λ b. Interrupt 0 7 0 b) bs

every_sub_device : sub_devices_of bits ++ sub_devices_of bits_and_above ≡ map served (below 48) ++ map served (below 48)
unfolding rule_book lone below bits bits_and_above sub_devices_of
every_sub_device = refl

-- on line 7 the lower device number wins, whichever byte has it
every_terminal : from_line (λ b. Interrupt 0 7 128 b) bits ++ from_line (λ b. Interrupt 0 7 b 128) bits ≡ map served (40 ∷ 41 ∷ 42 ∷ 43 ∷ 44 ∷ 45 ∷ 46 ∷ 39 ∷ []) ++ map served (32 ∷ 33 ∷ 34 ∷ 35 ∷ 36 ∷ 37 ∷ 38 ∷ 39 ∷ [])
unfolding rule_book lone bits
every_terminal = refl

-- ── Nucleus lines ──

-- "49 nucleus waiting lines: 48 sub-devices and the pseudo-clock": alone on one of them the machine waits; on a
-- semaphore it panics; past the last sub-device the call is a trap
every_nucleus_line : map (λ d. told anyone (call 0 5 d 0 0)) (below 49) ++ told anyone (call 0 7 0 0 0) ∷ told anyone (call 0 3 0 0 0) ∷ []
    ≡ map (λ d. printed 0 Wait None None (Some d) 0 0) (below 48) ++ general ∷ printed 0 Wait None None None 0 0 ∷ printed 0 Panic None None None 0 0 ∷ []
unfolding rule_book lone below
every_nucleus_line = refl

-- ── What a birth keeps ──

-- "a2 priority (kept ..)", "a3 support handle": the whole words; id 1 has neither, and customer 0
kept : List Process
kept = living (run (start 64 1 0 (replicate 32 0) (1 ∷ replicate 7 0 ++ 1 ∷ [])) (all_at 0 (call 0 1 0 2303 4294967295 ∷ [])))

every_word_kept : kept
    ≡ record { slot = 0; id = 1; ancestors = []; customer = 0; priority = 0; handle = 0; time = 0 }
    ∷ record { slot = 1; id = 2; ancestors = 1 ∷ []; customer = 8; priority = 2303; handle = 4294967295; time = 0 }
    ∷ []
unfolding rule_book kept
every_word_kept = refl
